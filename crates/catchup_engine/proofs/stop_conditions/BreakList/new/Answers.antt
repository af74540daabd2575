use Rattle.std.proofs.Common.{◌≡◌, ◌%◌, get_or, arith}
use Rattle.std.proofs.lemmas.Grind.{common_steps}
use Rattle.catchup_engine.proofs.BreakMarks.{marked-more}
use Rattle.catchup_engine.proofs.stop_conditions.BreakList.new.Goals as goal

pub loop-address-preserved : goal.loop-address-preserved
loop-address-preserved c = record {
  length = grind (arith, common_steps);
  marked =
      (let is : c.from.result ≡ get_or c.args.addresses.now c.loop-address.address-index 0 % 256 = grind (arith, common_steps) in
      marked-more c.loop-address.marks c.args.addresses.now c.loop-address.address-index c.from.result c.loop-address.invariant.length (grind (arith, common_steps)) is
      c.loop-address.invariant.marked);
}
