use Rattle.std.proofs.Common.{◌≡◌, length, take}
use Rattle.catchup_engine.specs.BreakMarks.{AreMarked}
use Rattle.catchup_engine.proofs.stop_conditions.BreakList.new.Given as goal

abbrev pub invariant-loop-address : goal.invariant-loop-address
invariant-loop-address l = record {
  length : length l.marks ≡ 256;
  marked : AreMarked l.marks (take l.address-index l.addresses);
}
