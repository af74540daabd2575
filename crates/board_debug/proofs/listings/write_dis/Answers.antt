use Rattle.std.proofs.Common.{refl, ap, ◌∙◌}
use Rattle.std.proofs.lemmas.Result.{err_from_is_err_and}
use Rattle.board_debug.specs.Bytes.{further}
use Rattle.board_debug.specs.Instructions.{dis_text}
use Rattle.board_debug.specs.Session.{seen_in}
use Rattle.board_debug.proofs.ListingLaws.{dis-is, dis-last, none-taken, not-less, piece-cut, piece-taken, whole-taken}
use Rattle.board_debug.proofs.listings.write_dis.Goals as goal

pub loop-shown-init : goal.loop-shown-init
loop-shown-init g c = record {
  text = none-taken _ _ _ (ap (dis_text (seen_in (g.M.Machine.value c.args.machine.now).board) c.args.span.from) (not-less c.args.span.count));
  faults = refl;
}

pub returns-in_err-write-clause-taken : goal.returns-in_err-write-clause-taken
returns-in_err-write-clause-taken g c =
    let line = dis-is (seen_in (g.M.Machine.value c.args.machine.now).board) c.loop-shown.address c.loop-shown._shown c.args.span.count c.dis_line-line.result.1
    (further c.loop-shown.address c.dis_line-line.result.1) c.bytes.result.now c.deref.result.now c.loop-shown-test.true
    (c.deref.ensures.0 ∙ c.instruction_bytes.ensures) (c.bytes.ensures ∙ c.dis_line-line.ensures.line) c.dis_line-line.ensures.size refl in
    let p = err_from_is_err_and c.from_residual.result c.from_residual.ensures.1 in
    rw p.1 (piece-cut _ _ _ _ _ _ _ line c.in_err-write.ensures.taken c.loop-shown.invariant.text)

pub loop-shown-preserved : goal.loop-shown-preserved
loop-shown-preserved g c =
    let line = dis-is (seen_in (g.M.Machine.value c.args.machine.now).board) c.loop-shown.address c.loop-shown._shown c.args.span.count c.dis_line-line.result.1
    (further c.loop-shown.address c.from-address.result) c.bytes.result.now c.deref.result.now c.loop-shown-test.true
    (c.deref.ensures.0 ∙ c.instruction_bytes.ensures) (c.bytes.ensures ∙ c.dis_line-line.ensures.line) c.dis_line-line.ensures.size
    (ap (further c.loop-shown.address) c.from-address.ensures) in
    record {
      text = piece-taken _ _ _ _ _ _ _ line c.in_ok-write.ensures.taken c.loop-shown.invariant.text;
      faults = c.in_ok-write.ensures.cause ∙ c.loop-shown.invariant.faults;
    }

pub returns-clause-taken : goal.returns-clause-taken
returns-clause-taken g c =
    whole-taken _ _ _ _ (dis-last (seen_in (g.M.Machine.value c.args.machine.now).board) c.loop-shown.address c.loop-shown._shown c.args.span.count c.loop-shown-test.false)
    c.loop-shown.invariant.text
