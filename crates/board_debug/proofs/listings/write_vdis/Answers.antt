use Rattle.std.proofs.Common.{◌-◌, ◌+◌, refl, ap, ◌∙◌}
use Rattle.std.proofs.lemmas.Result.{err_from_is_err_and}
use Rattle.board_debug.specs.Statements.{vdis_text, vg_further, word_seen}
use Rattle.board_debug.specs.Session.{seen_in}
use Rattle.board_debug.proofs.ListingLaws.{none-taken, not-less, one-less, piece-cut, piece-taken, vdis-is, vdis-last, whole-taken}
use Rattle.board_debug.proofs.listings.write_vdis.Goals as goal

pub loop-shown-init : goal.loop-shown-init
loop-shown-init g c = record {
  text = none-taken _ _ _ (ap (vdis_text (seen_in (g.M.Machine.value c.args.machine.now).board) c.args.span.from) (not-less c.args.span.count));
  faults = refl;
}

pub returns-in_err-write-clause-taken : goal.returns-in_err-write-clause-taken
unfolding vdis_text
returns-in_err-write-clause-taken g c =
    let seen = seen_in (g.M.Machine.value c.args.machine.now).board in
    let address = c.loop-shown.address in
    let left = c.args.span.count - (c.loop-shown._shown + 1) in
    let line = vdis-is seen address left c.word_at.result c.word_at-second.result c.vdis_line-line.result.1 _
    (vg_further address c.vdis_line-line.result.1) c.bytes.result.now c.word_at.ensures (c.word_at-second.ensures ∙ ap (word_seen seen) c.further_on.ensures)
    (c.bytes.ensures ∙ c.vdis_line-line.ensures.line) (rw c.word_at.ensures at c.vdis_line-line.ensures.size) refl in
    let p = err_from_is_err_and c.from_residual.result c.from_residual.ensures.1 in
    rw p.1 (piece-cut _ _ _ _ _ _ _ (ap (vdis_text seen address) (one-less c.loop-shown._shown c.args.span.count c.loop-shown-test.true) ∙ line)
    c.in_err-write.ensures.taken c.loop-shown.invariant.text)

pub loop-shown-preserved : goal.loop-shown-preserved
unfolding vdis_text
loop-shown-preserved g c =
    let seen = seen_in (g.M.Machine.value c.args.machine.now).board in
    let address = c.loop-shown.address in
    let left = c.args.span.count - (c.loop-shown._shown + 1) in
    let line = vdis-is seen address left c.word_at.result c.word_at-second.result c.vdis_line-line.result.1 _
    c.further_on-address.result c.bytes.result.now c.word_at.ensures (c.word_at-second.ensures ∙ ap (word_seen seen) c.further_on.ensures)
    (c.bytes.ensures ∙ c.vdis_line-line.ensures.line) (rw c.word_at.ensures at c.vdis_line-line.ensures.size) c.further_on-address.ensures in
    record {
      text = piece-taken _ _ _ _ _ _ _ (ap (vdis_text seen address) (one-less c.loop-shown._shown c.args.span.count c.loop-shown-test.true) ∙ line)
          c.in_ok-write.ensures.taken c.loop-shown.invariant.text;
      faults = c.in_ok-write.ensures.cause ∙ c.loop-shown.invariant.faults;
    }

pub returns-clause-taken : goal.returns-clause-taken
returns-clause-taken g c =
    whole-taken _ _ _ _ (vdis-last (seen_in (g.M.Machine.value c.args.machine.now).board) c.loop-shown.address c.loop-shown._shown c.args.span.count c.loop-shown-test.false)
    c.loop-shown.invariant.text
