use Rattle.std.proofs.Common.{◌≡◌, ℕ, List, ap, subst, ◌∙◌}
use Rattle.run_windows.specs.Windows.{end_of}
use Rattle.catchup_engine.specs.EngineValue.{EngineValue}
use Rattle.lockstep_board.specs.Order.{cleared}
use Rattle.run_log.specs.Slice.{slice_records}
use Rattle.run_log.proofs.SliceLaws.{run-bytes, run-trails}
use Rattle.run_stretch.proofs.StretchLaws.{ends-behind, ends-fit}
use Rattle.run_stretch.specs.Kept.{IsKept}
use Rattle.run_stretch.specs.Stretches.{first_board}
use Rattle.run_stretch.proofs.stretch.record_parts.Goals as goal

pub watch_within-requires-clause-room : goal.watch_within-requires-clause-room
watch_within-requires-clause-room c =
    run-trails c.args.parts.now.tape.entries c.args.until c.of-synced.result.machine.now.board c.of-synced.result.is_synced.empty

pub returns-in-Ok-watch_within-clause-done : goal.returns-in-Ok-watch_within-clause-done
returns-in-Ok-watch_within-clause-done c =
    let entries = c.args.parts.now.tape.entries in
    let until = c.args.until in
    let first = first_board c.args.timers c.args.parts.now in
    let before = c.of-synced.result.machine.now.board in
    let begins : before ≡ first = ap (λ (e : EngineValue). e.board) c.of-synced.ensures.value ∙ c.in-Ok.ensures.board in
    let kept : IsKept c.args.room (slice_records entries until first) c.in-Ok-watch_within.kept =
    subst (λ (l : List ℕ). IsKept c.args.room l c.in-Ok-watch_within.kept)
    (run-bytes entries until before c.of-synced.result.is_synced.empty ∙ ap (slice_records entries until) begins) c.in-Ok-watch_within.ensures.kept in
    let there = c.in-Ok-watch_within.ensures.board ∙ ap (λ b. cleared (end_of entries until b)) begins in
    ends-behind _ _ _ _ c.ended.result (c.ended.ensures c.args.room _ kept) there

pub returns-in-Ok-watch_within-clause-fits : goal.returns-in-Ok-watch_within-clause-fits
returns-in-Ok-watch_within-clause-fits c = ends-fit _ _ _ c.ended.result (c.ended.ensures c.args.room _ c.in-Ok-watch_within.ensures.kept)
