use Rattle.std.proofs.Common.{◌≡◌, ℕ, List, ap, subst, ◌∙◌}
use Rattle.run_windows.specs.declared.until.Until.TheVariants.{Boundary}
use Rattle.run_windows.specs.Windows.{end_of}
use Rattle.catchup_engine.specs.EngineValue.{EngineValue}
use Rattle.lockstep_board.specs.Order.{cleared}
use Rattle.lockstep_board.specs.Run.{to_boundary}
use Rattle.run_samples.specs.BoardSamples.{sampled_bytes}
use Rattle.run_samples.proofs.SampleLaws.{run-room, run-sampled}
use Rattle.run_stretch.specs.Kept.{IsKept}
use Rattle.run_stretch.specs.Stretches.{first_board}
use Rattle.run_stretch.proofs.StretchLaws.{ends-behind, ends-fit}
use Rattle.run_stretch.proofs.stretch.sample_parts.Goals as goal

pub watch_within-requires-clause-room : goal.watch_within-requires-clause-room
unfolding to_boundary
watch_within-requires-clause-room c =
    run-room c.args.parts.now.tape.entries c.of-synced.result.machine.now.board c.of-synced.result.is_synced.empty c.args.limit c.args.per c.of-sampler.result.mixer
    c.requires.limit c.of-sampler.ensures.clock c.of-sampler.ensures.begins

pub returns-in-Ok-watch_within-clause-done : goal.returns-in-Ok-watch_within-clause-done
unfolding to_boundary
returns-in-Ok-watch_within-clause-done c =
    let entries = c.args.parts.now.tape.entries in
    let limit = c.args.limit in
    let first = first_board c.args.timers c.args.parts.now in
    let before = c.of-synced.result.machine.now.board in
    let begins : before ≡ first = ap (λ (e : EngineValue). e.board) c.of-synced.ensures.value ∙ c.in-Ok.ensures.board in
    let kept : IsKept c.args.room (sampled_bytes entries limit c.args.per first) c.in-Ok-watch_within.kept =
    subst (λ (l : List ℕ). IsKept c.args.room l c.in-Ok-watch_within.kept)
    (run-sampled entries before c.of-synced.result.is_synced.empty limit c.args.per c.of-sampler.result.mixer c.requires.some c.of-sampler.ensures.begins
    ∙ ap (sampled_bytes entries limit c.args.per) begins) c.in-Ok-watch_within.ensures.kept in
    let there = c.in-Ok-watch_within.ensures.board ∙ ap (λ b. cleared (end_of entries (Boundary limit) b)) begins in
    ends-behind _ _ _ _ c.ended.result (c.ended.ensures c.args.room _ kept) there

pub returns-in-Ok-watch_within-clause-fits : goal.returns-in-Ok-watch_within-clause-fits
returns-in-Ok-watch_within-clause-fits c = ends-fit _ _ _ c.ended.result (c.ended.ensures c.args.room _ c.in-Ok-watch_within.ensures.kept)
