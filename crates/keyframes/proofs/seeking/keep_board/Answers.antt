use Rattle.std.proofs.Common.{◌<◌, ◌≤◌, ap, arith, inl, inr, refl, subst, sym, ◌∙◌}
use Rattle.board_base.specs.Board.{BoardValue}
use Rattle.keyframes.specs.Seeking.{CanBeLoaded}
use Rattle.catchup_engine.specs.EngineValue.{EngineValue}
use Rattle.lockstep_board.specs.Peripherals.{board_of}
use Rattle.keyframes.proofs.SeekLaws.{along-kept, last-clock, start-kept, adds-board}
use Rattle.keyframes.proofs.seeking.keep_board.Goals as goal

pub keep-requires : goal.keep-requires
keep-requires g c =
    let clock = ap (λ (b : BoardValue). b.clock) c.state.ensures.board in
    record { later = last-clock (λ n. n < c.state.new.into.clock) _ _ _ c.len.ensures c.clock_of-last.ensures (omega (arith, clock, c.if-last-clock.true, c.clock.ensures)) }

pub returns-then-last-clock-clause-first : goal.returns-then-last-clock-clause-first
returns-then-last-clock-clause-first g c = start-kept _ _ _ _ c.keep.ensures.1 c.keep.ensures.2 c.requires.some

pub returns-then-last-clock-clause-along : goal.returns-then-last-clock-clause-along
returns-then-last-clock-clause-along g c = λ entries b along on_run.
    along-kept _ _ _ _ c.keep.ensures.1 c.keep.ensures.2 entries b (g.M.Machine.value c.args.synced.now.machine.now).board
    (subst CanBeLoaded (sym c.state.ensures.board) (record { undocumented = c.state.ensures.undocumented; place = c.state.ensures.place }))
    (c.state.ensures.board ∙ ap (λ (e : EngineValue). board_of e.board.cpu e.board.peripherals) c.machine-machine.ensures.value) on_run along

pub returns-then-last-clock-clause-roomy : goal.returns-then-last-clock-clause-roomy
returns-then-last-clock-clause-roomy g c = λ roomy.
    inl (adds-board c.args.keys.now c.keep.ensures.0 c.keep.new.self c.state.new.into (g.M.Machine.value c.args.synced.now.machine.now).board
    c.keep.ensures.1 c.keep.ensures.2
    (c.state.ensures.board ∙ ap (λ (e : EngineValue). board_of e.board.cpu e.board.peripherals) c.machine-machine.ensures.value) roomy)

pub returns-else-last-clock-clause-roomy : goal.returns-else-last-clock-clause-roomy
returns-else-last-clock-clause-roomy g c = λ roomy.
    inr (
      refl,
      last-clock (λ n. (g.M.Machine.value c.args.synced.now.machine.now).board.peripherals.clock ≤ n) _ _ _ c.len.ensures
          c.clock_of-last.ensures (omega (arith, c.if-last-clock.false, c.clock.ensures, ap (λ (e : EngineValue). e.board.peripherals.clock) c.machine-machine.ensures.value)),
    )
