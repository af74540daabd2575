use Rattle.std.proofs.Common.{◌+◌, ◌<◌, ap, arith, subst, sym, ◌∙◌}
use Rattle.board_base.specs.Board.{BoardValue}
use Rattle.keyframes.specs.Seeking.{CanBeLoaded}
use Rattle.catchup_engine.specs.EngineValue.{EngineValue}
use Rattle.lockstep_board.specs.Peripherals.{board_of}
use Rattle.keyframes.proofs.SeekLaws.{along-kept, last-clock, last-is, start-kept}
use Rattle.keyframes.proofs.seeking.keep_if_due.Goals as goal

pub keep-requires : goal.keep-requires
keep-requires g c =
    let clock = ap (λ (b : BoardValue). b.clock) c.state.ensures.board in
    record {
      later =
          last-clock (λ n. n < c.state.new.into.clock) _ _ _ c.len.ensures c.clock_of-last.ensures
          (omega (arith, clock, c.if-saturating_sub-stride.true, c.saturating_sub.ensures, c.clock.ensures, c.requires.stride));
    }

pub returns-then-saturating_sub-stride-clause-first : goal.returns-then-saturating_sub-stride-clause-first
returns-then-saturating_sub-stride-clause-first g c = start-kept _ _ _ _ c.keep.ensures.1 c.keep.ensures.2 c.requires.some

pub returns-then-saturating_sub-stride-clause-along : goal.returns-then-saturating_sub-stride-clause-along
returns-then-saturating_sub-stride-clause-along g c = λ entries b along on_run.
    along-kept _ _ _ _ c.keep.ensures.1 c.keep.ensures.2 entries b (g.M.Machine.value c.args.synced.now.machine.now).board
    (subst CanBeLoaded (sym c.state.ensures.board) (record { undocumented = c.state.ensures.undocumented; place = c.state.ensures.place }))
    (c.state.ensures.board ∙ ap (λ (e : EngineValue). board_of e.board.cpu e.board.peripherals) c.machine-machine.ensures.value) on_run along

pub returns-then-saturating_sub-stride-clause-near : goal.returns-then-saturating_sub-stride-clause-near
returns-then-saturating_sub-stride-clause-near g c =
    let clock = ap (λ (b : BoardValue). b.clock) c.state.ensures.board in
    last-is _ _ _ _ c.keep.ensures.1 c.keep.ensures.2
    (λ last. (g.M.Machine.value c.args.synced.now.machine.now).board.peripherals.clock < last.board.clock + c.args.stride)
    (omega (arith, clock, c.requires.stride, ap (λ (e : EngineValue). e.board.peripherals.clock) c.machine-machine.ensures.value))

pub returns-else-saturating_sub-stride-clause-near : goal.returns-else-saturating_sub-stride-clause-near
returns-else-saturating_sub-stride-clause-near g c =
    last-clock (λ n. (g.M.Machine.value c.args.synced.now.machine.now).board.peripherals.clock < n + c.args.stride) _ _ _ c.len.ensures c.clock_of-last.ensures
    (omega (arith, c.if-saturating_sub-stride.false, c.saturating_sub.ensures, c.clock.ensures, ap (λ (e : EngineValue). e.board.peripherals.clock) c.machine-machine.ensures.value))
