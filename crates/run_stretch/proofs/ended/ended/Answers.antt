use Rattle.std.proofs.Common.{ap, subst, ◌∙◌, is_some}
use Rattle.board_base.specs.Cpu.{CpuValue}
use Rattle.catchup_engine.specs.EngineValue.{EngineValue}
use Rattle.lockstep_board.specs.Peripherals.{board_of}
use Rattle.save_state.specs.Reading.{IsWhole}
use Rattle.save_state.specs.StateBytes.{state_bytes}
use Rattle.run_log.specs.Slices.{saved_bytes}
use Rattle.run_stretch.proofs.ended.ended.Goals as goal

pub returns : goal.returns
unfolding saved_bytes
returns g c =
    let seen = c.machine-machine.ensures.value in
    let is = c.state.ensures.board ∙ ap (λ (e : EngineValue). board_of e.board.cpu e.board.peripherals) seen in
    λ room text kept. record {
      bytes = kept.bytes;
      wanted = kept.wanted;
      board = c.write.ensures.bytes ∙ ap state_bytes is;
      whole = subst IsWhole is c.write.ensures.range;
      clock = c.clock.ensures ∙ ap (λ (e : EngineValue). e.board.peripherals.clock) seen;
      jammed =
          c.is_some.ensures ∙ ap (λ (cpu : CpuValue). is_some cpu.jam) (c.behind-machine.view_is ∙ c.cpu.ensures ∙ ap (λ (e : EngineValue). e.board.cpu) seen);
    }
