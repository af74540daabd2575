use Rattle.std.proofs.Common.{ℕ, sym, subst, []}
use Rattle.cpu_core.specs.Places.{Advances}
use Rattle.cpu_core.specs.Sequences.{start_of}
use Rattle.catchup_engine.specs.Bus.{BusStep}
use Rattle.catchup_engine.proofs.Turns.{runs-advance}
use Rattle.catchup_engine.proofs.turn.begin_sequence.Goals as goal

pub returns-then-clocks-eq-MAX_SEQUENCE_CLOCKS-clause-advances : goal.returns-then-clocks-eq-MAX_SEQUENCE_CLOCKS-clause-advances
returns-then-clocks-eq-MAX_SEQUENCE_CLOCKS-clause-advances g c =
    subst (λ n. (made : ℕ) × Advances (BusStep c.args.tape.now.entries) (start_of c.args.sequence c.args.cpu.now) c.args.sequence [] n made c.args.bus.now c.perform.new.bus c.perform.new.cpu)
    (sym c.if-clocks-eq-MAX_SEQUENCE_CLOCKS.true)
    (runs-advance c.args.tape.now.entries (start_of c.args.sequence c.args.cpu.now) c.args.sequence c.args.bus.now c.perform.new.bus c.perform.new.cpu
    c.perform.ensures.runs c.perform.ensures.boundary)
