use Rattle.std.proofs.Common.{◌≡◌, length, Some, ap, sym, ◌∙◌}
use Rattle.board_base.specs.Cpu.{CpuValue}
use Rattle.board_base.specs.Mid.{MidValue}
use Rattle.catchup_engine.proofs.Turns.{resume-turn}
use Rattle.catchup_engine.proofs.turn.resume.Goals as goal

-- the bus makes the accesses that come next
pub returns-in-Some-clause-turned : goal.returns-in-Some-clause-turned
returns-in-Some-clause-turned g c =
    let state = c.behind-cpu.view_is ∙ c.state.ensures.value in
    let inside : c.args.cpu.now.mid ≡ Some c.in-Some.mid = ap (λ (k : CpuValue). k.mid) (sym state) ∙ c.in-Some.is in
    let six : length c.in-Some.mid.bytes ≡ 6 = ap (λ (m : MidValue). length m.bytes) (sym c.mid.view_is) ∙ c.mid.invariant.bytes in
    resume-turn c.args.tape.now.entries c.args.cpu.now c.in-Some.mid c.args.clocks c.resume-made.result c.args.bus.now c.resume-made.new.bus c.resume-made.new.self
    inside (rw c.state.ensures.value at c.state.ensures.place) six c.requires.ready.between c.requires.ready.some c.resume-made.ensures.advances
