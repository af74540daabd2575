use Rattle.catchup_engine.proofs.Turns.{effects-by, reset-started, reset-inside, resets-one, resets-more}
use Rattle.catchup_engine.proofs.turn.take_reset.Goals as goal

pub begin_reset-requires-clause-clock_done : goal.begin_reset-requires-clause-clock_done
begin_reset-requires-clause-clock_done g c =
    (reset-started c.args.tape.now.entries c.args.cpu.now c.args.bus.now c.begin-fetched.new.bus c.begin-fetched.new.self c.begin-fetched.ensures.advances).clock

pub returns-then-clocks-eq1-clause-resets : goal.returns-then-clocks-eq1-clause-resets
returns-then-clocks-eq1-clause-resets g c =
    resets-one c.args.tape.now.entries c.args.cpu.now c.args.clocks c.args.bus.now c.begin-fetched.new.bus c.begin_reset.new.self c.begin-fetched.new.self
    c.if-clocks-eq1.true
    (reset-started c.args.tape.now.entries c.args.cpu.now c.args.bus.now c.begin-fetched.new.bus c.begin-fetched.new.self c.begin-fetched.ensures.advances)
    (effects-by c.begin-fetched.new.bus c.begin_reset.new.self c.begin_reset.ensures.does)

pub resume-made-requires-clause-middle : goal.resume-made-requires-clause-middle
resume-made-requires-clause-middle g c =
    reset-inside c.args.tape.now.entries c.args.cpu.now c.args.bus.now c.begin-fetched.new.bus c.begin-fetched.new.self
    (reset-started c.args.tape.now.entries c.args.cpu.now c.args.bus.now c.begin-fetched.new.bus c.begin-fetched.new.self c.begin-fetched.ensures.advances)

pub returns-clause-resets : goal.returns-clause-resets
returns-clause-resets g c =
    resets-more c.args.tape.now.entries c.args.cpu.now c.args.clocks c.resume-made.result c.args.bus.now c.begin-fetched.new.bus c.begin_reset.new.self c.resume-made.new.bus
    c.begin-fetched.new.self c.resume-made.new.self
    (reset-started c.args.tape.now.entries c.args.cpu.now c.args.bus.now c.begin-fetched.new.bus c.begin-fetched.new.self c.begin-fetched.ensures.advances)
    (effects-by c.begin-fetched.new.bus c.begin_reset.new.self c.begin_reset.ensures.does)
    c.resume-made.ensures.advances
