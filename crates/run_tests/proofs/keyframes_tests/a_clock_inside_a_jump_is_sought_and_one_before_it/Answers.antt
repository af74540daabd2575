use Rattle.run_tests.proofs.keyframes_tests.a_clock_inside_a_jump_is_sought_and_one_before_it.Goals as goal

pub seek-requires-clause-along : goal.seek-requires-clause-along
seek-requires-clause-along g c = c.keep_start.ensures.along c.in_ok-tape.tape.entries c.in_ok-engine.engine.board
