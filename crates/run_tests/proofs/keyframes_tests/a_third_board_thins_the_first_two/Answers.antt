use Rattle.std.proofs.Common.{arith}
use Rattle.keyframes.proofs.KeysLaws.{last-kept}
use Rattle.run_tests.proofs.keyframes_tests.a_third_board_thins_the_first_two.Goals as goal

pub keep-requires-2 : goal.keep-requires-2
keep-requires-2 g c = record { later = last-kept c.keep.ensures.0 c.keep.new.self c.board.result c.board-2.result.clock c.keep.ensures.2 (omega (arith, c.board.ensures, c.board-2.ensures)) }

pub keep-requires-3 : goal.keep-requires-3
keep-requires-3 g c = record { later = last-kept c.keep-2.ensures.0 c.keep-2.new.self c.board-2.result c.board-3.result.clock c.keep-2.ensures.2 (omega (arith, c.board-2.ensures, c.board-3.ensures)) }
