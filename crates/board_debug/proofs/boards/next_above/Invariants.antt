use Rattle.board_debug.specs.OneRun.{IsNextOf}
use Rattle.board_debug.proofs.boards.next_above.Given as goal

-- what was found so far is the least of the clocks above the last one
abbrev pub invariant-loop-clock : goal.invariant-loop-clock
invariant-loop-clock l = IsNextOf l.clocks l.clock-index l.last l.next
