use Rattle.std.proofs.Common.{arith}
use Rattle.board_debug.proofs.boards.next_above.Goals as goal

pub loop-clock-init : goal.loop-clock-init
loop-clock-init c = λ k d h. absurd (omega (arith, h))
