use Rattle.std.proofs.Common.{arith}
use Rattle.page_pool.proofs.SlotLaws.{given}
use Rattle.page_pool.proofs.pool.PagePool.give.Goals as goal

pub invariant_of-self : goal.invariant_of-self
invariant_of-self c = record { limit = grind (arith, given); room = grind (arith, given); free = grind (arith, given) }
