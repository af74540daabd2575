-- A vector of copies of 0.
use Rattle.flat_bus.specs.Flat.{zeros}
use Rattle.flat_bus.proofs.bus.make_zeros.Goals as goal

pub returns-clause-zeros : goal.returns-clause-zeros
unfolding zeros
returns-clause-zeros c = c.in_ok-vec.ensures.items_if_clones_equal (λ y e. e)
