-- The seven accesses, one after another: five dummy reads, and then those of the vector.
use Rattle.cpu_core.proofs.patterns.reset.Goals as goal

pub returns-clause-performs : goal.returns-clause-performs
returns-clause-performs g c =
    rw (← c.r.view_is) (
      c.dummy_read.result,
      c.dummy_read.new.bus,
      c.dummy_read.ensures.step,
      (
        c.dummy_read-2.result,
        c.dummy_read-2.new.bus,
        c.dummy_read-2.ensures.step,
        (
          c.dummy_read-3.result,
          c.dummy_read-3.new.bus,
          c.dummy_read-3.ensures.step,
          (
            c.dummy_read-4.result,
            c.dummy_read-4.new.bus,
            c.dummy_read-4.ensures.step,
            (
              c.dummy_read-5.result,
              c.dummy_read-5.new.bus,
              c.dummy_read-5.ensures.step,
              (rw (← c.r.view_is) at c.jump_by_vector.ensures.performs),
            ),
          ),
        ),
      ),
    )
