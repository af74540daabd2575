use Rattle.std.proofs.Common.{arith}
use Rattle.workload_gen.specs.Draws.{draws_of}
use Rattle.workload_gen.proofs.DrawLaws.{length-draws_of}
use Rattle.workload_gen.proofs.TapeLaws.{entries_from-tape}
use Rattle.workload_gen.proofs.workload.make.Goals as goal

pub new-requires : goal.new-requires
new-requires c =
    let draws = c.vector_words.new.draws in
    rw (c.deref-2.ensures.value, c.in_ok-entries.ensures) (entries_from-tape (draws_of draws 400) (omega (arith, length-draws_of 400 draws)))
