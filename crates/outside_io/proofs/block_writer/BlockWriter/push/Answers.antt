use Rattle.outside_io.proofs.GatherLaws.{gathers-cut}
use Rattle.outside_io.proofs.block_writer.BlockWriter.push.Goals as goal

pub returns-in_err-flush-clause-taken : goal.returns-in_err-flush-clause-taken
returns-in_err-flush-clause-taken g c = gathers-cut _ _ _ _ _ _ c.from_residual.ensures.0 c.in_err-flush.ensures.taken
