use Rattle.std.proofs.Common.{arith}
use Rattle.example_runs.proofs.Whole.{found_whole}
use Rattle.example_runs.proofs.files.read_up_to.Goals as goal

-- what came is no longer than the limit, and so the whole file
pub returns-in-Ok-Found-clause-content : goal.returns-in-Ok-Found-clause-content
returns-in-Ok-Found-clause-content g c =
    found_whole (g.S.Shelf.files c.args.shelf.now) c.args.name.now c.args.limit c.in-Ok-Found.field-0 c.load.new.into.items c.in-Ok-Found.field-0-is
    c.in-Ok-Found.ensures.content (omega (arith, c.len.ensures, c.if-len-limit.true))
