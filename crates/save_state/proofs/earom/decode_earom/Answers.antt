use Rattle.std.proofs.Common.{arith}
use Rattle.std.proofs.lemmas.List.Elements.{recursion_from_All}
use Rattle.save_state.specs.Fields.{rows_of}
use Rattle.save_state.specs.Reading.{Holds}
use Rattle.save_state.specs.StateBytes.{earom_rows}
use Rattle.save_state.proofs.earom.decode_earom.Goals as goal

pub invariant_of-result : goal.invariant_of-result
invariant_of-result c =
    let fields = recursion_from_All (Holds c.requires.0 c.args.file.now) (rows_of (λ b. b.earom) earom_rows) c.requires.1 in
    search (arith, fields)
