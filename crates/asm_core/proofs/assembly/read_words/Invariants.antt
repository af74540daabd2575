use Rattle.std.proofs.Common.{◌≡◌, length}
use Rattle.asm_text.specs.Pieces.{pieces_of}
use Rattle.asm_core.proofs.Checking.{first_fault}
use Rattle.asm_core.proofs.assembly.read_words.Given as goal

abbrev pub invariant-pieces : goal.invariant-pieces
invariant-pieces l = first_fault l.number (pieces_of l.rest) ≡ first_fault l.number (pieces_of l.code)

abbrev pub decreases-pieces : goal.decreases-pieces
decreases-pieces l = length l.rest
