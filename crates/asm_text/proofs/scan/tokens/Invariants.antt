use Rattle.std.proofs.Common.{length}
use Rattle.asm_text.proofs.TextLines.{IsReadTo}
use Rattle.asm_text.proofs.scan.tokens.Given as goal

abbrev pub invariant-lines : goal.invariant-lines
invariant-lines l = IsReadTo l.text l.line l.place l.rest l.tokens.items

abbrev pub decreases-lines : goal.decreases-lines
decreases-lines l = length l.rest
