use Rattle.std.proofs.Common.{◌+◌, length}
use Rattle.asm_text.specs.Tokens.{line_tokens, onto}
use Rattle.asm_text.proofs.LinePieces.{IsPushedTo}
use Rattle.asm_text.proofs.scan.push_line.Given as goal

abbrev pub invariant-pieces : goal.invariant-pieces
invariant-pieces l =
    IsPushedTo l.line l.start (l.start + length l.fn.text) l.initial.tokens.items (onto l.initial.tokens.items (line_tokens l.line l.start l.fn.text)) l.place l.rest l.tokens.items

abbrev pub decreases-pieces : goal.decreases-pieces
decreases-pieces l = length l.rest
