-- The tokens of a source. This project's own choice.
use Rattle.std.specs.Prelude.{ℕ, ◌+◌, List, [], ◌∷◌, ◌++◌, length, Option, Some, None, Result, Ok, Err, nat_lt, if◌then◌else◌}
use Rattle.asm_text.specs.declared.fault.AsmCause.{AsmCause}
use Rattle.asm_text.specs.declared.fault.AsmFault.{AsmFault}
use Rattle.asm_text.specs.declared.fault.AsmFault.TheVariants.{TooLong, Line}
use Rattle.asm_text.specs.declared.scan.TheConstants.{TEXT_LIMIT}
use Rattle.asm_text.specs.declared.token.Kind.{Kind}
use Rattle.asm_text.specs.declared.token.Token.{Token}
use Rattle.asm_text.specs.Lines.{code_of, lines_with_ends}
use Rattle.asm_text.specs.Pieces.{kind_of, pieces_of}

-- these before the others, or the fault of the others
abbrev pub onto : {X : Type 0} → List X → Result (List X) AsmFault → Result (List X) AsmFault
onto first (Ok rest) = Ok (first ++ rest)
onto first (Err fault) = Err fault

-- what comes of a piece of this kind: its token before the rest, the rest, or its fault
abbrev pub with_token : ℕ → ℕ → ℕ → Result (Option Kind) AsmCause → Result (List Token) AsmFault → Result (List Token) AsmFault
with_token line start end (Ok None) rest = rest
with_token line start end (Ok (Some kind)) rest = onto (record { kind = kind; start = start; end = end; line = line } ∷ []) rest
with_token line start end (Err cause) rest = Err (Line line cause)

-- the tokens of a line's pieces, the first of which begins at this place, or the first fault
unfoldable pub piece_tokens : ℕ → ℕ → List (List ℕ) → Result (List Token) AsmFault
piece_tokens line place [] = Ok []
piece_tokens line place (piece ∷ pieces) =
    with_token line place (place + length piece) (kind_of piece) (piece_tokens line (place + length piece) pieces)

-- the tokens of a line, which begins at this place, or its first fault
abbrev pub line_tokens : ℕ → ℕ → List ℕ → Result (List Token) AsmFault
line_tokens line place bytes = piece_tokens line place (pieces_of (code_of bytes))

-- the first fault, or the tokens of a line and then those of the rest
abbrev pub joined : Result (List Token) AsmFault → Result (List Token) AsmFault → Result (List Token) AsmFault
joined (Ok first) rest = onto first rest
joined (Err fault) rest = Err fault

-- the tokens of the lines from this number and this place on, or the first fault
unfoldable pub tokens_from : ℕ → ℕ → List (List ℕ) → Result (List Token) AsmFault
tokens_from line place [] = Ok []
tokens_from line place (bytes ∷ lines) = joined (line_tokens line place bytes) (tokens_from (line + 1) (place + length bytes) lines)

-- the tokens of a source, or its one fault: it may be too long; lines count from 1
abbrev pub tokens_of : List ℕ → Result (List Token) AsmFault
tokens_of text = if nat_lt TEXT_LIMIT (length text) then Err TooLong else tokens_from 1 0 (lines_with_ends text)
