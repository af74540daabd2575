-- The parts of a debugger's lines. This project's own choice.
use Rattle.std.specs.Prelude.{ℕ, ◌-◌, List, [], ◌∷◌, ◌++◌, length, replicate, codes}
use Rattle.text_line.specs.Words.{hex_word}

-- an address and a colon
abbrev pub address_head : ℕ → List ℕ
address_head address = hex_word address ++ codes ":"

-- a text with blanks up to a width
abbrev pub column : ℕ → List ℕ → List ℕ
column width text = text ++ replicate (width - length text) 32

-- an address, the bytes or words there in a column, and what they say
abbrev pub listed : ℕ → ℕ → List ℕ → List ℕ → List ℕ
listed address width shown text = (address_head address ++ 32 ∷ column width shown) ++ 32 ∷ text ++ 10 ∷ []
