-- What the text of a tape is, line by line. This project's own choice.
use Rattle.std.specs.Prelude.{◌≡◌, ℕ, ◌≤◌, List, [], ◌∷◌, ◌++◌, map, Some, AllPairs, codes}
use Rattle.board_base.specs.declared.board.TheConstants.{CLOCK_LIMIT}
use Rattle.tape_ports.specs.declared.entry.TapeEntry.{TapeEntry}
use Rattle.plain_text.specs.Lines.{lines_of, words_of}
use Rattle.plain_text.specs.Numbers.{decimal_of, value_of}
use Rattle.tape_ports.specs.Ports.{port_of}
use Rattle.tape_ports.specs.Tape.{TapeValue}

-- a line of three words, the clock, the port and the value of an entry
pub record IsEntryLine (line : List ℕ) (entry : TapeEntry) : Type 0 where
  pub first : List ℕ
  pub second : List ℕ
  pub third : List ℕ
  pub words : words_of line ≡ first ∷ second ∷ third ∷ []
  pub clock : decimal_of first ≡ Some entry.clock
  pub range : entry.clock ≤ CLOCK_LIMIT
  pub port : port_of second ≡ Some entry.port
  pub value : value_of third ≡ Some entry.value

-- a line of two words, the END clock and END
pub record IsEndLine (line : List ℕ) (end : ℕ) : Type 0 where
  pub first : List ℕ
  pub words : words_of line ≡ first ∷ codes "END" ∷ []
  pub clock : decimal_of first ≡ Some end
  pub range : end ≤ CLOCK_LIMIT

-- each line is the line of its entry
abbrev pub AreEntryLines : List (List ℕ) → List TapeEntry → Type 0
AreEntryLines [] [] = Unit {0}
AreEntryLines (line ∷ lines) (entry ∷ entries) = IsEntryLine line entry × AreEntryLines lines entries
AreEntryLines _ _ = ⊥

-- the clocks of a tape, the END clock last
abbrev pub clocks_of : TapeValue → List ℕ
clocks_of tape = map (λ entry. entry.clock) tape.entries ++ tape.end ∷ []

-- these lines are those of a tape: all but the last are entry lines, the last is the END line, and
-- no clock is above a later one
pub record AreTapeLines (lines : List (List ℕ)) (tape : TapeValue) : Type 0 where
  pub front : List (List ℕ)
  pub last : List ℕ
  pub parts : lines ≡ front ++ last ∷ []
  pub entries : AreEntryLines front tape.entries
  pub end : IsEndLine last tape.end
  pub clocks : AllPairs (λ earlier later. earlier ≤ later) (clocks_of tape)

-- a text is that of a tape exactly where its lines are
abbrev pub IsTapeText : List ℕ → TapeValue → Type 0
IsTapeText text tape = AreTapeLines (lines_of text) tape
