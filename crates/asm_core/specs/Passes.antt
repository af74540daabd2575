-- The two passes over the lines of a source. This project's own choice.
use Rattle.std.specs.Prelude.{ℕ, ◌+◌, ◌&&◌, Bool, false, not, List, [], ◌∷◌, ◌++◌, Option, Some, None, Result, Ok, Err, is_some, ok_or, nat_le, nat_lt, if◌then◌else◌, ℤ, pos, neg_ℤ, nat_abs}
use Rattle.std.specs.List.{list_any}
use Rattle.std.specs.Option.{option_map_or}
use Rattle.asm_text.specs.declared.fault.AsmCause.{AsmCause}
use Rattle.asm_text.specs.declared.fault.AsmCause.TheVariants.{NoSuchForm, TwiceNamed, UnknownName, OutOfRange, OutsideRom, Overlap}
use Rattle.asm_text.specs.declared.fault.AsmFault.{AsmFault}
use Rattle.asm_text.specs.declared.fault.AsmFault.TheVariants as fault
use Rattle.asm_text.specs.Tokens.{line_tokens}
use Rattle.asm_core.specs.declared.cell.Cell.{Cell}
use Rattle.asm_core.specs.declared.dialect.Rom.{Rom}
use Rattle.asm_core.specs.declared.line.Body.{Body}
use Rattle.asm_core.specs.declared.line.Body.TheVariants as body
use Rattle.asm_core.specs.declared.line.Line.{Line}
use Rattle.asm_core.specs.declared.placed.Placed.{Placed}
use Rattle.asm_core.specs.declared.word.Word.{Word}
use Rattle.asm_core.specs.Cells.{all_fine, all_known, cells_bytes, is_in_range, size_of}
use Rattle.asm_core.specs.Expressions.{NameValues, value_of, value_of_name}
use Rattle.asm_core.specs.Lines.{Language, line_of_words}
use Rattle.asm_core.specs.Words.{words_of}

-- what comes after an answer, or its fault
abbrev pub then_on : {X Y : Type 0} → (X → Result Y AsmFault) → Result X AsmFault → Result Y AsmFault
then_on next (Ok x) = next x
then_on next (Err fault) = Err fault

-- this, unless there is a cause for a fault on this line
abbrev pub unless : {X : Type 0} → Bool → ℕ → AsmCause → Result X AsmFault → Result X AsmFault
unless bad number cause rest = if bad then Err (fault.Line number cause) else rest

-- what pass 1 knows before a line: the names of earlier lines, the line's address, and the earlier
-- lines that give bytes
pub record Known : Type 0 where
  pub names : NameValues
  pub at : ℕ
  pub placed : List Placed

-- the words of a line, or its first bad token
abbrev pub words_read : ℕ → List ℕ → Result (List Word) AsmFault
words_read number text = then_on (λ tokens. Ok (words_of text tokens)) (line_tokens number 0 text)

-- a line, as its language reads it
abbrev pub line_read : Language → ℕ → Known → List ℕ → Result Line AsmFault
line_read language number known text =
    then_on (λ ws. ok_or (line_of_words (language known.names known.at) ws) (fault.Line number NoSuchForm)) (words_read number text)

-- the name has a value
abbrev pub is_named : NameValues → List ℕ → Bool
is_named names name = is_some (value_of_name names name)

-- names with one more
abbrev pub with_name : NameValues → List ℕ → ℤ → NameValues
with_name names name value = names ++ (name, value) ∷ []

-- names with those of a label, which names the line's address
abbrev pub with_label : NameValues → Option (List ℕ) → ℕ → NameValues
with_label names None at = names
with_label names (Some name) at = with_name names name (pos at)

-- a known value in a range, or what is wrong with it
abbrev pub ranged : ℕ → ℤ → ℤ → Bool → Option ℤ → Result ℤ AsmFault
ranged number low high even None = Err (fault.Line number UnknownName)
ranged number low high even (Some value) = unless (not (is_in_range low high even value)) number OutOfRange (Ok value)

-- bytes from an address on share one with those of an earlier line
abbrev pub meets : ℕ → ℕ → Placed → Bool
meets at count placed = nat_lt at (placed.at + size_of placed.cells) && nat_lt placed.at (at + count)

-- bytes from an address on are in the ROM
abbrev pub is_in_rom : Rom → ℕ → ℕ → Bool
is_in_rom rom at count = nat_le rom.low at && nat_le (at + count) rom.high

-- how many bytes a line gives, where its values are in their ranges, and its bytes in the ROM and
-- no earlier line's
abbrev pub room_for : Rom → ℕ → Known → List Cell → Result ℕ AsmFault
room_for rom number known cells =
    unless (not (all_fine known.names cells)) number OutOfRange
    (unless (not (is_in_rom rom known.at (size_of cells))) number OutsideRom
    (unless (list_any (meets known.at (size_of cells)) known.placed) number Overlap
    (Ok (size_of cells))))

-- a line that gives bytes
abbrev pub bytes_looked_at : Rom → ℕ → Known → List Cell → Result Known AsmFault
bytes_looked_at rom number known cells =
    then_on (λ size. Ok (record { names = known.names; at = known.at + size; placed = known.placed ++ record { line = number; at = known.at; cells = cells } ∷ [] }))
    (room_for rom number known cells)

-- the value that a name or the address is given, where the names in it stand on earlier lines
abbrev pub found_before : NameValues → Body → Option ℤ
found_before names body.Nothing = None
found_before names (body.Equals name e) = value_of names e
found_before names (body.Origin e) = value_of names e
found_before names (body.Gives cells) = None

-- a name that is given a value
abbrev pub equals_looked_at : ℕ → Option ℤ → Known → List ℕ → Result Known AsmFault
equals_looked_at number found known name =
    unless (is_named known.names name) number TwiceNamed
    (then_on (λ value. Ok (record { names = with_name known.names name value; at = known.at; placed = known.placed }))
    (ranged number (neg_ℤ (pos 65536)) (pos 65535) false found))

-- a statement, whose value was found before the line's label was named
unfoldable pub body_looked_at : Rom → ℕ → Option ℤ → Known → Body → Result Known AsmFault
body_looked_at rom number found known body.Nothing = Ok known
body_looked_at rom number found known (body.Equals name e) = equals_looked_at number found known name
body_looked_at rom number found known (body.Origin e) =
    then_on (λ value. Ok (record { names = known.names; at = nat_abs value; placed = known.placed }))
    (ranged number (pos 0) (pos 65535) rom.even found)
body_looked_at rom number found known (body.Gives cells) = bytes_looked_at rom number known cells

-- pass 1 over a line
unfoldable pub looked_at : Rom → ℕ → Known → Line → Result Known AsmFault
looked_at rom number known line =
    unless (option_map_or (is_named known.names) line.label false) number TwiceNamed
    (body_looked_at rom number (found_before known.names line.body) (record { names = with_label known.names line.label known.at; at = known.at; placed = known.placed }) line.body)

-- pass 1 over a line's text
unfoldable pub text_looked_at : Language → Rom → ℕ → Known → List ℕ → Result Known AsmFault
text_looked_at language rom number known text = then_on (λ line. looked_at rom number known line) (line_read language number known text)

-- pass 1 over the lines from this number on
unfoldable pub pass_one : Language → Rom → ℕ → Known → List (List ℕ) → Result Known AsmFault
pass_one language rom number known [] = Ok known
pass_one language rom number known (text ∷ texts) =
    then_on (λ next. pass_one language rom (number + 1) next texts) (text_looked_at language rom number known text)

-- the bytes of a line, under all names of the source
unfoldable pub placed_bytes : NameValues → Placed → Result (List ℕ) AsmFault
placed_bytes names placed =
    unless (not (all_known names placed.cells)) placed.line UnknownName
    (unless (not (all_fine names placed.cells)) placed.line OutOfRange
    (Ok (cells_bytes names placed.cells)))
