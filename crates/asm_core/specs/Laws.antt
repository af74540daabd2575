-- What holds of the lines of a source, and of those that give bytes. This project's own choice.
use Rattle.std.specs.Prelude.{◌≡◌, ℕ, ◌+◌, ◌<◌, ◌≤◌, true, false, List, [], ◌∷◌, ◌++◌, length, slice_index, sum_by, Option, Some, None, Result, Ok, Err, nat_abs}
use Rattle.std.specs.List.{All, AllPairs, list_any}
use Rattle.std.specs.Option.{option_map}
use Rattle.asm_text.specs.declared.fault.AsmFault.{AsmFault}
use Rattle.rom_image.specs.Addresses.{byte_of}
use Rattle.asm_core.specs.declared.dialect.Rom.{Rom}
use Rattle.asm_core.specs.declared.line.Body.{Body}
use Rattle.asm_core.specs.declared.line.Body.TheVariants as body
use Rattle.asm_core.specs.declared.line.Line.{Line}
use Rattle.asm_core.specs.declared.placed.Placed.{Placed}
use Rattle.asm_core.specs.Cells.{cells_bytes, size_of}
use Rattle.asm_core.specs.Expressions.{NameValues, value_of}
use Rattle.asm_core.specs.PassOne.{gives}
use Rattle.asm_core.specs.Lines.{Language}
use Rattle.asm_core.specs.Passes.{Known, line_read, looked_at}

-- a line's bytes are in a ROM
pub record IsInRom (rom : Rom) (placed : Placed) : Type 0 where
  pub low : rom.low ≤ placed.at
  pub high : placed.at + size_of placed.cells ≤ rom.high

abbrev pub AreInRom : Rom → List Placed → Type 0
AreInRom rom lines = All (IsInRom rom) lines

-- no two lines give one byte
abbrev pub AreApart : List Placed → Type 0
AreApart lines = AllPairs (λ one other. (addr : ℕ) → gives addr one ≡ true → gives addr other ≡ false) lines

-- a line's bytes stand at its address
abbrev pub Stands : NameValues → List ℕ → Placed → Type 0
Stands names image placed = (i : ℕ) → i < size_of placed.cells → byte_of image (placed.at + i) ≡ Some (slice_index (cells_bytes names placed.cells) i)

-- an image after another has the bytes of these lines, and else the other's
pub record HasBytes (names : NameValues) (lines : List Placed) (before after : List ℕ) : Type 0 where
  pub each : All (Stands names after) lines
  pub others : (addr : ℕ) → list_any (gives addr) lines ≡ false → byte_of after addr ≡ byte_of before addr

-- a line as it is read, and the names of the lines before it
pub record ReadLine : Type 0 where
  pub names : NameValues
  pub line : Line

-- the lines that an answer gives; a fault gives none
abbrev pub where_ok : {X : Type 0} → (X → List ReadLine) → Result X AsmFault → List ReadLine
where_ok lines (Ok x) = lines x
where_ok lines (Err fault) = []

-- the lines of a source from this number on, up to one that is refused: each is read under what the
-- lines before it make known
unfoldable pub lines_read : Language → Rom → ℕ → Known → List (List ℕ) → List ReadLine
lines_read language rom number known [] = []
lines_read language rom number known (text ∷ texts) =
    where_ok (λ line. record { names = known.names; line = line } ∷ where_ok (λ next. lines_read language rom (number + 1) next texts) (looked_at rom number known line))
    (line_read language number known text)

-- the value of a statement's `.org`, under the names of the lines before it
abbrev pub origin_value : NameValues → Body → Option ℕ
origin_value names body.Nothing = None
origin_value names (body.Equals name e) = None
origin_value names (body.Origin e) = option_map nat_abs (value_of names e)
origin_value names (body.Gives cells) = None

-- the value of a line's `.org`
abbrev pub line_origin : ReadLine → Option ℕ
line_origin read = origin_value read.names read.line.body

-- a line has no `.org`
abbrev pub HasNoOrigin : ReadLine → Type 0
HasNoOrigin read = line_origin read ≡ None

-- how many bytes a statement gives
abbrev pub body_size : Body → ℕ
body_size body.Nothing = 0
body_size (body.Equals name e) = 0
body_size (body.Origin e) = 0
body_size (body.Gives cells) = size_of cells

-- how many bytes lines give
abbrev pub sizes_of : List ReadLine → ℕ
sizes_of lines = sum_by (λ read. body_size read.line.body) lines

-- the address behind lines that begin at the address `first`: the value of their last `.org` and
-- the sizes of the lines behind it, or `first` and the sizes of all
pub record IsAddressAfter (first : ℕ) (lines : List ReadLine) (addr : ℕ) : Type 0 where
  pub last : (before between : List ReadLine) → (org : ReadLine) → (value : ℕ) → lines ≡ before ++ org ∷ between → line_origin org ≡ Some value → All HasNoOrigin between
      → addr ≡ value + sizes_of between
  pub none : All HasNoOrigin lines → addr ≡ first + sizes_of lines

-- a line that gives bytes is the line of its number, and its address is the one behind the lines
-- before it
pub record IsInPlace (lines : List ReadLine) (placed : Placed) : Type 0 where
  pub before : List ReadLine
  pub line : ReadLine
  pub behind : List ReadLine
  pub split : lines ≡ before ++ line ∷ behind
  pub number : placed.line ≡ 1 + length before
  pub gives : line.line.body ≡ body.Gives placed.cells
  pub at : IsAddressAfter 0 before placed.at
