-- The language of the vector generator's statements. This project's own choice.
use Rattle.std.specs.Prelude.{List, [], ◌∷◌, Option, Some, None}
use Rattle.std.specs.Option.{option_map_or}
use Rattle.asm_core.specs.declared.cell.Cell.{Cell}
use Rattle.asm_core.specs.declared.cell.Field.{Field}
use Rattle.asm_core.specs.declared.dialect.Form.{Form}
use Rattle.asm_core.specs.declared.dialect.Form.TheVariants as form
use Rattle.asm_core.specs.declared.word.Word.{Word}
use Rattle.asm_core.specs.Lines.{Language}
use Rattle.asm_avg.specs.declared.mnemonic.Mnemonic.{Mnemonic}
use Rattle.asm_avg.specs.Operands.{fields_of, operands_of}
use Rattle.asm_avg.specs.Statements.{base_of, mnemonic_of, mnemonic_origin, places_of, mnemonic_size}

-- the one cell of a statement that has these fields
abbrev pub cell_of : Mnemonic → List Field → Cell
cell_of mnemonic fields = record { size = mnemonic_size mnemonic; base = base_of mnemonic; fields = fields }

-- the form of a statement that begins with a word of the generator's
abbrev pub statement_of : Mnemonic → List Word → Form
statement_of mnemonic ws =
    option_map_or (λ fields. form.Gives (cell_of mnemonic fields ∷ [])) (fields_of (mnemonic_origin mnemonic) (places_of mnemonic) (operands_of ws)) form.NoSuchForm

-- the form of a statement, whose first word may be none of the generator's
abbrev pub form_of : Option Mnemonic → List Word → Form
form_of None ws = form.NotReserved
form_of (Some mnemonic) ws = statement_of mnemonic ws

-- the language: a statement's form depends on its words alone
abbrev pub language : Language
language names at first ws = form_of (mnemonic_of first) ws
