-- What holds of each statement that a language reads. This project's own choice.
use Rattle.std.specs.Prelude.{◌≤◌, ⊤, List, length}
use Rattle.std.specs.List.{All}
use Rattle.asm_core.specs.declared.cell.Cell.{Cell}
use Rattle.asm_core.specs.declared.dialect.Form.{Form}
use Rattle.asm_core.specs.declared.dialect.Form.TheVariants as form
use Rattle.asm_core.specs.declared.line.Body.{Body}
use Rattle.asm_core.specs.declared.line.Body.TheVariants as body
use Rattle.asm_core.specs.Cells.{IsCell}

-- a statement that gives bytes has a cell or more
pub record AreCells (cells : List Cell) : Type 0 where
  pub some : 1 ≤ length cells
  pub each : All IsCell cells

-- the cells of a form are a statement's
abbrev pub IsForm : Form → Type 0
IsForm form.NotReserved = ⊤
IsForm form.NoSuchForm = ⊤
IsForm (form.Gives cells) = AreCells cells

-- the cells of a statement that gives bytes are a statement's
abbrev pub IsBody : Body → Type 0
IsBody body.Nothing = ⊤
IsBody (body.Equals name e) = ⊤
IsBody (body.Origin e) = ⊤
IsBody (body.Gives cells) = AreCells cells
