-- The cells of a statement, however they are kept. This project's own choice.
use Rattle.std.specs.Prelude.{List}
use Rattle.asm_core.specs.declared.cell.Cell.{Cell}
use Rattle.asm_core.specs.declared.cells.Stored.{Stored}
use Rattle.asm_core.specs.declared.cells.Stored.TheVariants as stored

-- the cells that are kept, each by itself or by a list's text
abbrev pub stored_cells : Stored → List Cell
stored_cells (stored.Each cells) = cells
stored_cells (stored.Long list) = list
