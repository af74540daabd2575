use Rattle.std.proofs.Common.{◌≡◌, ◌+◌, ◌≤◌, [], ◌++◌, length, IfNone}
use Rattle.std.specs.List.{All}
use Rattle.std.specs.Option.{option_map, option_map_or}
use Rattle.asm_core.specs.Cells.{IsCell}
use Rattle.asm_core.specs.Lists.{cells_of}
use Rattle.asm_core.specs.Words.{items_of}
use Rattle.asm_core.proofs.item_list.read_each.Given as goal

abbrev pub invariant-items : goal.invariant-items
invariant-items l = record {
  list : option_map (λ cells. l.cells ++ cells) (cells_of l.place l.size (option_map_or (λ rest. items_of rest) l.list [])) ≡ cells_of l.place l.size (items_of l.words);
  each : All IsCell l.cells;
  some : IfNone l.list (1 ≤ length l.cells);
}

abbrev pub decreases-items : goal.decreases-items
decreases-items l = option_map_or (λ rest. 1 + length rest) l.list 0
