use Rattle.std.proofs.Common.{◌≡◌, ◌+◌, length}
use Rattle.std.specs.Option.{IsSome, option_map_or}
use Rattle.asm_core.specs.Cells.{all_fine}
use Rattle.asm_core.specs.Lists.{cells_of}
use Rattle.asm_core.specs.Lists.{list_cells}
use Rattle.asm_core.specs.Words.{items_of}
use Rattle.asm_core.proofs.LongItems.{items_left}
use Rattle.asm_core.proofs.long_list.LongList.all_fine.Given as goal

abbrev pub invariant-items : goal.invariant-items
invariant-items l = record {
  some : IsSome (cells_of l.self-inside.place l.self-inside.size (items_left l.list));
  fine : all_fine l.names (list_cells l.self-inside.place l.self-inside.size (items_left l.list)) ≡ all_fine l.names (list_cells l.self-inside.place l.self-inside.size (items_of l.self-inside.words));
}

abbrev pub decreases-items : goal.decreases-items
decreases-items l = option_map_or (λ rest. 1 + length rest) l.list 0
