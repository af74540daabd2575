use Rattle.std.proofs.Common.{◌≡◌, ◌+◌, is_some, length}
use Rattle.std.specs.Option.{option_map_or}
use Rattle.asm_core.specs.Lists.{cells_of}
use Rattle.asm_core.specs.Words.{items_of}
use Rattle.asm_core.proofs.LongItems.{items_left}
use Rattle.asm_core.proofs.item_list.read_long.Given as goal

abbrev pub invariant-items : goal.invariant-items
invariant-items l = is_some (cells_of l.place l.size (items_left l.list)) ≡ is_some (cells_of l.place l.size (items_of l.words))

abbrev pub decreases-items : goal.decreases-items
decreases-items l = option_map_or (λ rest. 1 + length rest) l.list 0
