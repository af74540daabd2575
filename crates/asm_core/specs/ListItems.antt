-- A list that grows at its end. This project's own choice.
use Rattle.std.specs.Prelude.{[], List}
use Rattle.asm_core.specs.declared.list.Items.{Items}
use Rattle.asm_core.specs.declared.list.Items.TheVariants as items

-- the items of a list, in the order in which they were pushed
abbrev pub items_of : {T : Type 0} → Items T → List T
items_of items.None = []
items_of (items.One item) = item
items_of (items.Many many) = many.items
