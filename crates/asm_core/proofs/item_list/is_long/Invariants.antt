use Rattle.std.proofs.Common.{◌≡◌, ◌+◌, ◌*◌, ◌≤◌, length}
use Rattle.std.specs.Option.{option_map_or}
use Rattle.rom_image.specs.declared.image.TheConstants.{PROGRAM_ROM_LEN}
use Rattle.asm_core.specs.Words.{items_of}
use Rattle.asm_core.proofs.LongItems.{items_left}
use Rattle.asm_core.proofs.item_list.is_long.Given as goal

abbrev pub invariant-items : goal.invariant-items
invariant-items l = record {
  bytes : l.bytes + length (items_left l.list) * l.size ≡ length (items_of l.words) * l.size;
  small : l.bytes ≤ PROGRAM_ROM_LEN;
}

abbrev pub decreases-items : goal.decreases-items
decreases-items l = option_map_or (λ rest. 1 + length rest) l.list 0
