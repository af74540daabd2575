use Rattle.std.proofs.Common.{◌≡◌, ◌+◌, ◌*◌, ◌++◌, ◌∷◌, [], length, take}
use Rattle.board_debug.specs.Columns.{address_head}
use Rattle.board_debug.specs.Instructions.{bytes_text}
use Rattle.board_debug.proofs.dis.bytes_line.Given as goal

abbrev pub invariant-loop-byte : goal.invariant-loop-byte
invariant-loop-byte l = record {
  text : l.line ≡ (address_head l.address ++ 32 ∷ []) ++ bytes_text (take l.byte-index l.bytes);
  len : length l.line ≡ 6 + 3 * l.byte-index;
}
