use Rattle.std.proofs.Common.{◌≡◌, ◌+◌, ◌*◌, ◌++◌, ◌∷◌, length, take}
use Rattle.std.specs.List.{flat_map}
use Rattle.board_debug.specs.Bytes.{byte_text}
use Rattle.board_debug.specs.Columns.{address_head}
use Rattle.board_debug.proofs.mem.mem_line.Given as goal

abbrev pub invariant-loop-byte : goal.invariant-loop-byte
invariant-loop-byte l = record {
  text : l.line ≡ address_head l.address ++ flat_map (λ byte. 32 ∷ byte_text byte) (take l.byte-index l.bytes);
  len : length l.line ≡ 5 + 3 * l.byte-index;
}
