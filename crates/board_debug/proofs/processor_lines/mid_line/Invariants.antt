use Rattle.std.proofs.Common.{◌≡◌, ◌≤◌, ◌+◌, ◌*◌, ◌++◌, length, take}
use Rattle.board_debug.proofs.TextLaws.{spaced}
use Rattle.board_debug.proofs.processor_lines.mid_line.Given as goal

abbrev pub invariant-loop-byte : goal.invariant-loop-byte
invariant-loop-byte l = record {
  text : l.line ≡ l.initial.line ++ spaced (take l.byte-index l.byte-items);
  len : length l.line ≤ length l.initial.line + 3 * l.byte-index;
}
