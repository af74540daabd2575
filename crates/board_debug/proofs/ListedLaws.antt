-- How instructions read in a listing.
use Rattle.std.proofs.Common.{◌≡◌, ℕ, ◌+◌, ◌%◌, ◌<◌, Bool, true, false, cond, nat_lt, List, ◌++◌, sym, ap, ◌∙◌, arith, ℤ, pos, ◌+ℤ◌, ◌-ℤ◌}
use Rattle.std.specs.Option.{option_map_or}
use Rattle.std.proofs.lemmas.Int.{ints}
use Rattle.std.proofs.lemmas.List.{take_all}
use Rattle.asm_cpu.specs.Encodings.{Encodes, signed_byte}
use Rattle.asm_cpu.specs.Mnemonics.{name_of}
use Rattle.cpu_table.specs.declared.instruction.Op.{Op}
use Rattle.cpu_table.specs.declared.instruction.Mode.{Mode}
use Rattle.cpu_table.specs.Decoding.{length_of}
use Rattle.board_debug.specs.Columns.{listed}
use Rattle.board_debug.specs.Instructions.{bytes_text, instruction_line, operand_text, target_of}
use Rattle.board_debug.specs.Listed.{ReadsAs}

pub reads : (address operand : ℕ) (bytes : List ℕ) (op : Op) (mode : Mode) → Encodes bytes op mode operand → ReadsAs address bytes op mode operand
reads address operand bytes op mode encodes = record {
  line =
      ap (instruction_line address bytes) encodes.says
      ∙ ap (λ shown. listed address 9 (bytes_text shown) (name_of op ++ operand_text address mode operand))
      (take_all (length_of mode) bytes (omega (arith, encodes.whole)));
  size = ap (λ said. option_map_or (λ (i : Op × Mode × ℕ). length_of i.1) said 1) encodes.says ∙ sym encodes.whole;
}

by-sign : (at n target : ℕ) (low : Bool) → target < 65536 → pos (at + 2) +ℤ cond low (pos n) (pos n -ℤ pos 256) ≡ pos target
    → (at + (2 + n + cond low 0 0xFF00)) % 65536 ≡ target
by-sign at n target true small is =
    let sum : at + 2 + n ≡ target = omega (arith, ints, is) in
    omega arith
by-sign at n target false small is =
    let sum : at + 2 + n ≡ target + 256 = omega (arith, ints, is) in
    omega arith

-- the address that is shown for a branch
pub target-back : (at n target : ℕ) → target < 65536 → pos (at + 2) +ℤ signed_byte n ≡ pos target → target_of at n ≡ target
target-back at n target small is = by-sign at n target (nat_lt n 128) small is
