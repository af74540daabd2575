-- What is known of bytes that are decoded.
use Rattle.std.proofs.Common.{◌≡◌, ℕ, ◌-◌, ◌<◌, ◌≤◌, Bool, true, false, cond, nat_lt, List, [], ◌∷◌, length, get_or, take, Option, Some, None, suc, zero, refl, ap, arith}
use Rattle.std.proofs.lemmas.Bool.{ltb-false}
use Rattle.std.proofs.lemmas.Option.{same_Some}
use Rattle.cpu_table.specs.declared.instruction.Op.{Op}
use Rattle.cpu_table.specs.declared.instruction.Mode.{Mode}
use Rattle.cpu_table.specs.declared.instruction.Mode.TheVariants.{Implied, Accumulator, Immediate, ZeroPage, ZeroPageX, ZeroPageY, Absolute, AbsoluteX, AbsoluteY, Indirect}
use Rattle.cpu_table.specs.declared.instruction.Mode.TheVariants.{IndirectX, IndirectY, Relative}
use Rattle.cpu_table.specs.Decoding.{decoded, decoded_row, length_of, little_endian}
use Rattle.cpu_table.specs.Opcodes.{row_of}

some-length : (mode : Mode) → 1 ≤ length_of mode
some-length Implied = omega arith
some-length Accumulator = omega arith
some-length Immediate = omega arith
some-length ZeroPage = omega arith
some-length ZeroPageX = omega arith
some-length ZeroPageY = omega arith
some-length Absolute = omega arith
some-length AbsoluteX = omega arith
some-length AbsoluteY = omega arith
some-length Indirect = omega arith
some-length IndirectX = omega arith
some-length IndirectY = omega arith
some-length Relative = omega arith

one_byte : (n : ℕ) (rest : List ℕ) → ((i : ℕ) → get_or rest i 0 < 256) → n ≤ 1 → little_endian (take n rest) < 256
one_byte zero rest small few = omega arith
one_byte (suc zero) [] small few = omega arith
one_byte (suc zero) (byte ∷ rest) small few = let h : byte < 256 = small 0 in omega arith
one_byte (suc (suc n)) rest small few = absurd (omega arith)

-- the bytes of an instruction are there, and an operand of one byte is below 256
pub record Fits (bytes : List ℕ) (mode : Mode) (n : ℕ) : Type 0 where
  pub whole : length_of mode ≤ length bytes
  pub short : length_of mode ≤ 2 → n < 256

row-fits : (opcode : ℕ) (rest : List ℕ) (row : Option (Op × Mode)) (op : Op) (mode : Mode) (n : ℕ) → ((i : ℕ) → get_or rest i 0 < 256)
    → decoded_row rest row ≡ Some (op, mode, n) → Fits (opcode ∷ rest) mode n
row-fits opcode rest None op mode n small is = cc
row-fits opcode rest (Some (o, m)) op mode n small is = by_room (nat_lt (length rest) (length_of m - 1)) refl is
  where
    by_room : (cut : Bool) → nat_lt (length rest) (length_of m - 1) ≡ cut
        → cond {A = Option (Op × Mode × ℕ)} cut None (Some (o, m, little_endian (take (length_of m - 1) rest))) ≡ Some (op, mode, n) → Fits (opcode ∷ rest) mode n
    by_room true e said = cc
    by_room false e said =
        let all : ◌≡◌ {A = Op × Mode × ℕ} (o, m, little_endian (take (length_of m - 1) rest)) (op, mode, n) = same_Some _ _ said in
        let mode_is : m ≡ mode = ap (λ (i : Op × Mode × ℕ). i.1) all in
        let n_is : little_endian (take (length_of m - 1) rest) ≡ n = ap (λ (i : Op × Mode × ℕ). i.2) all in
        let room = ltb-false (length rest) (length_of m - 1) e in
        let some = some-length m in
        record {
          whole = rw (← mode_is) (omega arith);
          short = λ few. rw (← n_is) (one_byte (length_of m - 1) rest small (let f : length_of m ≤ 2 = rw mode_is few in omega arith));
        }

pub decoded-fits : (bytes : List ℕ) (op : Op) (mode : Mode) (n : ℕ) → ((i : ℕ) → get_or bytes i 0 < 256) → decoded bytes ≡ Some (op, mode, n)
    → Fits bytes mode n
decoded-fits [] op mode n small is = cc
decoded-fits (opcode ∷ rest) op mode n small is = row-fits opcode rest (row_of opcode) op mode n (λ i. small (suc i)) is
