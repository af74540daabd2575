-- The bytes of an instruction, and what they are decoded to.
use Prim.Native.Nat.{suc}
use Rattle.std.proofs.Common.{◌≡◌, ℕ, ◌+◌, ◌-◌, ◌*◌, ◌/◌, ◌%◌, ◌<◌, true, false, List, [], ◌∷◌, length, take, All, Option, Some, None, unwrap_or}
use Rattle.std.proofs.Common.{nat_lt, Bool, cond, refl, sym, ap, ◌∙◌, subst, arith, ℤ, pos, negsuc, ◌-ℤ◌, append-nil, zero, lit<, ◌^◌}
use Rattle.std.proofs.lemmas.List.{take_all}
use Rattle.std.proofs.lemmas.List.Elements.{All-cons, All-head, All-nil, All-tail}
use Rattle.std.proofs.lemmas.Bool.{le-ltb}
use Rattle.std.specs.Option.{option_map}
use Rattle.asm_core.specs.declared.word.Word.{Word}
use Rattle.asm_core.specs.declared.cell.Cell.{Cell}
use Rattle.asm_core.specs.declared.dialect.Form.TheVariants as form
use Rattle.asm_core.specs.declared.expression.Expression.{Expression}
use Rattle.bit_words.specs.Residues.{residue}
use Rattle.asm_core.specs.Cells.{all_known, cell_bytes, cells_bytes, low_bytes}
use Rattle.asm_core.specs.Expressions.{NameValues, expression_of, value_of}
use Rattle.cpu_table.specs.declared.instruction.Op.{Op}
use Rattle.cpu_table.specs.declared.instruction.Mode.{Mode}
use Rattle.cpu_table.specs.declared.instruction.Mode.TheVariants.{Implied, Accumulator, Immediate, ZeroPage, ZeroPageX, ZeroPageY, Absolute}
use Rattle.cpu_table.specs.declared.instruction.Mode.TheVariants.{AbsoluteX, AbsoluteY, Indirect, IndirectX, IndirectY, Relative}
use Rattle.cpu_table.specs.Decoding.{decoded, decoded_row, length_of, little_endian}
use Rattle.cpu_table.specs.Opcodes.{opcode_of, row_of}
use Rattle.cpu_table.proofs.Rows.{opcode_is_byte, opcode_of_row, row_of_opcode}
use Rattle.asm_cpu.specs.Encodings.{AloneEncodes, Encodes, HasOneEncoding, operand_number}
use Rattle.asm_cpu.specs.Modes.{mode_of, operand_origin}
use Rattle.asm_cpu.specs.Statements.{bare_form, cell_form, instruction_of, mode_form, opcode_cell, operand_cell, operand_form, shape_form}
use Rattle.asm_cpu.specs.declared.operand.Shape.{Shape}
use Rattle.asm_cpu.specs.Operands.{is_register, shape_of}

abbrev IsByte : ℕ → Type 0
IsByte byte = byte < 256

residue-less : (modulus : ℕ) (z : ℤ) → 0 < modulus → residue modulus z < modulus
residue-less modulus (pos n) some = omega arith
residue-less modulus (negsuc n) some = omega arith

-- the lowest bytes of a number have its value, where they are enough
record AreLowBytes (count n : ℕ) (bytes : List ℕ) : Type 0 where
  long : length bytes ≡ count
  small : All IsByte bytes
  number : little_endian bytes ≡ n

low-bytes : (count n : ℕ) → n < 256 ^ count → AreLowBytes count n (low_bytes count n)
unfolding low_bytes
low-bytes zero n less = record { long = refl; small = All-nil IsByte; number = omega (arith, less) }
low-bytes (suc count) n less =
    let rest = low-bytes count (n / 256) (omega (arith, less)) in
    record {
      long = ap (λ k. suc k) rest.long;
      small = All-cons IsByte (n % 256) (low_bytes count (n / 256)) (omega arith) rest.small;
      number = omega (arith, rest.number);
    }

-- an opcode with an operand behind it
encodes : (opcode operand count : ℕ) (op : Op) (mode : Mode) → opcode_of op mode ≡ Some opcode → length_of mode ≡ suc count → operand < 256 ^ count
    → Encodes (low_bytes (suc count) (opcode + operand * 256)) op mode operand
unfolding low_bytes
encodes opcode operand count op mode found size less =
    let byte = opcode_is_byte opcode op mode found in
    let behind = low-bytes count operand less in
    let bytes = low_bytes count operand in
    let first : (opcode + operand * 256) % 256 ≡ opcode = omega arith in
    let rest : (opcode + operand * 256) / 256 ≡ operand = omega arith in
    let fewer : length_of mode - 1 ≡ count = omega arith in
    let enough : nat_lt (length bytes) count ≡ false = le-ltb (length bytes) count (omega (arith, behind.long)) in
    rw (first, rest) (record {
      small = All-cons IsByte opcode bytes byte behind.small;
      whole = ap (λ k. suc k) behind.long ∙ sym size;
      says = rw (row_of_opcode opcode op mode found, fewer, enough, take_all count bytes (omega (arith, behind.long)), behind.number) refl;
    })

none-some : {A : Type 0} (read : Op × Mode × ℕ) → None ≡ Some read → A
none-some read none = cc

-- bytes that are decoded begin with the opcode, and their rest is the operand
says-row : (opcode : ℕ) (rest : List ℕ) (op : Op) (mode : Mode) (operand : ℕ) (found : Option (Op × Mode)) → row_of opcode ≡ found → decoded_row rest found ≡ Some (op, mode, operand)
    → (row_of opcode ≡ Some (op, mode)) × (little_endian (take (length_of mode - 1) rest) ≡ operand)
says-row opcode rest op mode operand None is says = cc
says-row opcode rest op mode operand (Some row) is says = within (nat_lt (length rest) (length_of row.1 - 1)) refl
  where
    within : (cut : Bool) → nat_lt (length rest) (length_of row.1 - 1) ≡ cut → (row_of opcode ≡ Some (op, mode)) × (little_endian (take (length_of mode - 1) rest) ≡ operand)
    within true cut = none-some (op, mode, operand) (rw cut at says)
    within false cut =
        let some : Some (row.0, row.1, little_endian (take (length_of row.1 - 1) rest)) ≡ Some (op, mode, operand) = rw cut at says in
        let at_op : row.0 ≡ op = ap (λ (found : Option (Op × Mode × ℕ)). (unwrap_or found (op, mode, operand)).0) some in
        let at_mode : row.1 ≡ mode = ap (λ (found : Option (Op × Mode × ℕ)). (unwrap_or found (op, mode, operand)).1) some in
        let number : little_endian (take (length_of row.1 - 1) rest) ≡ operand = ap (λ (found : Option (Op × Mode × ℕ)). (unwrap_or found (op, mode, operand)).2) some in (
          is ∙ subst (λ (o : Op). Some row ≡ Some (o, mode)) at_op (subst (λ (m : Mode). Some row ≡ Some (row.0, m)) at_mode refl),
          subst (λ (m : Mode). little_endian (take (length_of m - 1) rest) ≡ operand) at_mode number,
        )

-- bytes are known by their number and their count
same-number : (xs ys : List ℕ) → length xs ≡ length ys → All IsByte xs → All IsByte ys → little_endian xs ≡ little_endian ys → xs ≡ ys
same-number [] [] long small_xs small_ys same = refl
same-number [] (y ∷ ys) long small_xs small_ys same = absurd (omega arith)
same-number (x ∷ xs) [] long small_xs small_ys same = absurd (omega arith)
same-number (x ∷ xs) (y ∷ ys) long small_xs small_ys same =
    let small_x : x < 256 = All-head IsByte x xs small_xs in
    let small_y : y < 256 = All-head IsByte y ys small_ys in
    let first : x ≡ y = omega arith in
    let rest : little_endian xs ≡ little_endian ys = omega arith in
    let fewer : length xs ≡ length ys = omega arith in
    let others = same-number xs ys fewer (All-tail IsByte x xs small_xs) (All-tail IsByte y ys small_ys) rest in
    cc

-- two lists of bytes that are decoded to the same are the same
encodes-alone : (bytes others : List ℕ) (op : Op) (mode : Mode) (operand : ℕ) → Encodes bytes op mode operand → Encodes others op mode operand → others ≡ bytes
encodes-alone [] others op mode operand this other = none-some (op, mode, operand) this.says
encodes-alone (b ∷ bytes) [] op mode operand this other = none-some (op, mode, operand) other.says
encodes-alone (b ∷ bytes) (o ∷ others) op mode operand this other =
    let mine = says-row b bytes op mode operand (row_of b) refl this.says in
    let yours = says-row o others op mode operand (row_of o) refl other.says in
    let same_opcode : Some o ≡ Some b = sym (opcode_of_row o op mode yours.0) ∙ opcode_of_row b op mode mine.0 in
    let long_mine : length (b ∷ bytes) ≡ length_of mode = this.whole in
    let long_yours : length (o ∷ others) ≡ length_of mode = other.whole in
    let all_mine : take (length_of mode - 1) bytes ≡ bytes = take_all (length_of mode - 1) bytes (omega arith) in
    let all_yours : take (length_of mode - 1) others ≡ others = take_all (length_of mode - 1) others (omega arith) in
    let same : little_endian others ≡ little_endian bytes = ap little_endian (sym all_yours) ∙ yours.1 ∙ sym mine.1 ∙ ap little_endian all_mine in
    let rest = same-number others bytes (omega arith) (All-tail IsByte o others other.small) (All-tail IsByte b bytes this.small) same in
    cc

encoded : (bytes : List ℕ) (op : Op) (mode : Mode) (operand : ℕ) → Encodes bytes op mode operand → AloneEncodes bytes op mode operand
encoded bytes op mode operand these = record { these = these; alone = λ others other. encodes-alone bytes others op mode operand these other }

-- the bytes of an opcode with an operand, in each mode
operand-bytes : (names : NameValues) (at opcode : ℕ) (e : Expression) (value : ℤ) (mode : Mode) → value_of names e ≡ Some value
    → cell_bytes names (operand_cell at mode e opcode) ≡ low_bytes (length_of mode) (opcode + operand_number mode at value * 256)
unfolding low_bytes
operand-bytes names at opcode e value Implied known = rw known (ap (λ byte. byte ∷ []) (omega arith))
operand-bytes names at opcode e value Accumulator known = rw known (ap (λ byte. byte ∷ []) (omega arith))
operand-bytes names at opcode e value Immediate known = rw known (ap (λ n. low_bytes 2 n) (omega arith))
operand-bytes names at opcode e value ZeroPage known = rw known (ap (λ n. low_bytes 2 n) (omega arith))
operand-bytes names at opcode e value ZeroPageX known = rw known (ap (λ n. low_bytes 2 n) (omega arith))
operand-bytes names at opcode e value ZeroPageY known = rw known (ap (λ n. low_bytes 2 n) (omega arith))
operand-bytes names at opcode e value Absolute known = rw known (ap (λ n. low_bytes 3 n) (omega arith))
operand-bytes names at opcode e value AbsoluteX known = rw known (ap (λ n. low_bytes 3 n) (omega arith))
operand-bytes names at opcode e value AbsoluteY known = rw known (ap (λ n. low_bytes 3 n) (omega arith))
operand-bytes names at opcode e value Indirect known = rw known (ap (λ n. low_bytes 3 n) (omega arith))
operand-bytes names at opcode e value IndirectX known = rw known (ap (λ n. low_bytes 2 n) (omega arith))
operand-bytes names at opcode e value IndirectY known = rw known (ap (λ n. low_bytes 2 n) (omega arith))
operand-bytes names at opcode e value Relative known = rw known (ap (λ n. low_bytes 2 n) (omega arith))

operand-encodes : (names : NameValues) (op : Op) (at opcode : ℕ) (e : Expression) (value : ℤ) (mode : Mode) → opcode_of op mode ≡ Some opcode → value_of names e ≡ Some value
    → Encodes (cell_bytes names (operand_cell at mode e opcode)) op mode (operand_number mode at value)
operand-encodes names op at opcode e value mode found known =
    let size : length_of mode ≡ suc (length_of mode - 1) = long mode in
    let less = residue-less (256 ^ (length_of mode - 1)) (value -ℤ pos (operand_origin mode at)) (some (length_of mode - 1)) in
    rw (operand-bytes names at opcode e value mode known) (rw (← size) at (encodes opcode (operand_number mode at value) (length_of mode - 1) op mode found size less))
  where
    long : (mode : Mode) → length_of mode ≡ suc (length_of mode - 1)
    long mode = grind arith

    some : (k : ℕ) → 0 < 256 ^ k
    some zero = lit< tt
    some (suc k) = omega (arith, some k)

-- the bytes of a statement of one cell
one-cell : (names : NameValues) (cell : Cell) (cells : List Cell) → form.Gives (cell ∷ []) ≡ form.Gives cells → cells_bytes names cells ≡ cell_bytes names cell
one-cell names cell cells same =
    let these : cell ∷ [] ≡ cells = cc in
    subst (λ (all : List Cell). cells_bytes names all ≡ cell_bytes names cell) these (append-nil (cell_bytes names cell))

no-cells : {A : Type 0} (cells : List Cell) → form.NoSuchForm ≡ form.Gives cells → A
no-cells cells other = cc

-- the bytes of an instruction without an expression
pub bare-alone : (names : NameValues) (op : Op) (mode : Mode) (cells : List Cell) → length_of mode ≡ 1 → bare_form op mode ≡ form.Gives cells → AloneEncodes (cells_bytes names cells) op mode 0
bare-alone names op mode cells long gives = by-opcode (opcode_of op mode) refl gives
  where
    by-opcode : (found : Option ℕ) → opcode_of op mode ≡ found → cell_form (option_map opcode_cell found) ≡ form.Gives cells → AloneEncodes (cells_bytes names cells) op mode 0
    by-opcode None is gives = no-cells cells gives
    by-opcode (Some opcode) is gives =
        rw (one-cell names (opcode_cell opcode) cells gives) (encoded (cell_bytes names (opcode_cell opcode)) op mode 0 (encodes opcode 0 0 op mode is long (lit< tt)))

-- the bytes of an instruction with an expression
pub mode-alone : (names : NameValues) (op : Op) (at : ℕ) (mode : Mode) (e : Expression) (value : ℤ) (cells : List Cell) → mode_form op at mode e ≡ form.Gives cells → value_of names e ≡ Some value
    → AloneEncodes (cells_bytes names cells) op mode (operand_number mode at value)
mode-alone names op at mode e value cells gives known = by-opcode (opcode_of op mode) refl gives
  where
    by-opcode : (found : Option ℕ) → opcode_of op mode ≡ found → cell_form (option_map (operand_cell at mode e) found) ≡ form.Gives cells
        → AloneEncodes (cells_bytes names cells) op mode (operand_number mode at value)
    by-opcode None is gives = no-cells cells gives
    by-opcode (Some opcode) is gives =
        rw (one-cell names (operand_cell at mode e opcode) cells gives)
        (encoded (cell_bytes names (operand_cell at mode e opcode)) op mode (operand_number mode at value) (operand-encodes names op at opcode e value mode is known))

-- the bytes of any instruction
known-value : (names : NameValues) (op : Op) (at : ℕ) (mode : Mode) (e : Expression) (cells : List Cell) → mode_form op at mode e ≡ form.Gives cells → all_known names cells ≡ true
    → (value : ℤ) × (value_of names e ≡ Some value)
known-value names op at mode e cells gives known = grind arith

pub instruction-alone : (names later : NameValues) (at : ℕ) (op : Op) (ws : List Word) (cells : List Cell) → instruction_of names at op ws ≡ form.Gives cells → all_known later cells ≡ true
    → HasOneEncoding (cells_bytes later cells) op
unfolding instruction_of
instruction-alone names later at op [] cells gives known = (Implied, 0, bare-alone later op Implied cells refl gives)
instruction-alone names later at op (w ∷ ws) cells gives known = by-register (is_register 97 (w ∷ ws)) gives
  where
    by-expression : (shape : Shape) (read : Option Expression) → shape_form names at op shape read ≡ form.Gives cells → HasOneEncoding (cells_bytes later cells) op
    by-expression shape None gives = no-cells cells gives
    by-expression shape (Some e) gives =
        let mode = mode_of names op shape e in
        let value = known-value later op at mode e cells gives known in
        (mode, operand_number mode at value.0, mode-alone later op at mode e value.0 cells gives value.1)

    by-shape : (read : Option (Shape × List Word)) → operand_form names at op read ≡ form.Gives cells → HasOneEncoding (cells_bytes later cells) op
    by-shape None gives = no-cells cells gives
    by-shape (Some shaped) gives = by-expression shaped.0 (expression_of shaped.1) gives

    by-register : (b : Bool) → cond b (bare_form op Accumulator) (operand_form names at op (shape_of (w ∷ ws))) ≡ form.Gives cells → HasOneEncoding (cells_bytes later cells) op
    by-register true gives = (Accumulator, 0, bare-alone later op Accumulator cells refl gives)
    by-register false gives = by-shape (shape_of (w ∷ ws)) gives

pub ruleset encodings = (instruction-alone)
