-- Operands in their ranges.
use Rattle.std.proofs.Common.{◌≡◌, ℕ, ◌+◌, ◌-◌, ◌%◌, ◌<◌, ◌≤◌, true, false, nat_lt, refl, ap, ◌∙◌, arith, ℤ, pos, negsuc, ◌+ℤ◌, ◌-ℤ◌}
use Rattle.std.proofs.lemmas.Bool.{false≢true}
use Rattle.std.proofs.lemmas.Bool.Decides.{nat_tests}
use Rattle.std.proofs.lemmas.Int.{ints}
use Rattle.bit_words.specs.Residues.{residue}
use Rattle.asm_core.specs.Cells.{takes}
use Rattle.cpu_table.specs.declared.instruction.Mode.{Mode}
use Rattle.cpu_table.specs.declared.instruction.Mode.TheVariants.{Implied, Accumulator, Immediate, ZeroPage, ZeroPageX, ZeroPageY, Absolute}
use Rattle.cpu_table.specs.declared.instruction.Mode.TheVariants.{AbsoluteX, AbsoluteY, Indirect, IndirectX, IndirectY, Relative}
use Rattle.cpu_table.specs.Decoding.{length_of}
use Rattle.asm_cpu.specs.Encodings.{is_taken, operand_number, signed_byte}
use Rattle.asm_cpu.specs.Modes.{address_place, branch_place, place_of, zero_page_place}

zero-page : (z : ℤ) → takes zero_page_place z ≡ true → pos (residue 256 z) ≡ z
zero-page (pos n) taken =
    let small : n < 256 = grind (arith, nat_tests) in
    let same : n % 256 ≡ n = omega arith in
    ap pos same
zero-page (negsuc n) taken = absurd (false≢true taken)

address : (z : ℤ) → takes address_place z ≡ true → pos (residue 65536 z) ≡ z
address (pos n) taken =
    let small : n < 65536 = grind (arith, nat_tests) in
    let same : n % 65536 ≡ n = omega arith in
    ap pos same
address (negsuc n) taken = absurd (false≢true taken)

wrapped : (m n : ℕ) → m + n ≡ 255 → pos m -ℤ pos 256 ≡ negsuc n
wrapped m n same = omega (arith, ints)

branch : (z : ℤ) → takes branch_place z ≡ true → signed_byte (residue 256 z) ≡ z
branch (pos n) taken =
    let small : n < 128 = grind (arith, nat_tests) in
    let same : n % 256 ≡ n = omega arith in
    let low : nat_lt n 128 ≡ true = grind (arith, nat_tests) in
    rw (same, low) refl
branch (negsuc n) taken =
    let small : n < 128 = grind (arith, nat_tests) in
    let same : 255 - n % 256 ≡ 255 - n = omega arith in
    let high : nat_lt (255 - n) 128 ≡ false = grind (arith, nat_tests) in
    rw (same, high) (wrapped (255 - n) n (omega arith))

-- a branch goes to its target
pub branch-reaches : (at : ℕ) (value : ℤ) → is_taken Relative at value ≡ true → pos (at + 2) +ℤ signed_byte (operand_number Relative at value) ≡ value
branch-reaches at value taken =
    let goes : signed_byte (residue 256 (value -ℤ pos (at + 2))) ≡ value -ℤ pos (at + 2) = branch (value -ℤ pos (at + 2)) taken in
    rw goes (omega (arith, ints))

minus-none : (z : ℤ) → z -ℤ pos 0 ≡ z
minus-none z = omega (arith, ints)

-- an address is the operand
pub address-stays : (mode : Mode) (at : ℕ) (value : ℤ) → (place_of mode).low ≡ pos 0 → 2 ≤ length_of mode → is_taken mode at value ≡ true → pos (operand_number mode at value) ≡ value
address-stays Implied at value low long taken = absurd (omega arith)
address-stays Accumulator at value low long taken = absurd (omega arith)
address-stays Immediate at value low long taken = cc
address-stays Relative at value low long taken = cc
address-stays Absolute at value low long taken = address (value -ℤ pos 0) taken ∙ minus-none value
address-stays AbsoluteX at value low long taken = address (value -ℤ pos 0) taken ∙ minus-none value
address-stays AbsoluteY at value low long taken = address (value -ℤ pos 0) taken ∙ minus-none value
address-stays Indirect at value low long taken = address (value -ℤ pos 0) taken ∙ minus-none value
address-stays ZeroPage at value low long taken = zero-page (value -ℤ pos 0) taken ∙ minus-none value
address-stays ZeroPageX at value low long taken = zero-page (value -ℤ pos 0) taken ∙ minus-none value
address-stays ZeroPageY at value low long taken = zero-page (value -ℤ pos 0) taken ∙ minus-none value
address-stays IndirectX at value low long taken = zero-page (value -ℤ pos 0) taken ∙ minus-none value
address-stays IndirectY at value low long taken = zero-page (value -ℤ pos 0) taken ∙ minus-none value

pub ruleset ranges = (branch-reaches, address-stays)
