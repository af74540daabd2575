-- The values that places take, and the numbers that hold them.
use Rattle.std.proofs.Common.{◌≡◌, ◌↔◌, ℕ, ◌+◌, ◌-◌, ◌*◌, ◌/◌, ◌%◌, ◌^◌, ◌<◌, ◌≤◌, true, refl, ap, ℤ, pos, negsuc, ◌-ℤ◌, arith}
use Rattle.std.proofs.lemmas.Bool.Decides.{nat_tests}
use Rattle.std.proofs.lemmas.Grind.{common_steps}
use Rattle.std.proofs.lemmas.Int.{ints}
use Rattle.bit_words.specs.Residues.{residue}
use Rattle.avg_decode.specs.Word.{IsLong, IsShort}
use Rattle.asm_core.specs.Cells.{held, takes}
use Rattle.asm_avg.specs.Statements.{long_distance, number, short_distance, target}

-- a value that is counted from 0
pub from_zero : (v : ℤ) → v -ℤ pos 0 ≡ v
from_zero v = omega (arith, ints)

-- a long distance is one of 13 bits, and a short one is twice one of 5 bits
pub long_takes : (shift : ℕ) (d : ℤ) → (takes (long_distance shift) d ≡ true) ↔ IsLong d
long_takes shift (pos n) = (λ h. grind (arith, ints, nat_tests), λ h. grind (arith, ints, nat_tests))
long_takes shift (negsuc n) = (λ h. grind (arith, ints, nat_tests), λ h. grind (arith, ints, nat_tests))

pub short_takes : (shift : ℕ) (d : ℤ) → (takes (short_distance shift) d ≡ true) ↔ IsShort d
short_takes shift (pos n) = (λ h. grind (arith, ints, nat_tests), λ h. grind (arith, ints, nat_tests))
short_takes shift (negsuc n) = (λ h. grind (arith, ints, nat_tests), λ h. grind (arith, ints, nat_tests))

-- a number from 0 up isn't negative, and has so many bits
pub number_range : (bits shift : ℕ) (v : ℤ) → 1 ≤ 2 ^ bits → takes (number bits shift) v ≡ true → (n : ℕ) × (v ≡ pos n) × (n < 2 ^ bits)
number_range bits shift (pos n) some h = (n, refl, grind (arith, ints, nat_tests))
number_range bits shift (negsuc n) some h = cc

pub number_taken : (bits shift n : ℕ) → n < 2 ^ bits → takes (number bits shift) (pos n -ℤ pos 0) ≡ true
number_taken bits shift n h = grind (arith, ints, nat_tests)

-- a jump goes to a word's address
pub target_range : (v : ℤ) → takes target (v -ℤ pos 0x2000) ≡ true → (to : ℕ) × (v ≡ pos (0x2000 + 2 * to)) × (to < 8192)
target_range (pos n) h =
    let low : 0x2000 ≤ n = grind (arith, ints, nat_tests) in
    let high : n ≤ 0x2000 + 0x3FFF = grind (arith, ints, nat_tests) in
    let even : n % 2 ≡ 0 = grind (arith, ints, nat_tests) in
    ((n - 0x2000) / 2, ap (λ k. pos k) (omega arith), omega arith)
target_range (negsuc n) h = absurd (grind (arith, ints, nat_tests))

pub target_taken : (to : ℕ) → to < 8192 → takes target (pos (0x2000 + 2 * to) -ℤ pos 0x2000) ≡ true
target_taken to h = let same : pos (0x2000 + 2 * to) -ℤ pos 0x2000 ≡ pos (2 * to) = grind (arith, ints) in rw same (grind (arith, ints, nat_tests))

pub held_target : (to : ℕ) → to < 8192 → held target (pos (0x2000 + 2 * to) -ℤ pos 0x2000) ≡ to
held_target to h =
    let same : pos (0x2000 + 2 * to) -ℤ pos 0x2000 ≡ pos (2 * to) = grind (arith, ints) in
    let half : 2 * to % 16384 / 2 * 1 ≡ to = omega arith in
    rw same half

-- the numbers that hold values
pub long_below : (d : ℤ) → residue 8192 d < 8192
long_below (pos n) = omega arith
long_below (negsuc n) = omega arith

pub short_below : (d : ℤ) → residue 64 d / 2 < 32
short_below (pos n) = omega arith
short_below (negsuc n) = omega arith

pub held_number : (bits shift n : ℕ) → n < 2 ^ bits → held (number bits shift) (pos n) ≡ n * 2 ^ shift
held_number bits shift n h = let same : n % (1 * 2 ^ bits) / 1 ≡ n = grind (arith, common_steps) in ap (λ k. k * 2 ^ shift) same
