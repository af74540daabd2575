-- A word is that of its own spelling.
use Rattle.std.proofs.Common.{◌≡◌, ℕ, ◌+◌, ◌*◌, ◌/◌, ◌^◌, ◌<◌, ℤ, pos, negsuc, refl, ap, ◌∙◌, arith}
use Rattle.std.proofs.lemmas.Bool.Decides.{nat_tests}
use Rattle.std.proofs.lemmas.Int.{ints}
use Rattle.avg_decode.specs.declared.word.VgWord.{VgWord}
use Rattle.avg_decode.specs.declared.word.VgWord.TheVariants.{Vctr, Halt, Svec, Stat, Scal, Cntr, Jsrl, Rtsl, Jmpl}
use Rattle.bit_words.specs.Residues.{residue}
use Rattle.avg_decode.specs.Bits.{field, signed}
use Rattle.avg_decode.specs.Word.{IsInRange, IsLong, IsShort, short_distance, spelling_of, word_of}

-- a field holds a signed number that fits it
long_field : (d : ℤ) → IsLong d → signed 4096 (residue 8192 d) ≡ d
long_field (pos n) h = grind (arith, ints, nat_tests)
long_field (negsuc n) h = grind (arith, ints, nat_tests)

short_field : (d : ℤ) → IsShort d → short_distance (residue 64 d / 2) ≡ d
short_field (pos n) h = grind (arith, ints, nat_tests)
short_field (negsuc n) h = grind (arith, ints, nat_tests)

residue_below : (d : ℤ) → residue 8192 d < 8192
residue_below (pos n) = omega arith
residue_below (negsuc n) = omega arith

short_below : (d : ℤ) → residue 64 d / 2 < 32
short_below (pos n) = omega arith
short_below (negsuc n) = omega arith

code_of : (code rest : ℕ) → code < 8 → rest < 8192 → field (code * 2 ^ 13 + rest) 13 3 ≡ code
code_of code rest h k = omega arith

rest_of : (code rest : ℕ) → rest < 8192 → field (code * 2 ^ 13 + rest) 0 13 ≡ rest
rest_of code rest k = omega arith

-- a word is that of its own spelling
pub word_of-spelling : (v : VgWord) → IsInRange v → word_of (spelling_of v) ≡ v
unfolding word_of spelling_of
word_of-spelling (Vctr dy) h =
    let below = residue_below dy in
    let code : field (residue 8192 dy) 13 3 ≡ 0 = omega arith in
    let rest : field (residue 8192 dy) 0 13 ≡ residue 8192 dy = omega arith in
    rw (code, rest, long_field dy h) refl
word_of-spelling Halt h = refl
word_of-spelling (Svec dx dy z) h =
    let x = short_below dx in
    let y = short_below dy in
    let w : ℕ = 2 * 2 ^ 13 + residue 64 dy / 2 * 2 ^ 8 + z * 2 ^ 5 + residue 64 dx / 2 in
    let code : field w 13 3 ≡ 2 = omega arith in
    let in_x : field w 0 5 ≡ residue 64 dx / 2 = omega arith in
    let in_y : field w 8 5 ≡ residue 64 dy / 2 = omega arith in
    let in_z : field w 5 3 ≡ z = omega arith in
    rw (code, in_x, in_y, in_z, short_field dx h.0, short_field dy h.1) refl
word_of-spelling (Stat colour intensity) h =
    let colours : colour < 8 = h.0 in
    let intensities : intensity < 16 = h.1 in
    let w : ℕ = 3 * 2 ^ 13 + intensity * 2 ^ 4 + colour in
    let code : field w 13 3 ≡ 3 = omega arith in
    let setting : field w 12 1 ≡ 0 = omega arith in
    let in_colour : field w 0 3 ≡ colour = omega arith in
    let in_intensity : field w 4 4 ≡ intensity = omega arith in
    rw (code, setting, in_colour, in_intensity) refl
word_of-spelling (Scal bin lin) h =
    let bins : bin < 8 = h.0 in
    let lins : lin < 256 = h.1 in
    let w : ℕ = 3 * 2 ^ 13 + 2 ^ 12 + bin * 2 ^ 8 + lin in
    let code : field w 13 3 ≡ 3 = omega arith in
    let setting : field w 12 1 ≡ 1 = omega arith in
    let in_bin : field w 8 3 ≡ bin = omega arith in
    let in_lin : field w 0 8 ≡ lin = omega arith in
    rw (code, setting, in_bin, in_lin) refl
word_of-spelling Cntr h = refl
word_of-spelling (Jsrl to) h = rw (code_of 5 to (omega arith) h, rest_of 5 to h) refl
word_of-spelling Rtsl h = refl
word_of-spelling (Jmpl to) h = rw (code_of 7 to (omega arith) h, rest_of 7 to h) refl

pub word_of_spelled : (w : ℕ) (v : VgWord) → IsInRange v → w ≡ spelling_of v → word_of w ≡ v
word_of_spelled w v h is = ap word_of is ∙ word_of-spelling v h
