-- The bytes of a statement are read back as what its values say.
use Rattle.std.proofs.Common.{◌≡◌, ℕ, ◌+◌, ◌*◌, ◌/◌, ◌%◌, ◌^◌, ◌<◌, ◌∙◌, ◌&&◌, Bool, true, List, [], ◌∷◌, map, Option, Some, None, refl, ap, ℤ, pos, negsuc, ◌-ℤ◌, lit≤, lit<, arith}
use Rattle.std.proofs.lemmas.Bool.Decides.{nat_tests}
use Rattle.std.proofs.lemmas.Int.{ints}
use Rattle.avg_decode.specs.declared.word.VgWord.{VgWord}
use Rattle.avg_decode.specs.declared.word.VgWord.TheVariants as vg
use Rattle.bit_words.specs.Residues.{residue}
use Rattle.avg_decode.specs.Bits.{field, signed}
use Rattle.avg_decode.specs.Word.{IsInRange, IsLong, second_of, spelling_of, word_of}
use Rattle.avg_decode.proofs.Spellings.{word_of-spelling}
use Rattle.asm_core.specs.Cells.{held, low_bytes, takes}
use Rattle.asm_avg.specs.declared.mnemonic.Mnemonic.{Mnemonic}
use Rattle.asm_avg.specs.declared.mnemonic.Mnemonic.TheVariants.{Vctr, Svec, Stat, Scal, Cntr, Halt, Jsrl, Rtsl, Jmpl}
use Rattle.asm_avg.specs.ReadBack.{IsReadBack, IsSpelling, said_by, word_at}
use Rattle.asm_avg.specs.Statements.{base_of, long_distance, number, mnemonic_origin, places_of, short_distance, mnemonic_size, target}
use Rattle.asm_avg.proofs.Taken.{from_zero, held_number, held_target, long_below, long_takes, number_range, short_below, short_takes, target_range}
use Rattle.asm_avg.proofs.Values.{added, taken}
use Rattle.asm_core.proofs.Covering.{both_pass}

-- a word's spelling is read as the word
spells : (word : VgWord) (n : ℕ) → IsInRange word → n ≡ spelling_of word → IsSpelling word n
spells word n fits is = record { read = ap word_of is ∙ word_of-spelling word fits; spelled = is }

-- a statement of one word
one_read : (mnemonic : Mnemonic) (values : List (Option ℤ)) (word : VgWord) (n : ℕ) → said_by mnemonic values ≡ Some (word, None) → IsInRange word → n < 65536 → n ≡ spelling_of word
    → IsReadBack mnemonic values (low_bytes 2 n)
unfolding low_bytes
one_read mnemonic values word n says fits below is =
    let whole : n % 256 + 256 * (n / 256 % 256) ≡ n = omega arith in record { said = (word, None); by = says; fits = fits; read = rw whole (spells word n fits is) }

-- the bytes of a statement with these values
abbrev pub bytes_with : Mnemonic → List ℤ → List ℕ
bytes_with mnemonic vs = low_bytes (mnemonic_size mnemonic) (base_of mnemonic + added (mnemonic_origin mnemonic) (places_of mnemonic) vs)

-- the second word of a long vector
long_second : (d : ℤ) (z : ℕ) → IsLong d → z < 8 → second_of (residue 8192 d + z * 8192) ≡ (d, z)
unfolding second_of
long_second d z h k =
    let below = long_below d in
    let low : field (residue 8192 d + z * 8192) 0 13 ≡ residue 8192 d = omega arith in
    let high : field (residue 8192 d + z * 8192) 13 3 ≡ z = omega arith in
    rw (low, high, back d h) refl
  where
    back : (d : ℤ) → IsLong d → signed 4096 (residue 8192 d) ≡ d
    back (pos n) h = grind (arith, ints, nat_tests)
    back (negsuc n) h = grind (arith, ints, nat_tests)

stat_back : (a b : ℤ) → takes (number 3 0) a ≡ true → takes (number 4 4) b ≡ true
    → IsReadBack Stat (Some a ∷ Some b ∷ []) (low_bytes 2 (0x6000 + (held (number 3 0) a + (held (number 4 4) b + 0))))
unfolding spelling_of
stat_back a b ha hb =
    let (m, a_is, a_below) = number_range 3 0 a (lit≤ tt) ha in
    let (n, b_is, b_below) = number_range 4 4 b (lit≤ tt) hb in
    rw (a_is, b_is, held_number 3 0 m a_below, held_number 4 4 n b_below)
    (one_read Stat (Some (pos m) ∷ Some (pos n) ∷ []) (vg.Stat m n) (0x6000 + (m * 2 ^ 0 + (n * 2 ^ 4 + 0))) refl (a_below, b_below) (omega arith) (omega arith))

scal_back : (a b : ℤ) → takes (number 3 8) a ≡ true → takes (number 8 0) b ≡ true
    → IsReadBack Scal (Some a ∷ Some b ∷ []) (low_bytes 2 (0x7000 + (held (number 3 8) a + (held (number 8 0) b + 0))))
unfolding spelling_of
scal_back a b ha hb =
    let (m, a_is, a_below) = number_range 3 8 a (lit≤ tt) ha in
    let (n, b_is, b_below) = number_range 8 0 b (lit≤ tt) hb in
    rw (a_is, b_is, held_number 3 8 m a_below, held_number 8 0 n b_below)
    (one_read Scal (Some (pos m) ∷ Some (pos n) ∷ []) (vg.Scal m n) (0x7000 + (m * 2 ^ 8 + (n * 2 ^ 0 + 0))) refl (a_below, b_below) (omega arith) (omega arith))

word_at_its : (to : ℕ) → word_at (0x2000 + 2 * to) ≡ Some to
word_at_its to = grind (arith, nat_tests)

-- values that the places take are read back from the bytes
both_of : (x y : Bool) → (x && (y && true)) ≡ true → (x ≡ true) × (y ≡ true)
both_of x y h = grind arith

all_of : (x y z : Bool) → (x && (y && (z && true))) ≡ true → (x ≡ true) × (y ≡ true) × (z ≡ true)
all_of x y z h = grind arith

pub read_back : (mnemonic : Mnemonic) (vs : List ℤ) → taken (mnemonic_origin mnemonic) (places_of mnemonic) vs ≡ true
    → IsReadBack mnemonic (map (λ v. Some v) vs) (bytes_with mnemonic vs)
unfolding spelling_of low_bytes
read_back Vctr (dx ∷ dy ∷ z ∷ []) h =
    let (hx, hy, hz) = all_of (takes (long_distance 16) dx) (takes (long_distance 0) dy) (takes (number 3 29) z) (rw (from_zero dx, from_zero dy, from_zero z) at h) in
    let x = (long_takes 16 dx).0 hx in
    let y = (long_takes 0 dy).0 hy in
    let (k, is, below) = number_range 3 29 z (lit≤ tt) hz in
    let x_below = long_below dx in
    let y_below = long_below dy in
    let n : ℕ = 0 + (residue 8192 dx / 1 * 2 ^ 16 + (residue 8192 dy / 1 * 2 ^ 0 + (k * 2 ^ 29 + 0))) in
    let second : ℕ = residue 8192 dx + k * 8192 in
    let is_both : n ≡ residue 8192 dy + second * 65536 = omega arith in
    let first : n % 256 + 256 * (n / 256 % 256) ≡ residue 8192 dy = omega arith in
    let behind : n / 256 / 256 % 256 + 256 * (n / 256 / 256 / 256 % 256) ≡ second = omega arith in
    let all : IsReadBack Vctr (Some dx ∷ Some dy ∷ Some (pos k) ∷ []) (low_bytes 4 n) = record {
      said = (vg.Vctr dy, Some (dx, k));
      by = refl;
      fits = (y, x, below);
      read = (
        rw first (spells (vg.Vctr dy) (residue 8192 dy) y refl),
        rw behind (long_second dx k x below),
      );
    } in
    rw (from_zero dx, from_zero dy, from_zero z, is, held_number 3 29 k below) all
read_back Svec (dx ∷ dy ∷ z ∷ []) h =
    let (hx, hy, hz) = all_of (takes (short_distance 0) dx) (takes (short_distance 8) dy) (takes (number 3 5) z) (rw (from_zero dx, from_zero dy, from_zero z) at h) in
    let (k, is, below) = number_range 3 5 z (lit≤ tt) hz in
    let x_below = short_below dx in
    let y_below = short_below dy in
    let n : ℕ = 0x4000 + (residue 64 dx / 2 * 2 ^ 0 + (residue 64 dy / 2 * 2 ^ 8 + (k * 2 ^ 5 + 0))) in
    rw (from_zero dx, from_zero dy, from_zero z, is, held_number 3 5 k below)
    (one_read Svec (Some dx ∷ Some dy ∷ Some (pos k) ∷ []) (vg.Svec dx dy k) n refl ((short_takes 0 dx).0 hx, (short_takes 8 dy).0 hy, below) (omega arith) (omega arith))
read_back Stat (a ∷ b ∷ []) h =
    let (ha, hb) = both_of (takes (number 3 0) a) (takes (number 4 4) b) (rw (from_zero a, from_zero b) at h) in rw (from_zero a, from_zero b) (stat_back a b ha hb)
read_back Scal (a ∷ b ∷ []) h =
    let (ha, hb) = both_of (takes (number 3 8) a) (takes (number 8 0) b) (rw (from_zero a, from_zero b) at h) in rw (from_zero a, from_zero b) (scal_back a b ha hb)
read_back Cntr [] h = one_read Cntr [] vg.Cntr 0x8000 refl tt (lit< tt) refl
read_back Halt [] h = one_read Halt [] vg.Halt 0x2000 refl tt (lit< tt) refl
read_back Jsrl (a ∷ []) h =
    let (to, is, below) = target_range a (both_pass (takes target (a -ℤ pos 0x2000)) true h).0 in
    rw (is, held_target to below)
    (one_read Jsrl (Some (pos (0x2000 + 2 * to)) ∷ []) (vg.Jsrl to) (0xA000 + (to + 0)) (rw (word_at_its to) refl) below (omega arith) (omega arith))
read_back Rtsl [] h = one_read Rtsl [] vg.Rtsl 0xC000 refl tt (lit< tt) refl
read_back Jmpl (a ∷ []) h =
    let (to, is, below) = target_range a (both_pass (takes target (a -ℤ pos 0x2000)) true h).0 in
    rw (is, held_target to below)
    (one_read Jmpl (Some (pos (0x2000 + 2 * to)) ∷ []) (vg.Jmpl to) (0xE000 + (to + 0)) (rw (word_at_its to) refl) below (omega arith) (omega arith))
read_back mnemonic vs h = absurd (grind arith)
