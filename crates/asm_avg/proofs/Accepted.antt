-- The places of a statement take the values of what fits its words.
use Rattle.std.proofs.Common.{◌≡◌, ℕ, ◌+◌, ◌*◌, ◌<◌, true, List, [], ◌∷◌, map, Option, Some, None, refl, subst, ℤ, pos, arith}
use Rattle.std.proofs.lemmas.Bool.Decides.{nat_tests}
use Rattle.std.specs.Option.{option_map}
use Rattle.avg_decode.specs.declared.word.VgWord.{VgWord}
use Rattle.avg_decode.specs.declared.word.VgWord.TheVariants as vg
use Rattle.asm_avg.specs.declared.mnemonic.Mnemonic.{Mnemonic}
use Rattle.asm_avg.specs.declared.mnemonic.Mnemonic.TheVariants.{Vctr, Svec, Stat, Scal, Cntr, Halt, Jsrl, Rtsl, Jmpl}
use Rattle.asm_avg.specs.ReadBack.{FitsWords, Said, said_by, word_at}
use Rattle.asm_avg.specs.Statements.{mnemonic_origin, places_of, target}
use Rattle.asm_avg.proofs.Taken.{from_zero, long_takes, number_taken, short_takes, target_taken}
use Rattle.asm_avg.proofs.Values.{taken}

jump_taken : (address : ℕ) (said : Said) (jump : ℕ → VgWord) → ((to : ℕ) → FitsWords (jump to, None) → to < 8192)
    → option_map (λ to. (jump to, None)) (word_at address) ≡ Some said → FitsWords said → taken 0x2000 (target ∷ []) (pos address ∷ []) ≡ true
jump_taken address said jump fit says fits =
    let (to, found, is) = jumps (word_at address) says in
    let there : address ≡ 0x2000 + 2 * to = grind (arith, nat_tests, found) in
    rw (there, target_taken to (fit to (subst (λ s. FitsWords s) is fits))) refl
  where
    jumps : (found : Option ℕ) → option_map (λ to. (jump to, None)) found ≡ Some said → (to : ℕ) × (found ≡ Some to) × (said ≡ (jump to, None))
    jumps None says = absurd (cc)
    jumps (Some to) says = (to, refl, cc)

-- what fits its words is taken
pub accepted : (mnemonic : Mnemonic) (vs : List ℤ) (said : Said) → said_by mnemonic (map (λ v. Some v) vs) ≡ Some said → FitsWords said
    → taken (mnemonic_origin mnemonic) (places_of mnemonic) vs ≡ true
accepted Vctr (dx ∷ dy ∷ pos z ∷ []) said says fits =
    let is : said ≡ (vg.Vctr dy, Some (dx, z)) = cc in
    let f = subst (λ s. FitsWords s) is fits in
    rw (from_zero dx, from_zero dy, (long_takes 16 dx).1 f.1, (long_takes 0 dy).1 f.0, number_taken 3 29 z f.2) refl
accepted Svec (dx ∷ dy ∷ pos z ∷ []) said says fits =
    let is : said ≡ (vg.Svec dx dy z, None) = cc in
    let f = subst (λ s. FitsWords s) is fits in
    rw (from_zero dx, from_zero dy, (short_takes 0 dx).1 f.0, (short_takes 8 dy).1 f.1, number_taken 3 5 z f.2) refl
accepted Stat (pos a ∷ pos b ∷ []) said says fits =
    let is : said ≡ (vg.Stat a b, None) = cc in
    let f = subst (λ s. FitsWords s) is fits in
    rw (number_taken 3 0 a f.0, number_taken 4 4 b f.1) refl
accepted Scal (pos a ∷ pos b ∷ []) said says fits =
    let is : said ≡ (vg.Scal a b, None) = cc in
    let f = subst (λ s. FitsWords s) is fits in
    rw (number_taken 3 8 a f.0, number_taken 8 0 b f.1) refl
accepted Cntr [] said says fits = refl
accepted Halt [] said says fits = refl
accepted Jsrl (pos address ∷ []) said says fits = jump_taken address said (λ to. vg.Jsrl to) (λ to h. h) says fits
accepted Rtsl [] said says fits = refl
accepted Jmpl (pos address ∷ []) said says fits = jump_taken address said (λ to. vg.Jmpl to) (λ to h. h) says fits
accepted mnemonic vs said says fits = cc
