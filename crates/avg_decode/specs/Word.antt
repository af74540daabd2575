-- The words of the vector generator, and how they are spelled. The layout of their fields is this
-- project's own choice.
use Rattle.std.specs.Prelude.{◌≡◌, ℕ, ◌+◌, ◌*◌, ◌/◌, ◌^◌, ⊤, ◌<◌, ◌==◌, if◌then◌else◌, List, [], ◌∷◌, slice_index_or, ℤ, pos, neg_ℤ, ◌+ℤ◌, ◌≤ℤ◌}
use Rattle.avg_decode.specs.declared.word.VgWord.{VgWord}
use Rattle.avg_decode.specs.declared.word.VgWord.TheVariants.{Vctr, Halt, Svec, Stat, Scal, Cntr, Jsrl, Rtsl, Jmpl}
use Rattle.bit_words.specs.Residues.{residue}
use Rattle.avg_decode.specs.Bits.{field, signed}

-- a short vector has half its distances in five bits each
abbrev pub short_distance : ℕ → ℤ
short_distance n = signed 16 n +ℤ signed 16 n

-- a setting: of the colour and the intensity where bit 12 is clear, and else of the scales
abbrev pub setting_of : ℕ → VgWord
setting_of w =
    if field w 12 1 == 0
    then Stat (field w 0 3) (field w 4 4)
    else Scal (field w 8 3) (field w 0 8)

-- what a number spells, for each value that its bits 13 to 15 may have; bits that no field has
-- aren't looked at
abbrev pub words_of : ℕ → List VgWord
words_of w =
    Vctr (signed 4096 (field w 0 13))
    ∷ Halt
    ∷ Svec (short_distance (field w 0 5)) (short_distance (field w 8 5)) (field w 5 3)
    ∷ setting_of w
    ∷ Cntr
    ∷ Jsrl (field w 0 13)
    ∷ Rtsl
    ∷ Jmpl (field w 0 13)
    ∷ []

-- the word that a number spells
unfoldable pub word_of : ℕ → VgWord
word_of w = slice_index_or (words_of w) (field w 13 3) Halt

-- the second word of a long vector: the distance in x, and how bright it is
unfoldable pub second_of : ℕ → ℤ × ℕ
second_of w = (signed 4096 (field w 0 13), field w 13 3)

-- a distance of 13 bits
pub record IsLong (d : ℤ) : Type 0 where
  pub above : neg_ℤ (pos 4096) ≤ℤ d
  pub below : d ≤ℤ pos 4095

-- twice a distance of 5 bits
pub record IsShort (d : ℤ) : Type 0 where
  pub above : neg_ℤ (pos 32) ≤ℤ d
  pub below : d ≤ℤ pos 30
  pub even : residue 2 d ≡ 0

-- each field of a word fits the bits that it has
abbrev pub IsInRange : VgWord → Type 0
IsInRange (Vctr dy) = IsLong dy
IsInRange Halt = ⊤
IsInRange (Svec dx dy z) = IsShort dx × IsShort dy × (z < 8)
IsInRange (Stat colour intensity) = (colour < 8) × (intensity < 16)
IsInRange (Scal bin lin) = (bin < 8) × (lin < 256)
IsInRange Cntr = ⊤
IsInRange (Jsrl to) = to < 8192
IsInRange Rtsl = ⊤
IsInRange (Jmpl to) = to < 8192

-- the number that spells a word, with 0 in the bits that no field has
unfoldable pub spelling_of : VgWord → ℕ
spelling_of (Vctr dy) = residue 8192 dy
spelling_of Halt = 1 * 2 ^ 13
spelling_of (Svec dx dy z) = 2 * 2 ^ 13 + residue 64 dy / 2 * 2 ^ 8 + z * 2 ^ 5 + residue 64 dx / 2
spelling_of (Stat colour intensity) = 3 * 2 ^ 13 + intensity * 2 ^ 4 + colour
spelling_of (Scal bin lin) = 3 * 2 ^ 13 + 2 ^ 12 + bin * 2 ^ 8 + lin
spelling_of Cntr = 4 * 2 ^ 13
spelling_of (Jsrl to) = 5 * 2 ^ 13 + to
spelling_of Rtsl = 6 * 2 ^ 13
spelling_of (Jmpl to) = 7 * 2 ^ 13 + to
