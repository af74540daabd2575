-- What the vector generator reads in the bytes of a statement. This project's own choice.
use Rattle.std.specs.Prelude.{◌≡◌, ℕ, ◌+◌, ◌-◌, ◌*◌, ◌/◌, ◌%◌, ◌<◌, ◌==◌, ◌&&◌, nat_le, List, [], ◌∷◌, map, Option, Some, None, if◌then◌else◌, ℤ, pos}
use Rattle.std.specs.Option.{option_and_then, option_map}
use Rattle.avg_decode.specs.declared.word.VgWord.{VgWord}
use Rattle.board_map.specs.declared.address.TheConstants.{VECTOR_RAM_START}
use Rattle.avg_decode.specs.declared.word.VgWord.TheVariants as vg
use Rattle.avg_decode.specs.Word.{IsInRange, IsLong, second_of, spelling_of, word_of}
use Rattle.asm_core.specs.declared.word.Word.{Word}
use Rattle.asm_core.specs.Expressions.{NameValues, expression_of, value_of}
use Rattle.asm_avg.specs.declared.mnemonic.Mnemonic.{Mnemonic}
use Rattle.asm_avg.specs.declared.mnemonic.Mnemonic.TheVariants.{Vctr, Svec, Stat, Scal, Cntr, Halt, Jsrl, Rtsl, Jmpl}
use Rattle.asm_avg.specs.Operands.{operands_of}

-- the values of a statement's operands, where they have one
abbrev pub values_of : NameValues → List Word → List (Option ℤ)
values_of names ws = map (λ item. option_and_then (λ e. value_of names e) (expression_of item)) (operands_of ws)

-- what a statement says to the generator: its first word and, of a long vector, the distance in x
-- and how bright it is
abbrev pub Said : Type 0
Said = VgWord × Option (ℤ × ℕ)

-- the number of the word at an even address, from the start of the generator's memory
abbrev pub word_at : ℕ → Option ℕ
word_at address = if nat_le VECTOR_RAM_START address && address % 2 == 0 then Some ((address - VECTOR_RAM_START) / 2) else None

-- what a statement with these values says
abbrev pub said_by : Mnemonic → List (Option ℤ) → Option Said
said_by Vctr (Some dx ∷ Some dy ∷ Some (pos z) ∷ []) = Some (vg.Vctr dy, Some (dx, z))
said_by Svec (Some dx ∷ Some dy ∷ Some (pos z) ∷ []) = Some (vg.Svec dx dy z, None)
said_by Stat (Some (pos colour) ∷ Some (pos intensity) ∷ []) = Some (vg.Stat colour intensity, None)
said_by Scal (Some (pos bin) ∷ Some (pos lin) ∷ []) = Some (vg.Scal bin lin, None)
said_by Cntr [] = Some (vg.Cntr, None)
said_by Halt [] = Some (vg.Halt, None)
said_by Jsrl (Some (pos address) ∷ []) = option_map (λ to. (vg.Jsrl to, None)) (word_at address)
said_by Rtsl [] = Some (vg.Rtsl, None)
said_by Jmpl (Some (pos address) ∷ []) = option_map (λ to. (vg.Jmpl to, None)) (word_at address)
said_by mnemonic values = None

-- each field of what is said fits the bits that it has
abbrev pub FitsWords : Said → Type 0
FitsWords (word, None) = IsInRange word
FitsWords (word, Some (dx, z)) = IsInRange word × IsLong dx × (z < 8)

-- a number is read as this word, and has 0 in the bits that no field has
pub record IsSpelling (word : VgWord) (number : ℕ) : Type 0 where
  pub read : word_of number ≡ word
  pub spelled : number ≡ spelling_of word

-- the generator reads this in these bytes, of which the low one of each word comes first
abbrev pub AreRead : Said → List ℕ → Type 0
AreRead (word, None) (low ∷ high ∷ []) = IsSpelling word (low + 256 * high)
AreRead (word, Some more) (low ∷ high ∷ second_low ∷ second_high ∷ []) =
    IsSpelling word (low + 256 * high) × (second_of (second_low + 256 * second_high) ≡ more)
AreRead said bytes = ⊥

-- a statement with these values says something that fits its words, and the generator reads that in
-- these bytes
pub record IsReadBack (mnemonic : Mnemonic) (values : List (Option ℤ)) (bytes : List ℕ) : Type 0 where
  pub said : Said
  pub by : said_by mnemonic values ≡ Some said
  pub fits : FitsWords said
  pub read : AreRead said bytes
