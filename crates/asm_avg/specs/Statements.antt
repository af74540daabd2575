-- The statements of the vector generator. This project's own choice.
use Rattle.std.specs.Prelude.{ℕ, ◌-◌, ◌^◌, true, false, List, [], ◌∷◌, Option, find, codes, pos, neg_ℤ}
use Rattle.std.specs.Str.{str_eq_ignore_ascii_case}
use Rattle.board_map.specs.declared.address.TheConstants.{VECTOR_RAM_START}
use Rattle.asm_core.specs.declared.cell.Place.{Place}
use Rattle.asm_avg.specs.declared.mnemonic.Mnemonic.{Mnemonic}
use Rattle.asm_avg.specs.declared.mnemonic.Mnemonic.TheVariants.{Vctr, Svec, Stat, Scal, Cntr, Halt, Jsrl, Rtsl, Jmpl}

-- the word that a statement begins with
abbrev pub text_of : Mnemonic → List ℕ
text_of Vctr = codes "vctr"
text_of Svec = codes "svec"
text_of Stat = codes "stat"
text_of Scal = codes "scal"
text_of Cntr = codes "cntr"
text_of Halt = codes "halt"
text_of Jsrl = codes "jsrl"
text_of Rtsl = codes "rtsl"
text_of Jmpl = codes "jmpl"

-- each statement
abbrev pub mnemonics : List Mnemonic
mnemonics = Vctr ∷ Svec ∷ Stat ∷ Scal ∷ Cntr ∷ Halt ∷ Jsrl ∷ Rtsl ∷ Jmpl ∷ []

-- what a word begins, in letters of either case
abbrev pub mnemonic_of : List ℕ → Option Mnemonic
mnemonic_of word = find (λ mnemonic. str_eq_ignore_ascii_case word (text_of mnemonic)) mnemonics

-- the distances of a long vector are signed and have 13 bits each
abbrev pub long_distance : ℕ → Place
long_distance shift = record { low = neg_ℤ (pos 4096); high = pos 4095; even = false; bits = 13; shift = shift }

-- the distances of a short vector are signed and even, and have 5 bits each
abbrev pub short_distance : ℕ → Place
short_distance shift = record { low = neg_ℤ (pos 32); high = pos 30; even = true; bits = 5; shift = shift }

-- a number from 0 up takes all values that its bits have
abbrev pub number : ℕ → ℕ → Place
number bits shift = record { low = pos 0; high = pos (2 ^ bits - 1); even = false; bits = bits; shift = shift }

-- a jump goes to an even address, and holds the number of its word
abbrev pub target : Place
target = record { low = pos 0; high = pos 0x3FFF; even = true; bits = 13; shift = 0 }

-- the places of a statement's operands, in the order of the source; bits 16 to 31 are the second
-- word's
abbrev pub places_of : Mnemonic → List Place
places_of Vctr = long_distance 16 ∷ long_distance 0 ∷ number 3 29 ∷ []
places_of Svec = short_distance 0 ∷ short_distance 8 ∷ number 3 5 ∷ []
places_of Stat = number 3 0 ∷ number 4 4 ∷ []
places_of Scal = number 3 8 ∷ number 8 0 ∷ []
places_of Cntr = []
places_of Halt = []
places_of Jsrl = target ∷ []
places_of Rtsl = []
places_of Jmpl = target ∷ []

-- addresses are counted from the start of the generator's memory
abbrev pub mnemonic_origin : Mnemonic → ℕ
mnemonic_origin Vctr = 0
mnemonic_origin Svec = 0
mnemonic_origin Stat = 0
mnemonic_origin Scal = 0
mnemonic_origin Cntr = 0
mnemonic_origin Halt = 0
mnemonic_origin Jsrl = VECTOR_RAM_START
mnemonic_origin Rtsl = 0
mnemonic_origin Jmpl = VECTOR_RAM_START

-- the number of a statement whose fields are all 0
abbrev pub base_of : Mnemonic → ℕ
base_of Vctr = 0x0000
base_of Halt = 0x2000
base_of Svec = 0x4000
base_of Stat = 0x6000
base_of Scal = 0x7000
base_of Cntr = 0x8000
base_of Jsrl = 0xA000
base_of Rtsl = 0xC000
base_of Jmpl = 0xE000

-- how many bytes a statement has: a long vector has two words
abbrev pub mnemonic_size : Mnemonic → ℕ
mnemonic_size Vctr = 4
mnemonic_size Svec = 2
mnemonic_size Stat = 2
mnemonic_size Scal = 2
mnemonic_size Cntr = 2
mnemonic_size Halt = 2
mnemonic_size Jsrl = 2
mnemonic_size Rtsl = 2
mnemonic_size Jmpl = 2
