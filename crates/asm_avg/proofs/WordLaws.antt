-- The words that begin statements.
use Rattle.std.proofs.Common.{◌≡◌, ℕ, ◌∙◌, ◌↔◌, inl, inr, Bool, true, List, [], ◌∷◌, Some, find, sym, ap, arith}
use Rattle.std.specs.Str.{bytes_eq, str_to_ascii_lowercase}
use Rattle.std.proofs.lemmas.Slice.Eq.{bytes_eq-Decides}
use Rattle.asm_text.proofs.Parting.{bool_cases}
use Rattle.asm_avg.specs.declared.mnemonic.Mnemonic.{Mnemonic}
use Rattle.asm_avg.specs.Statements.{mnemonic_of, mnemonics, text_of}

-- what is found passes the test
find-passes : {X : Type 0} (p : X → Bool) (xs : List X) (x : X) → find p xs ≡ Some x → p x ≡ true
find-passes p [] x h = cc
find-passes p (y ∷ ys) x h = elim (bool_cases (p y)) [
  | inl passes ↦ let found : Some y ≡ Some x = rw passes at h in let same : y ≡ x = cc in ap p (sym same) ∙ passes
  | inr fails ↦ find-passes p ys x (rw fails at h)
]

-- each text is in lower case
lower : (mnemonic : Mnemonic) → str_to_ascii_lowercase (text_of mnemonic) ≡ text_of mnemonic
lower mnemonic = grind arith

-- a text begins its own statement
own : (mnemonic : Mnemonic) → find (λ m. bytes_eq (text_of mnemonic) (str_to_ascii_lowercase (text_of m))) mnemonics ≡ Some mnemonic
own mnemonic = grind arith

-- a word begins a statement exactly where its letters, in lower case, are the statement's text
pub word_text : (word : List ℕ) (mnemonic : Mnemonic) → (mnemonic_of word ≡ Some mnemonic) ↔ (str_to_ascii_lowercase word ≡ text_of mnemonic)
word_text word mnemonic = (
  λ h.
      let passes = find-passes (λ m. bytes_eq (str_to_ascii_lowercase word) (str_to_ascii_lowercase (text_of m))) mnemonics mnemonic h in
      (bytes_eq-Decides (str_to_ascii_lowercase word) (str_to_ascii_lowercase (text_of mnemonic))).0 passes ∙ lower mnemonic,
  λ h. ap (λ text. find (λ m. bytes_eq text (str_to_ascii_lowercase (text_of m))) mnemonics) h ∙ own mnemonic,
)

pub ruleset words = (word_text)
