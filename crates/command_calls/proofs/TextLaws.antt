-- A piece that is UTF-8, or isn't.
use Rattle.std.proofs.Common.{◌≡◌, ℕ, Bool, true, false, List, Some, None, Option, option_and_then, if◌then◌else◌, ◌∙◌, ap, subst}
use Rattle.std.specs.Str.{IsUtf8, is_utf8}
use Rattle.std.proofs.lemmas.Str.{IsUtf8-from_is_utf8, is_utf8-from_IsUtf8}
use Rattle.std.proofs.lemmas.Bool.{false_from_ne_true}
use Rattle.command_calls.specs.Requests.{sized_read, text_read}

text_of_piece : (bytes : List ℕ) (found : List ℕ × List ℕ) (b : Bool) → Some found ≡ sized_read bytes → is_utf8 found.0 ≡ b
    → (if b then Some found else None) ≡ text_read bytes
text_of_piece bytes found b is e =
    subst (λ t. (if t then Some found else None) ≡ text_read bytes) e
    (ap (λ (o : Option (List ℕ × List ℕ)). option_and_then (λ f. if is_utf8 f.0 then Some f else None) o) is)

pub no_text : (bytes : List ℕ) (found : List ℕ × List ℕ) → Some found ≡ sized_read bytes → (IsUtf8 found.0 → ⊥) → None ≡ text_read bytes
no_text bytes found is broken =
    text_of_piece bytes found false is (false_from_ne_true _ (λ e. broken (IsUtf8-from_is_utf8 found.0 e)))

pub some_text : (bytes : List ℕ) (found : List ℕ × List ℕ) (text : List ℕ) → Some found ≡ sized_read bytes → text ≡ found.0 → IsUtf8 found.0
    → Some (text, found.1) ≡ text_read bytes
some_text bytes found text is same good =
    let whole : List ℕ × List ℕ = (text, found.1) in
    let equal : whole ≡ found = ap (λ (t : List ℕ). let p : List ℕ × List ℕ = (t, found.1) in p) same in
    ap (λ (p : List ℕ × List ℕ). Some p) equal ∙ text_of_piece bytes found true is (is_utf8-from_IsUtf8 found.0 good)
