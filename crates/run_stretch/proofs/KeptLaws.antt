-- Of a text that grows, what is kept.
use Rattle.std.proofs.Common.{◌≡◌, ℕ, ◌+◌, ◌<◌, ◌≤◌, Bool, true, false, List, [], ◌∷◌, ◌++◌, length, if◌then◌else◌, refl, sym, ap, ◌∙◌, arith}
use Rattle.std.specs.Prelude.{nat_le}
use Rattle.std.proofs.lemmas.Bool.{le-leb, lt-leb}
use Rattle.std.proofs.lemmas.List.{length-append}
use Rattle.run_stretch.specs.Kept.{kept, IsKept}
use Rattle.run_stretch.specs.declared.kept_text.KeptText.{KeptText}

-- a text that fits is kept whole
pub kept-whole : (room : ℕ) (text : List ℕ) → length text ≤ room → kept room text ≡ text
unfolding kept
kept-whole room text fits = rw (le-leb (length text) room fits) refl

-- and of a longer one nothing is kept
pub kept-none : (room : ℕ) (text : List ℕ) → room < length text → kept room text ≡ []
unfolding kept
kept-none room text longer = rw (lt-leb (length text) room longer) refl

-- no more than the text is kept
pub kept-most : (room : ℕ) (text : List ℕ) → length (kept room text) ≤ length text
unfolding kept
kept-most room text = by_test (nat_le (length text) room)
  where
    by_test : (fits : Bool) → length (if fits then text else []) ≤ length text
    by_test true = omega arith
    by_test false = omega arith

-- where as many bytes are kept as the text has, it is kept
pub kept-all : (room : ℕ) (text : List ℕ) → length (kept room text) ≡ length text → kept room text ≡ text
unfolding kept
kept-all room text = by_test (nat_le (length text) room) text
  where
    by_test : (fits : Bool) (text : List ℕ) → length (if fits then text else []) ≡ length text → (if fits then text else []) ≡ text
    by_test true text e = refl
    by_test false [] e = refl
    by_test false (x ∷ text) e = absurd (omega (arith, e))

-- nothing is kept of a text that has nothing
pub kept-nothing : (room : ℕ) (t : KeptText) → t.room ≡ room → t.bytes.items ≡ [] → t.wanted ≡ 0 → IsKept room [] t
kept-nothing room t same none zero = record {
  limit = same;
  bytes = none ∙ sym (kept-whole room [] (omega arith));
  wanted = zero;
}

-- more of a text that fits with it
pub kept-longer : (room : ℕ) (text more : List ℕ) (t u : KeptText) → IsKept room text t → u.room ≡ t.room → u.bytes.items ≡ t.bytes.items ++ more
    → u.wanted ≡ t.wanted + length more → u.wanted ≤ t.room → IsKept room (text ++ more) u
kept-longer room text more t u before same bytes wanted fits =
    let n = length-append text more in
    let had = before.wanted in
    let same_room = before.limit in
    let few : length text ≤ room = omega arith in
    let all : length (text ++ more) ≤ room = omega arith in
    record {
      limit = same ∙ before.limit;
      bytes = bytes ∙ ap (λ (l : List ℕ). l ++ more) (before.bytes ∙ kept-whole room text few) ∙ sym (kept-whole room (text ++ more) all);
      wanted = omega arith;
    }

-- and of one that doesn't fit
pub kept-too-long : (room : ℕ) (text more : List ℕ) (t u : KeptText) → IsKept room text t → u.room ≡ t.room → u.bytes.items ≡ []
    → u.wanted ≡ t.wanted + length more → t.room < u.wanted → IsKept room (text ++ more) u
kept-too-long room text more t u before same none wanted longer =
    let n = length-append text more in
    let had = before.wanted in
    let same_room = before.limit in
    let all : room < length (text ++ more) = omega arith in
    record {
      limit = same ∙ before.limit;
      bytes = none ∙ sym (kept-none room (text ++ more) all);
      wanted = omega arith;
    }
