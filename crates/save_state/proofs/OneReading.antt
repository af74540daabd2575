-- Bytes are read as a saved board in one way.
use Rattle.std.proofs.Common.{◌≡◌, ◌≢◌, ℕ, List, [], ◌∷◌, ◌++◌, All, take, drop, slice_index, Result, Ok, Err, refl, arith, sym, ap, ◌∙◌, subst, ◌⊎◌, inl, inr}
use Rattle.std.proofs.lemmas.List.Elements.{All-head, All-tail, All-contains, Contains-append_right}
use Rattle.board_base.specs.Board.{BoardValue}
use Rattle.save_state.specs.declared.fault.StateFault.{StateFault}
use Rattle.save_state.specs.declared.fault.StateFault.TheVariants.{Field as Broken, Length, Version}
use Rattle.save_state.specs.Fields.{Row}
use Rattle.save_state.specs.Reading.{BreaksFirst, HasFields, Holds, ReadsState, Spells}
use Rattle.save_state.proofs.OneBoard.{first_version, second_version, one_board}

-- of two that are the first for which something doesn't hold both are the same
first-bad : {X : Type 0} (P : X → Type 0) (xs ys : List X) (x y : X) (after1 after2 : List X) → xs ++ x ∷ after1 ≡ ys ++ y ∷ after2 → All P xs → ¬ P x → All P ys → ¬ P y → x ≡ y
first-bad P [] [] x y after1 after2 e good1 bad1 good2 bad2 = cc
first-bad P [] (z ∷ ys) x y after1 after2 e good1 bad1 good2 bad2 = absurd (bad1 (let same : x ≡ z = cc in rw same (All-head P z ys good2)))
first-bad P (z ∷ xs) [] x y after1 after2 e good1 bad1 good2 bad2 = absurd (bad2 (let same : y ≡ z = cc in rw same (All-head P z xs good1)))
first-bad P (z ∷ xs) (w ∷ ys) x y after1 after2 e good1 bad1 good2 bad2 =
    let rest : xs ++ x ∷ after1 ≡ ys ++ y ∷ after2 = cc in
    first-bad P xs ys x y after1 after2 rest (All-tail P z xs good1) bad1 (All-tail P w ys good2) bad2

one-offset : (version : ℕ) (file : List ℕ) (m n : ℕ) → BreaksFirst version file m → BreaksFirst version file n → m ≡ n
unfolding BreaksFirst
one-offset version file m n f g =
    f.here
    ∙ ap (λ (r : Row BoardValue). r.at)
    (first-bad (Holds version file) f.before g.before f.broken g.broken f.after g.after (sym f.order ∙ g.order) f.good f.bad g.good g.bad)
    ∙ sym g.here

pub not_broken : (version : ℕ) (file : List ℕ) (b : BoardValue) (n : ℕ) → HasFields version file b → BreaksFirst version file n → ⊥
unfolding BreaksFirst HasFields
not_broken version file b n has f =
    let P : Row BoardValue → Type 0 = λ r. Holds version file r × (take r.width (drop r.at file) ≡ r.spelled b) in
    let has_broken = Contains-append_right f.before (f.broken ∷ f.after) f.broken (0, omega arith, refl) in
    f.bad (All-contains P (f.before ++ f.broken ∷ f.after) f.broken (subst (All P) f.order has) has_broken).0

-- what spells a board is of version 1 or 2
pub versioned : (file : List ℕ) (b : BoardValue) (v : ℕ) → Spells file b → v ≡ slice_index file 0 → v ≢ 1 → v ≢ 2 → ⊥
versioned file b v (inl second) is not1 not2 = not2 (is ∙ second_version file b second)
versioned file b v (inr first) is not1 not2 = not1 (is ∙ first_version file b first.0)

of_two : (v first : ℕ) → v ≡ first → v ≢ 1 → v ≢ 2 → (first ≡ 1) ⊎ (first ≡ 2) → ⊥
of_two v first is not1 not2 (inl one) = not1 (is ∙ one)
of_two v first is not1 not2 (inr two) = not2 (is ∙ two)

-- there is one reading of a file's bytes
pub one_reading : (file : List ℕ) (first second : Result BoardValue StateFault) → ReadsState file first → ReadsState file second → first ≡ second
one_reading file (Ok b) (Ok c) r s = ap Ok (one_board file b c r.2 s.2 r.1 s.1)
one_reading file (Err (Length n)) (Err (Length m)) r s = ap (λ k. Err (Length k)) (r.0 ∙ sym s.0)
one_reading file (Err (Length n)) _ r s = absurd (r.1 s.0)
one_reading file _ (Err (Length n)) r s = absurd (s.1 r.0)
one_reading file (Ok b) (Err (Version v)) r s = absurd (versioned file b v r.1 s.1 s.2 s.3)
one_reading file (Ok b) (Err (Broken at)) r s = absurd (not_broken (slice_index file 0) file b at r.3 s.2)
one_reading file (Err (Version v)) (Ok c) r s = absurd (versioned file c v s.1 r.1 r.2 r.3)
one_reading file (Err (Version v)) (Err (Version w)) r s = ap (λ k. Err (Version k)) (r.1 ∙ sym s.1)
one_reading file (Err (Version v)) (Err (Broken at)) r s = absurd (of_two v (slice_index file 0) r.1 r.2 r.3 s.1)
one_reading file (Err (Broken at)) (Ok c) r s = absurd (not_broken (slice_index file 0) file c at s.3 r.2)
one_reading file (Err (Broken at)) (Err (Version w)) r s = absurd (of_two w (slice_index file 0) s.1 s.2 s.3 r.1)
one_reading file (Err (Broken at)) (Err (Broken other)) r s = ap (λ k. Err (Broken k)) (one-offset (slice_index file 0) file at other r.2 s.2)
