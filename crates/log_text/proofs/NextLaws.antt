-- The next record of four lists.
use Rattle.std.proofs.Common.{◌≡◌, ◌≢◌, ℕ, ◌<◌, ◌≤◌, List, [], ◌∷◌, ◌++◌, refl, ap, ◌∙◌, subst, arith, suc, append-nil}
use Rattle.std.specs.Prelude.{Option, Some, None, IfSome}
use Rattle.std.specs.List.{All}
use Rattle.std.specs.List.Sorted.{IsNonDecreasingBy}
use Rattle.std.proofs.lemmas.List.Elements.{All-append, All-map, All-nil, All-tail}
use Rattle.board_base.specs.declared.record.Record.{Record}
use Rattle.board_base.specs.declared.part.Part.{Part}
use Rattle.board_base.specs.declared.part.Part.TheVariants.{Generator, Pokey1, Pokey2, Board}
use Rattle.board_base.specs.Records.{clock_of}
use Rattle.log_text.specs.LogText.{PartRecord, IsNotAfter, by_clock, from_part, merged, place_of, placed}
use Rattle.board_base.specs.Sooner.{sooner_of}
use Rattle.log_text.specs.Merging.{first_clock, earliest_of, TakesAt, AreSorted}
use Rattle.log_text.proofs.SortLaws.{clock, by_clock-first, placed-behind}

-- a record doesn't come after those of a part
abbrev pub IsBefore : PartRecord → Part → List Record → Type 0
IsBefore made part records = All (λ other. IsNotAfter made (part, other)) records

-- nor after any of four lists
pub record IsUpon (made : PartRecord) (v a b d : List Record) : Type 0 where
  pub vector : IsBefore made Generator v
  pub sound1 : IsBefore made Pokey1 a
  pub sound2 : IsBefore made Pokey2 b
  pub board : IsBefore made Board d

later_clock : (a b p q : ℕ) → a ≤ b → (a ≡ b → p ≤ q) → q < p → a < b
later_clock a b p q order parts earlier = grind arith

module _ (made : PartRecord) where
  -- none of the records of a part, and of others, is sooner
  from : (part : Part) (records : List Record) (more : List PartRecord) → IsBefore made part records → All (λ other. clock made ≤ clock other) more
      → All (λ other. clock made ≤ clock other) (from_part part records ++ more)
  from part records more before others =
      All-append (λ other. clock made ≤ clock other) (from_part part records) more
      (All-map (λ other. clock made ≤ clock other) (λ other. (part, other)) records (λ k d inside. (before k d inside).clocks)) others

  from_board : (records : List Record) → IsBefore made Board records → All (λ other. clock made ≤ clock other) (from_part Board records)
  from_board records before = rw append-nil at (from Board records [] before (All-nil (λ other. clock made ≤ clock other)))

  -- it comes before the records of an earlier part
  behind : (part : Part) (records : List Record) (all rest : List PartRecord) → place_of part < place_of made.0 → IsBefore made part records
      → by_clock all ≡ made ∷ by_clock rest → by_clock (from_part part records ++ all) ≡ made ∷ by_clock (from_part part records ++ rest)
  unfolding by_clock
  behind part [] all rest _ _ first = first
  behind part (r ∷ records) all rest earlier before first =
      let here : IsNotAfter made (part, r) = before 0 r (omega arith) in
      ap (placed (part, r)) (behind part records all rest earlier (All-tail (λ other. IsNotAfter made (part, other)) r records before) first)
      ∙ placed-behind (part, r) made _ (later_clock (clock made) (clock_of r) _ _ here.clocks here.parts earlier)

-- the first record of a part comes first
pub generator_first : (made : Record) (v a b d : List Record) → IsUpon (Generator, made) (made ∷ v) a b d
    → merged (made ∷ v) a b d ≡ (Generator, made) ∷ merged v a b d
unfolding merged
generator_first made v a b d upon =
    let first : PartRecord = (Generator, made) in
    by_clock-first first _ (from first Generator (made ∷ v) _ upon.vector
    (from first Pokey1 a _ upon.sound1 (from first Pokey2 b _ upon.sound2 (from_board first d upon.board))))

pub pokey1_first : (made : Record) (v a b d : List Record) → IsUpon (Pokey1, made) v (made ∷ a) b d
    → merged v (made ∷ a) b d ≡ (Pokey1, made) ∷ merged v a b d
unfolding merged
pokey1_first made v a b d upon =
    let first : PartRecord = (Pokey1, made) in
    behind first Generator v _ _ (omega arith) upon.vector
    (by_clock-first first _ (from first Pokey1 (made ∷ a) _ upon.sound1 (from first Pokey2 b _ upon.sound2 (from_board first d upon.board))))

pub pokey2_first : (made : Record) (v a b d : List Record) → IsUpon (Pokey2, made) v a (made ∷ b) d
    → merged v a (made ∷ b) d ≡ (Pokey2, made) ∷ merged v a b d
unfolding merged
pokey2_first made v a b d upon =
    let first : PartRecord = (Pokey2, made) in
    behind first Generator v _ _ (omega arith) upon.vector (behind first Pokey1 a _ _ (omega arith) upon.sound1
    (by_clock-first first _ (from first Pokey2 (made ∷ b) _ upon.sound2 (from_board first d upon.board))))

pub board_first : (made : Record) (v a b d : List Record) → IsUpon (Board, made) v a b (made ∷ d)
    → merged v a b (made ∷ d) ≡ (Board, made) ∷ merged v a b d
unfolding merged
board_first made v a b d upon =
    let first : PartRecord = (Board, made) in
    behind first Generator v _ _ (omega arith) upon.vector (behind first Pokey1 a _ _ (omega arith) upon.sound1
    (behind first Pokey2 b _ _ (omega arith) upon.sound2 (by_clock-first first _ (from_board first (made ∷ d) upon.board))))

-- what isn't after the sooner clock is after neither
sooner_bound : (t : ℕ) (x y : Option ℕ) → IfSome (sooner_of x y) (λ u. t ≤ u) → IfSome x (λ u. t ≤ u) × IfSome y (λ u. t ≤ u)
unfolding sooner_of
sooner_bound t None y at = (tt, at)
sooner_bound t (Some u) None at = (at, tt)
sooner_bound t (Some u) (Some w) at = (omega arith, omega arith)

same_place : (t c p q : ℕ) → t ≤ c → c ≤ t → (q < p → c ≢ t) → p ≤ q
same_place t c p q low high differ = grind arith

-- a record of a clock that isn't after the first of a list, nor the same where the list's part is an
-- earlier one
upon-first : (made : PartRecord) (part : Part) (t : ℕ) (records : List Record) → clock made ≡ t → IsNonDecreasingBy clock_of records
    → IfSome (first_clock records) (λ u. t ≤ u) → (place_of part < place_of made.0 → first_clock records ≢ Some t) → IsBefore made part records
upon-first made part t [] at rising bound differs k d inside = absurd (omega arith)
upon-first made part t (first ∷ others) at rising bound differs k d inside =
    let rises = rising 0 k d (omega arith) inside in
    record { clocks = omega arith; parts = λ same. same_place (clock made) (clock_of first) _ _ (omega arith) (omega arith) (λ earlier e. differs earlier (ap Some (e ∙ at))) }

-- a record of the earliest clock, which no list of an earlier part begins with
is_upon : (made : PartRecord) (t : ℕ) (v a b d : List Record) → place_of made.0 ≤ 3 → clock made ≡ t → AreSorted v a b d → Some t ≡ earliest_of v a b d
    → (0 < place_of made.0 → first_clock v ≢ Some t) → (1 < place_of made.0 → first_clock a ≢ Some t) → (2 < place_of made.0 → first_clock b ≢ Some t)
    → IsUpon made v a b d
is_upon made t v a b d place at sorted earliest not_v not_a not_b =
    let least : t ≤ t = omega arith in
    let in_all = sooner_bound t (first_clock v) _ (subst (λ x. IfSome x (λ u. t ≤ u)) earliest least) in
    let in_three = sooner_bound t (first_clock a) _ in_all.1 in
    let in_two = sooner_bound t (first_clock b) _ in_three.1 in
    record {
      vector = upon-first made Generator t v at sorted.vector in_all.0 not_v;
      sound1 = upon-first made Pokey1 t a at sorted.sound1 in_three.0 not_a;
      sound2 = upon-first made Pokey2 t b at sorted.sound2 in_two.0 not_b;
      board = upon-first made Board t d at sorted.board in_two.1 (λ later. absurd (omega arith));
    }

-- the others of a list that doesn't fall don't either
rising_rest : (made : Record) (rest records : List Record) → records ≡ made ∷ rest → IsNonDecreasingBy clock_of records → IsNonDecreasingBy clock_of rest
rising_rest made rest records split rising i j d order inside =
    let whole : IsNonDecreasingBy clock_of (made ∷ rest) = subst (λ l. IsNonDecreasingBy clock_of l) split rising in
    whole (suc i) (suc j) d (omega arith) (omega arith)

-- Each of these is about a call that found the earliest clock, and took a record of it from the
-- first list that had one.

pub next_generator : (t : ℕ) (v a b d rest : List Record) (made : Record) → AreSorted v a b d → Some t ≡ earliest_of v a b d
    → TakesAt t v rest (Some made) → (merged v a b d ≡ (Generator, made) ∷ merged rest a b d) × AreSorted rest a b d
next_generator t v a b d rest made sorted earliest (split, at) =
    let upon = is_upon (Generator, made) t v a b d (omega arith) at sorted earliest (λ e. absurd (omega arith)) (λ e. absurd (omega arith)) (λ e. absurd (omega arith)) in (
      rw split (generator_first made rest a b d (rw split at upon)),
      record { vector = rising_rest made rest v split sorted.vector; sound1 = sorted.sound1; sound2 = sorted.sound2; board = sorted.board },
    )

pub next_pokey1 : (t : ℕ) (v a b d v' rest : List Record) (made : Record) → AreSorted v a b d → Some t ≡ earliest_of v a b d
    → TakesAt t v v' None → TakesAt t a rest (Some made) → (merged v a b d ≡ (Pokey1, made) ∷ merged v' rest b d) × AreSorted v' rest b d
next_pokey1 t v a b d v' rest made sorted earliest (same, not_v) (split, at) =
    let upon = is_upon (Pokey1, made) t v a b d (omega arith) at sorted earliest (λ _. not_v) (λ e. absurd (omega arith)) (λ e. absurd (omega arith)) in
    rw same (
      rw split (pokey1_first made v rest b d (rw split at upon)),
      record { vector = sorted.vector; sound1 = rising_rest made rest a split sorted.sound1; sound2 = sorted.sound2; board = sorted.board },
    )

pub next_pokey2 : (t : ℕ) (v a b d v' a' rest : List Record) (made : Record) → AreSorted v a b d → Some t ≡ earliest_of v a b d
    → TakesAt t v v' None → TakesAt t a a' None → TakesAt t b rest (Some made)
    → (merged v a b d ≡ (Pokey2, made) ∷ merged v' a' rest d) × AreSorted v' a' rest d
next_pokey2 t v a b d v' a' rest made sorted earliest (same_v, not_v) (same_a, not_a) (split, at) =
    let upon = is_upon (Pokey2, made) t v a b d (omega arith) at sorted earliest (λ _. not_v) (λ _. not_a) (λ e. absurd (omega arith)) in
    rw (same_v, same_a) (
      rw split (pokey2_first made v a rest d (rw split at upon)),
      record { vector = sorted.vector; sound1 = sorted.sound1; sound2 = rising_rest made rest b split sorted.sound2; board = sorted.board },
    )

pub next_board : (t : ℕ) (v a b d v' a' b' rest : List Record) (made : Record) → AreSorted v a b d → Some t ≡ earliest_of v a b d
    → TakesAt t v v' None → TakesAt t a a' None → TakesAt t b b' None → TakesAt t d rest (Some made)
    → (merged v a b d ≡ (Board, made) ∷ merged v' a' b' rest) × AreSorted v' a' b' rest
next_board t v a b d v' a' b' rest made sorted earliest (same_v, not_v) (same_a, not_a) (same_b, not_b) (split, at) =
    let upon = is_upon (Board, made) t v a b d (omega arith) at sorted earliest (λ _. not_v) (λ _. not_a) (λ _. not_b) in
    rw (same_v, same_a, same_b) (
      rw split (board_first made v a b rest (rw split at upon)),
      record { vector = sorted.vector; sound1 = sorted.sound1; sound2 = sorted.sound2; board = rising_rest made rest d split sorted.board },
    )

sooner_some : (t : ℕ) (x : Option ℕ) → None ≢ sooner_of (Some t) x
unfolding sooner_of
sooner_some t None = λ none. cc
sooner_some t (Some u) = λ none. cc

-- where no clock is the earliest, no record is left
pub next_none : (v a b d : List Record) → None ≡ earliest_of v a b d → merged v a b d ≡ []
unfolding merged by_clock sooner_of
next_none [] [] [] [] none = refl
next_none [] [] [] (first ∷ d) none = cc
next_none [] [] (first ∷ b) d none = absurd (sooner_some (clock_of first) _ none)
next_none [] (first ∷ a) b d none = absurd (sooner_some (clock_of first) _ none)
next_none (first ∷ v) a b d none = absurd (sooner_some (clock_of first) _ none)
