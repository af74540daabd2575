-- The code's tables have the fields of the definition's.
use Rattle.std.proofs.Common.{zero, suc, ◌<◌, length, ◌≡◌, ◌≢◌, ◌+◌, ◌==◌, ◌≤◌, ℕ, Bool, true, false, List, [], ◌∷◌, All, take, drop, refl, sym, ap, subst, ◌∙◌, arith, ◌++◌}
use Rattle.std.proofs.Common.{get_or, Result, Ok, Err, append_assoc, ◌^◌, cond, Option, None, IfSome, IsSome, slice_index, w16, w64, get_or-drop, get_or-take, append-nil, w32, ℤ, unwrap_or, Some}
use Rattle.std.proofs.Common.{eqb-true, MatchResult, IsErrAnd}
use Rattle.std.proofs.Math.Seq.{split_at}
use Rattle.std.specs.Bool.{then_some}
use Rattle.std.specs.Int.{from_le_bytes, cast_signed, cast_unsigned}
use Rattle.std.specs.List.{concat}
use Rattle.std.proofs.lemmas.Int.{to_z-of_z, ints}
use Rattle.board_base.specs.Ranges.{IsWithin}
use Rattle.std.specs.Result.{result_and}
use Rattle.std.proofs.lemmas.Bool.Decides.{nat_tests}
use Rattle.std.proofs.lemmas.List.{length-map, get_or-map, take-map}
use Rattle.std.proofs.lemmas.List.Elements.{All-cons, All-nil, All-head, All-tail, All-append}
use Rattle.board_base.specs.Board.{BoardValue}
use Rattle.board_base.specs.Cpu.{CpuValue}
use Rattle.board_base.specs.Mid.{MidValue}
use Rattle.save_state.specs.Fields.{Row, IsInFieldRange, flag, pieces_of, anything, Facts}
use Rattle.save_state.specs.StateBytes.{opcode_of, count_range, left_range, opcode_range, jam_rows, processor_of, facts_of, table, front_rows, middle_rows, back_rows, last_clock}
use Rattle.save_state.specs.Check.{Spot, spot, spot_of, AreSame, IsInRange, IsAnswer}
use Rattle.cpu_table.specs.Opcodes.{row_of}
use Rattle.save_state.specs.declared.bytes.Field.{Field}
use Rattle.save_state.specs.declared.bytes.Kind.TheVariants.{Any}
use Rattle.save_state.specs.Reading.{Holds, IsFirstBroken}

-- a row of no table
abbrev pub no_row : Row BoardValue
no_row = record { at = 0; width = 0; range = λ _. anything; spelled = λ _. [] }

-- a byte, alone
pub byte_is : (file : List ℕ) (at : ℕ) → slice_index (take 1 (drop at file)) 0 ≡ slice_index file at
byte_is file at =
    let same : at + 0 ≡ at = omega arith in
    get_or-take 1 (drop at file) 0 0 (omega arith) ∙ get_or-drop at file 0 0 ∙ ap (λ (n : ℕ). slice_index file n) same

pub all_four : (P : ℕ → Type 0) (a b c d : ℕ) → P a → P b → P c → P d → All P (a ∷ b ∷ c ∷ d ∷ [])
all_four P a b c d h i j k = All-cons P a (b ∷ c ∷ d ∷ []) h (All-cons P b (c ∷ d ∷ []) i (All-cons P c (d ∷ []) j (All-cons P d [] k (All-nil P))))

pub not_equal : (m n : ℕ) → m ≢ n → (m == n) ≡ false
not_equal m n h = elim (m == n) as (λ (b : Bool). (m == n) ≡ b → b ≡ false) [ true ↦ λ e. absurd (h (eqb-true m n e)) | false ↦ λ e. refl ] refl

-- the clocks done of a sequence
pub done_most : (cpu : CpuValue) (idle : Bool) (file : List ℕ) → IsInFieldRange cpu (count_range idle) (take 1 (drop 31 file)) → slice_index file 31 ≤ 6
done_most cpu true file h = omega (arith, h, byte_is file 31)
done_most cpu false file h = omega (arith, h.1, byte_is file 31)

-- the clocks that are left of a vector, by whether one is drawn
left_by : (cpu : CpuValue) (b : Bool) (piece : List ℕ) → IsInFieldRange cpu (left_range b) piece → (b ≡ true → 1 ≤ from_le_bytes w16 piece)
    × (from_le_bytes w16 piece ≤ 8192) × (b ≡ false → from_le_bytes w16 piece ≡ 0)
left_by cpu true piece h = ((λ e. h.0), h.1, (λ (e : true ≡ false). absurd cc))
left_by cpu false piece h = ((λ (e : false ≡ true). absurd cc), omega (arith, h), (λ e. omega (arith, h)))

pub left_told : (file : List ℕ) (phase left : ℕ) → phase ≡ slice_index (take 1 (drop 45 file)) 0 → left ≡ from_le_bytes w16 (take 2 (drop 82 file))
    → IsInFieldRange (processor_of file) (left_range (slice_index file 45 == 5)) (take 2 (drop 82 file)) → (phase ≡ 5 → 1 ≤ left) × (left ≤ 8192) × (phase ≢ 5 → left ≡ 0)
left_told file phase left e f h =
    let stated = left_by (processor_of file) (slice_index file 45 == 5) (take 2 (drop 82 file)) h in
    let here : phase ≡ slice_index file 45 = e ∙ byte_is file 45 in (
      (λ (five : phase ≡ 5). let least = stated.0 (grind (arith, nat_tests)) in omega (arith, least)),
      omega (arith, stated.1),
      (λ (other : phase ≢ 5). f ∙ stated.2 (grind (arith, nat_tests))),
    )

-- a flag, and the opcode that jams
pub flag_told : (n : ℕ) (piece : List ℕ) → n ∷ [] ≡ piece → slice_index piece 0 ≤ 1 → flag (n == 1) ≡ piece
flag_told zero piece e h = e
flag_told (suc zero) piece e h = e
flag_told (suc (suc n)) piece e h =
    let most : suc (suc n) ≤ 1 = subst (λ (p : List ℕ). slice_index p 0 ≤ 1) (sym e) h in absurd (omega (arith, most))

pub jam_told : (cpu : CpuValue) (flag opcode : ℕ) (p q : List ℕ) → flag ∷ [] ≡ p → opcode ∷ [] ≡ q → flag ≤ 1
    → IsInFieldRange cpu (opcode_range (flag == 1)) q → (pieces_of jam_rows (then_some (flag == 1) opcode) ≡ p ∷ q ∷ [])
    × IfSome (then_some (flag == 1) opcode) (λ o. row_of o ≡ None)
jam_told cpu zero opcode p q e f h fit =
    let none : slice_index (opcode ∷ []) 0 ≤ 0 = subst (λ (x : List ℕ). slice_index x 0 ≤ 0) (sym f) fit in
    let zero : opcode ≡ 0 = omega (arith, none) in
    let written : 0 ∷ [] ≡ q = subst (λ (k : ℕ). k ∷ [] ≡ q) zero f in
    (λ i. e i ∷ written i ∷ [], tt)
jam_told cpu (suc zero) opcode p q e f h fit =
    (λ i. e i ∷ f i ∷ [], subst (λ (x : List ℕ). row_of (slice_index x 0) ≡ None) (sym f) fit)
jam_told cpu (suc (suc n)) opcode p q e f h fit = absurd (omega (arith, h))

abbrev pub Rows : Type 0
Rows = List (Row BoardValue)

abbrev SpotHolds : ℕ → List ℕ → Spot → Type 0
SpotHolds version file s = IsInFieldRange (processor_of file) s.2 (take s.1 (drop s.0 file))

-- the fields of a table and of the same rows, one by one
same_length : (facts : Facts) (base : ℕ) (fs : List Field) (rs : Rows) → AreSame facts base fs rs → length fs ≡ length rs
same_length facts base fs rs e = sym (length-map fs (spot facts base)) ∙ ap length e ∙ length-map rs (spot_of facts)

same_at : (facts : Facts) (base : ℕ) (fs : List Field) (rs : Rows) (k : ℕ) (d : Row BoardValue) → AreSame facts base fs rs → k < length fs
    → spot facts base (get_or fs k (0, Any 0)) ≡ spot_of facts (get_or rs k d)
same_at facts base fs rs k d e lt =
    sym (get_or-map (spot facts base) fs k (0, Any 0) (0, 0, anything) lt) ∙ ap (λ (ss : List Spot). get_or ss k (0, 0, anything)) e
    ∙ get_or-map (spot_of facts) rs k d (0, 0, anything) (omega (arith, same_length facts base fs rs e))

-- the rows are in their ranges where the fields are
pub held : (version : ℕ) (file : List ℕ) (base : ℕ) (fs : List Field) (rs : Rows) → AreSame (facts_of version file) base fs rs
    → All (λ f. IsInRange version file (base + f.0) f.1) fs → All (Holds version file) rs
held version file base fs rs e h = λ k d lt.
    let fits : k < length fs = omega (arith, same_length (facts_of version file) base fs rs e) in
    subst (SpotHolds version file) (same_at (facts_of version file) base fs rs k d e fits) (h k (0, Any 0) fits)

-- and the first row that isn't is the first field that isn't
pub first_broken : (version : ℕ) (file : List ℕ) (base : ℕ) (fs : List Field) (rs : Rows) (k : ℕ) → AreSame (facts_of version file) base fs rs → k < length fs
    → All (λ f. IsInRange version file (base + f.0) f.1) (take k fs) → ¬ IsInRange version file (base + (get_or fs k (0, Any 0)).0) (get_or fs k (0, Any 0)).1
    → IsFirstBroken version file rs (base + (get_or fs k (0, Any 0)).0)
first_broken version file base fs rs k e lt good bad =
    let facts : Facts = facts_of version file in
    let one = same_at facts base fs rs k no_row e lt in
    record {
      before = take k rs;
      broken = get_or rs k no_row;
      after = drop (suc k) rs;
      order = split_at rs k no_row (omega (arith, same_length facts base fs rs e));
      good = held version file base (take k fs) (take k rs) (sym (take-map (spot facts base) k fs) ∙ ap (take k) e ∙ take-map (spot_of facts) k rs) good;
      bad = λ h. bad (subst (SpotHolds version file) (sym one) h);
      here = ap (λ (s : Spot). s.0) one;
    }

-- a first field out of its range, before other rows and after others
pub sooner : (version : ℕ) (file : List ℕ) (xs ys : Rows) (o : ℕ) → IsFirstBroken version file xs o → IsFirstBroken version file (xs ++ ys) o
sooner version file xs ys o b = record {
  before = b.before;
  broken = b.broken;
  after = b.after ++ ys;
  order = ap (λ (rs : Rows). rs ++ ys) b.order
      ∙ append_assoc b.before (b.broken ∷ b.after) ys;
  good = b.good;
  bad = b.bad;
  here = b.here;
}

pub later : (version : ℕ) (file : List ℕ) (xs ys : Rows) (o : ℕ) → All (Holds version file) xs → IsFirstBroken version file ys o → IsFirstBroken version file (xs ++ ys) o
later version file xs ys o good b = record {
  before = xs ++ b.before;
  broken = b.broken;
  after = b.after;
  order = ap (λ (rs : Rows). xs ++ rs) b.order ∙ sym (append_assoc xs b.before (b.broken ∷ b.after));
  good = All-append (Holds version file) xs b.before good b.good;
  bad = b.bad;
  here = b.here;
}

-- what is answered of some rows, and then of others, is an answer of all
pub both : {T U : Type 0} (version : ℕ) (file : List ℕ) (xs ys : Rows) (r : Result T ℕ) (s : Result U ℕ) → IsAnswer version file xs r → IsAnswer version file ys s
    → IsAnswer version file (xs ++ ys) (result_and r s)
both version file xs ys (Ok x) (Ok y) g h = All-append (Holds version file) xs ys g h
both version file xs ys (Ok x) (Err at) g h = later version file xs ys at g h
both version file xs ys (Err at) s g h = sooner version file xs ys at g

-- the error that a `?` returns
pub early : {T : Type 0} (r : Result T ℕ) (P : T → Type 0) (Q : ℕ → Type 0) (e : ℕ) → IsErrAnd r (λ y. y ≡ e) → Q e → MatchResult r P Q
early (Ok x) P Q e h q = absurd h
early (Err y) P Q e h q = subst Q (sym h) q

-- of a whole both parts
pub parts : {X : Type 0} (P : X → Type 0) (xs ys : List X) → All P (xs ++ ys) → All P xs × All P ys
parts P [] ys h = (All-nil P, h)
parts P (x ∷ xs) ys h =
    let more = parts P xs ys (All-tail P x (xs ++ ys) h) in
    (All-cons P x xs (All-head P x (xs ++ ys) h) more.0, more.1)

-- the rows up to the sequence, those of the sequence, and those after it
pub sections_of : (version : ℕ) (file : List ℕ) → All (Holds version file) (table version)
    → All (Holds version file) (front_rows version) × All (Holds version file) (middle_rows (version == 1)) × All (Holds version file) back_rows
sections_of version file h =
    let two = parts (Holds version file) (front_rows version) (middle_rows (version == 1) ++ back_rows) h in
    let more = parts (Holds version file) (middle_rows (version == 1)) back_rows two.1 in (two.0, more.0, more.1)

count_by : (version : ℕ) (file : List ℕ) (one : Bool) → All (Holds version file) (middle_rows one) → slice_index file 31 ≤ 6
count_by version file true h = omega (arith, h 1 no_row (omega arith), byte_is file 31)
count_by version file false h = done_most (processor_of file) (slice_index file 30 == 0) file (h 1 no_row (omega arith))

pub count_of : (version : ℕ) (file : List ℕ) → All (Holds version file) (table version) → slice_index file 31 ≤ 6
count_of version file h = count_by version file (version == 1) (sections_of version file h).1

-- the clock, which is smaller inside a sequence
idle_by : (version : ℕ) (file : List ℕ) (one : Bool) → All (Holds version file) (middle_rows one) → one ≡ true → slice_index file 30 ≡ 0
idle_by version file true h e = omega (arith, h 0 no_row (omega arith), byte_is file 30)
idle_by version file false h e = absurd cc

clock_by : (a b : Bool) (clock : ℕ) (mid : Option MidValue) → clock ≤ cond a (2 ^ 48 + 16) (cond b (2 ^ 48 + 16) (2 ^ 48)) → (a ≡ true → mid ≡ None)
    → (b ≡ true → mid ≡ None) → (clock ≤ 2 ^ 48 + 16) × (IsSome mid → clock ≤ 2 ^ 48)
clock_by true b clock mid h f g = (h, λ s. let none = f refl in absurd cc)
clock_by false true clock mid h f g = (h, λ s. let none = g refl in absurd cc)
clock_by false false clock mid h f g = (omega (arith, h), λ s. h)

pub clock_told : (version : ℕ) (file : List ℕ) (clock : ℕ) (mid : Option MidValue) → All (Holds version file) (table version) → clock
    ≡ from_le_bytes w64 (take 8 (drop 4 file)) → (slice_index file 30 ≡ 0 → mid ≡ None) → (clock ≤ 2 ^ 48 + 16) × (IsSome mid → clock ≤ 2 ^ 48)
clock_told version file clock mid h e outside =
    let most : clock ≤ last_clock version (slice_index file 30) = subst (λ (n : ℕ). n ≤ last_clock version (slice_index file 30)) (sym e) ((sections_of version file h).0 2 no_row (omega arith)) in
    clock_by (version == 1) (slice_index file 30 == 0) clock mid most
    (λ same. outside (idle_by version file (version == 1) (sections_of version file h).1 same)) (λ same. outside (eqb-true (slice_index file 30) 0 same))

-- signed numbers that are written and read
pub signed_back : (n : ℕ) (z : ℤ) → n ≤ 2 ^ 30 → IsWithin n z → cast_signed w32 (cast_unsigned w32 z) ≡ z
signed_back n z small h = to_z-of_z w32 z (omega (arith, ints, h.above, h.below))

-- lists that are written one after another
abbrev pub chained : List ℕ → List (List ℕ) → List ℕ
chained t [] = t
chained t (p ∷ ps) = chained (t ++ p) ps

chained-concat : (t : List ℕ) (ps : List (List ℕ)) → chained t ps ≡ t ++ concat ps
chained-concat t [] = sym (append-nil t)
chained-concat t (p ∷ ps) = chained-concat (t ++ p) ps ∙ append_assoc t p (concat ps)

-- what is written of a value, row by row
pub written : {V : Type 0} (rows : List (Row V)) (v w : V) (all t : List ℕ) → v ≡ w → all ≡ chained t (pieces_of rows v) → all ≡ t ++ concat (pieces_of rows w)
written rows v w all t same e = subst (λ w. all ≡ t ++ concat (pieces_of rows w)) same (e ∙ chained-concat t (pieces_of rows v))

pub opcode_is : (jam : Option ℕ) → unwrap_or jam 0 ≡ opcode_of jam
opcode_is jam = elim jam as (λ (jam : Option ℕ). unwrap_or jam 0 ≡ opcode_of jam) [ None ↦ refl | Some o ↦ refl ]
