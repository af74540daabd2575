-- The one list of a board's records: it adds up, its parts are the board's lists, and it is in
-- order.
use Rattle.std.proofs.Common.{◌≡◌, ℕ, ◌+◌, ◌*◌, ◌<◌, ◌≤◌, ◌==◌, if◌then◌else◌, Bool, true, false, List, [], ◌∷◌, ◌++◌, length, drop, zero, suc, refl, sym, ap, ◌∙◌, subst, arith}
use Rattle.std.proofs.Common.{zero-add, append_assoc, append-nil}
use Rattle.std.specs.List.{All}
use Rattle.std.proofs.Math.Seq.{drop-append_seam}
use Rattle.std.proofs.lemmas.List.Elements.{All-cons, filter_map-append}
use Rattle.std.proofs.lemmas.List.Kept.{AllPairs-cons}
use Rattle.board_base.specs.declared.record.Record.{Record}
use Rattle.board_base.specs.declared.part.Part.{Part}
use Rattle.board_base.specs.declared.part.Part.TheVariants.{Generator, Pokey1, Pokey2, Board}
use Rattle.board_base.specs.Records.{clock_of, MadeBetween}
use Rattle.tape_ports.specs.declared.entry.TapeEntry.{TapeEntry}
use Rattle.log_text.specs.LogText.{PartRecord, log_text, merged, merged_text, from_part, made_by, place_of, IsNotAfter, IsInOrder}
use Rattle.log_text.proofs.LogLaws.{merged_is_one}
use Rattle.lockstep_board.specs.Lockstep as lockstep
use Rattle.lockstep_board.specs.Run.{stepped, to_boundary, boundary_steps}
use Rattle.lockstep_board.specs.Order.{HasNoRecords, cleared, Recorded, behind, records_of, AddsOneClock}
use Rattle.lockstep_board.proofs.Behind.{step-behind, behind-cleared}
use Rattle.lockstep_board.proofs.Clocks.{step-clock}
use Rattle.lockstep_board.proofs.InOrder.{adds-one}
use Rattle.run_log.specs.OneList.{added, records_of_clock, one_list, run_list, text_of_lists}

-- the list of some clocks and then of others
pub one_list-add : (entries : List TapeEntry) (n m : ℕ) (b : lockstep.Board)
    → one_list entries (n + m) b ≡ one_list entries n b ++ one_list entries m (stepped entries n b)
unfolding one_list stepped
one_list-add entries zero m b = rw (zero-add m) refl
one_list-add entries (suc n) m b =
    let e : suc n + m ≡ suc (n + m) = omega arith in
    rw (e, one_list-add entries n m (lockstep.step entries b))
    (sym (append_assoc (records_of_clock entries b) (one_list entries n (lockstep.step entries b)) _))

added-behind : (l before after : List Record) → added (l ++ before) (l ++ after) ≡ added before after
added-behind [] before after = refl
added-behind (r ∷ l) before after = added-behind l before after

clock-behind : (entries : List TapeEntry) (l : Recorded) (b : lockstep.Board) → records_of_clock entries (behind l b) ≡ records_of_clock entries b
unfolding records_of_clock
clock-behind entries l b =
    let next = lockstep.step entries b in
    rw (
      step-behind entries l b,
      added-behind l.strokes b.peripherals.strokes next.peripherals.strokes,
      added-behind l.levels1 b.peripherals.levels1 next.peripherals.levels1,
      added-behind l.levels2 b.peripherals.levels2 next.peripherals.levels2,
      added-behind l.written b.peripherals.written next.peripherals.written,
    ) refl

-- records made before aren't in it
one_list-behind : (entries : List TapeEntry) (n : ℕ) (l : Recorded) (b : lockstep.Board) → one_list entries n (behind l b) ≡ one_list entries n b
unfolding one_list
one_list-behind entries zero l b = refl
one_list-behind entries (suc n) l b =
    let later : one_list entries n (lockstep.step entries (behind l b)) ≡ one_list entries n (lockstep.step entries b) =
    ap (one_list entries n) (step-behind entries l b) ∙ one_list-behind entries n l (lockstep.step entries b) in
    rw (clock-behind entries l b, later) refl

pub one_list-cleared : (entries : List TapeEntry) (n : ℕ) (b : lockstep.Board) → one_list entries n (cleared b) ≡ one_list entries n b
one_list-cleared entries n b =
    sym (one_list-behind entries n (records_of b) (cleared b)) ∙ ap (one_list entries n) (behind-cleared b)

-- the records of each part, one part after another
abbrev in_parts : Recorded → List PartRecord
in_parts a =
    from_part Generator a.strokes ++ (from_part Pokey1 a.levels1 ++ (from_part Pokey2 a.levels2 ++ from_part Board a.written))

added-after : (before more after : List Record) → after ≡ before ++ more → added before after ≡ more
added-after before more after e = ap (drop (length before)) e ∙ drop-append_seam before more

-- what a clock adds is what it makes
clock-adds : (entries : List TapeEntry) (b : lockstep.Board) (one : AddsOneClock entries b) → records_of_clock entries b ≡ in_parts one.added
unfolding records_of_clock
clock-adds entries b one =
    let next = lockstep.step entries b in
    rw (
      added-after b.peripherals.strokes one.added.strokes next.peripherals.strokes (ap (λ (r : Recorded). r.strokes) one.after),
      added-after b.peripherals.levels1 one.added.levels1 next.peripherals.levels1 (ap (λ (r : Recorded). r.levels1) one.after),
      added-after b.peripherals.levels2 one.added.levels2 next.peripherals.levels2 (ap (λ (r : Recorded). r.levels2) one.after),
      added-after b.peripherals.written one.added.written next.peripherals.written (ap (λ (r : Recorded). r.written) one.after),
    ) refl

made_by-append : (part : Part) (xs ys : List PartRecord) → made_by part (xs ++ ys) ≡ made_by part xs ++ made_by part ys
unfolding made_by
made_by-append part xs ys = filter_map-append _ xs ys

-- all records of one part are that part's, and none another's
made_by-from_part : (part from : Part) (records : List Record)
    → made_by part (from_part from records) ≡ (if place_of from == place_of part then records else [])
unfolding made_by
made_by-from_part part from records = by_test (place_of from == place_of part) refl records
  where
    by_test : (same : Bool) → (place_of from == place_of part) ≡ same → (records : List Record)
        → made_by part (from_part from records) ≡ (if same then records else [])
    by_test true e [] = refl
    by_test false e [] = refl
    by_test true e (r ∷ records) = rw e (ap (λ rest. r ∷ rest) (by_test true e records))
    by_test false e (r ∷ records) = rw e (by_test false e records)

-- the records of one part
abbrev list_of : Part → Recorded → List Record
list_of Generator l = l.strokes
list_of Pokey1 l = l.levels1
list_of Pokey2 l = l.levels2
list_of Board l = l.written

made_by-in_parts : (part : Part) (a : Recorded) → made_by part (in_parts a) ≡ list_of part a
made_by-in_parts Generator a = simp (made_by-append, made_by-from_part) (append-nil a.strokes)
made_by-in_parts Pokey1 a = simp (made_by-append, made_by-from_part) (append-nil a.levels1)
made_by-in_parts Pokey2 a = simp (made_by-append, made_by-from_part) (append-nil a.levels2)
made_by-in_parts Board a = simp (made_by-append, made_by-from_part) refl

list_of-both : (part : Part) (l a : Recorded)
    → list_of part (record {
      strokes = l.strokes ++ a.strokes;
      levels1 = l.levels1 ++ a.levels1;
      levels2 = l.levels2 ++ a.levels2;
      written = l.written ++ a.written;
    }) ≡ list_of part l ++ list_of part a
list_of-both Generator l a = refl
list_of-both Pokey1 l a = refl
list_of-both Pokey2 l a = refl
list_of-both Board l a = refl

module _ (entries : List TapeEntry) where
  -- a clock adds to each part's records those of the one list
  list_of-step : (part : Part) (b : lockstep.Board)
      → list_of part (records_of (lockstep.step entries b)) ≡ list_of part (records_of b) ++ made_by part (records_of_clock entries b)
  list_of-step part b =
      let one = adds-one entries b in
      ap (list_of part) one.after
      ∙ list_of-both part (records_of b) one.added
      ∙ ap (λ more. list_of part (records_of b) ++ more)
      (sym (ap (made_by part) (clock-adds entries b one) ∙ made_by-in_parts part one.added))

  -- and so do n clocks
  list_of-stepped : (part : Part) (n : ℕ) (b : lockstep.Board)
      → list_of part (records_of (stepped entries n b)) ≡ list_of part (records_of b) ++ made_by part (one_list entries n b)
  unfolding stepped one_list made_by
  list_of-stepped part zero b = sym (append-nil (list_of part (records_of b)))
  list_of-stepped part (suc n) b =
      let next = lockstep.step entries b in
      list_of-stepped part n next
      ∙ ap (λ records. records ++ made_by part (one_list entries n next)) (list_of-step part b)
      ∙ append_assoc (list_of part (records_of b)) (made_by part (records_of_clock entries b)) (made_by part (one_list entries n next))
      ∙ ap (λ records. list_of part (records_of b) ++ records) (sym (made_by-append part (records_of_clock entries b) (one_list entries n next)))

  -- from a board without records they are those of the one list
  list_of-fresh : (part : Part) (n : ℕ) (b : lockstep.Board) → list_of part (records_of b) ≡ []
      → list_of part (records_of (stepped entries n b)) ≡ made_by part (one_list entries n b)
  list_of-fresh part n b none = list_of-stepped part n b ∙ ap (λ records. records ++ made_by part (one_list entries n b)) none

-- the place of a record in the order of clocks and, within a clock, of parts
abbrev key : PartRecord → ℕ
key made = 4 * clock_of made.1 + place_of made.0

-- records in order, from one place in it to another
abbrev Rising : ℕ → List PartRecord → ℕ → Type 0
Rising from [] to = from ≤ to
Rising from (made ∷ records) to = (from ≤ key made) × Rising (key made) records to

rising-append : (from between to : ℕ) (xs ys : List PartRecord) → Rising from xs between → Rising between ys to → Rising from (xs ++ ys) to
rising-append from between to [] [] r s = omega arith
rising-append from between to [] (y ∷ ys) r (low, more) = (omega arith, more)
rising-append from between to (x ∷ xs) ys (low, more) s = (low, rising-append (key x) between to xs ys more s)

rising-part : (part : Part) (t from to : ℕ) (records : List Record) → from ≤ 4 * t + place_of part → 4 * t + place_of part ≤ to
    → MadeBetween part t records (t + 1) → Rising from (from_part part records) to
rising-part part t from to [] low high m = omega arith
rising-part part t from to (r ∷ records) low high (_, since, before, more) =
    let same : clock_of r ≡ t = omega arith in
    (omega arith, rising-part part t (key (part, r)) to records (omega arith) high (rw same at more))

module _ (entries : List TapeEntry) where
  -- the records of a clock are in order
  rising-clock : (b : lockstep.Board) → Rising (4 * b.peripherals.clock) (records_of_clock entries b) (4 * (b.peripherals.clock + 1))
  rising-clock b =
      let one = adds-one entries b in
      let t = b.peripherals.clock in
      rw (clock-adds entries b one)
      (rising-append (4 * t) (4 * t + 1) (4 * (t + 1)) (from_part Generator one.added.strokes) _
      (rising-part Generator t (4 * t) (4 * t + 1) one.added.strokes (omega arith) (omega arith) one.made.strokes)
      (rising-append (4 * t + 1) (4 * t + 2) (4 * (t + 1)) (from_part Pokey1 one.added.levels1) _
      (rising-part Pokey1 t (4 * t + 1) (4 * t + 2) one.added.levels1 (omega arith) (omega arith) one.made.levels1)
      (rising-append (4 * t + 2) (4 * t + 3) (4 * (t + 1)) (from_part Pokey2 one.added.levels2) _
      (rising-part Pokey2 t (4 * t + 2) (4 * t + 3) one.added.levels2 (omega arith) (omega arith) one.made.levels2)
      (rising-part Board t (4 * t + 3) (4 * (t + 1)) one.added.written (omega arith) (omega arith) one.made.written))))

  -- and so are those of n clocks
  rising-list : (n to : ℕ) (b : lockstep.Board) → b.peripherals.clock + n ≡ to → Rising (4 * b.peripherals.clock) (one_list entries n b) (4 * to)
  unfolding one_list
  rising-list zero to b e = omega arith
  rising-list (suc n) to b e =
      let next = lockstep.step entries b in
      rising-append (4 * b.peripherals.clock) (4 * (b.peripherals.clock + 1)) (4 * to) (records_of_clock entries b) (one_list entries n next)
      (rising-clock b)
      (subst (λ c. Rising (4 * c) (one_list entries n next) (4 * to)) (step-clock entries b) (rising-list n to next (omega (arith, step-clock entries b))))

place_of-below : (part : Part) → place_of part < 4
place_of-below Generator = omega arith
place_of-below Pokey1 = omega arith
place_of-below Pokey2 = omega arith
place_of-below Board = omega arith

not_after-key : (first second : PartRecord) → key first ≤ key second → IsNotAfter first second
not_after-key first second h = record { clocks = omega (arith, place_of-below second.0); parts = λ e. omega arith }

not_after-rising : (first : PartRecord) (from to : ℕ) (records : List PartRecord) → key first ≤ from → Rising from records to
    → All (IsNotAfter first) records
not_after-rising first from to [] h r = λ k d inside. absurd (omega arith)
not_after-rising first from to (made ∷ records) h (low, more) =
    All-cons (IsNotAfter first) made records (not_after-key first made (omega arith)) (not_after-rising first (key made) to records (omega arith) more)

in_order-rising : (from to : ℕ) (records : List PartRecord) → Rising from records to → IsInOrder records
in_order-rising from to [] r = λ i j d order inside. absurd (omega arith)
in_order-rising from to (made ∷ records) r =
    AllPairs-cons IsNotAfter made records (not_after-rising made (key made) to records (omega arith) r.1) (in_order-rising (key made) to records r.1)

-- the one list is in order
pub one_list-in_order : (entries : List TapeEntry) (n : ℕ) (b : lockstep.Board) → IsInOrder (one_list entries n b)
one_list-in_order entries n b =
    in_order-rising (4 * b.peripherals.clock) (4 * (b.peripherals.clock + n)) (one_list entries n b) (rising-list entries n (b.peripherals.clock + n) b refl)

-- the four lists, merged, are the one list
pub stepped-merged : (entries : List TapeEntry) (n : ℕ) (b : lockstep.Board) → HasNoRecords b → (last : lockstep.Board) → last ≡ stepped entries n b
    → merged last.peripherals.strokes last.peripherals.levels1 last.peripherals.levels2 last.peripherals.written ≡ one_list entries n b
stepped-merged entries n b none last is =
    rw (
      is,
      list_of-fresh entries Generator n b none.strokes,
      list_of-fresh entries Pokey1 n b none.levels1,
      list_of-fresh entries Pokey2 n b none.levels2,
      list_of-fresh entries Board n b none.written,
    ) (merged_is_one (one_list entries n b) (one_list-in_order entries n b))

-- their lines are those of the one list
pub stepped-one_list : (entries : List TapeEntry) (n : ℕ) (b : lockstep.Board) → HasNoRecords b
    → text_of_lists (stepped entries n b) ≡ log_text (one_list entries n b)
unfolding text_of_lists merged_text
stepped-one_list entries n b none = ap log_text (stepped-merged entries n b none (stepped entries n b) refl)

-- so are those of a run
pub run-one_list : (entries : List TapeEntry) (limit : ℕ) (b : lockstep.Board) → HasNoRecords b
    → text_of_lists (to_boundary entries limit b) ≡ log_text (run_list entries limit b)
unfolding to_boundary run_list
run-one_list entries limit b none = stepped-one_list entries (boundary_steps entries limit b) b none

pub ruleset one_list_laws = run-one_list
