-- The marks of some clocks: the writes that start the generator, among their accesses.
use Rattle.std.proofs.Common.{◌≡◌, ℕ, ◌+◌, ◌≤◌, ◌<◌, Bool, true, false, is_some, List, [], ◌∷◌, ◌++◌, length, take, drop, replicate, Option, Some, None, zero, suc, refl, sym}
use Rattle.std.proofs.Common.{ap, subst, ◌∙◌, arith}
use Rattle.std.specs.Prelude.{All, if◌then◌else◌}
use Rattle.std.proofs.lemmas.List.Elements.{All-nil, All-cons, All-append, All-weaker, filter_map-append}
use Rattle.cpu_core.specs.BusCycles as cycles
use Rattle.cpu_core.specs.BusCycles.{read_of, write_of}
use Rattle.tape_ports.specs.declared.entry.TapeEntry.{TapeEntry}
use Rattle.catchup_engine.specs.declared.trace.Access.{Access}
use Rattle.lockstep_board.specs.Order.{cleared, Recorded, behind, records_of}
use Rattle.lockstep_board.specs.Lockstep.{Board, access_in, step}
use Rattle.lockstep_board.specs.Run.{boundary_steps, is_over}
use Rattle.catchup_engine.specs.Trace.{access_at, accesses_in, accesses_of, no_access, no_trace, seven_of, step_trace, trace_of}
use Rattle.lockstep_board.proofs.Behind.{behind-cleared, boundary_steps-behind}
use Rattle.lockstep_board.proofs.Clocks.{step-clock}
use Rattle.catchup_engine.proofs.Notes.{starts-few}
use Rattle.catchup_engine.proofs.Traces.{over-running}
use Rattle.catchup_engine.specs.Starts.{mark_of, marks_in, marks_of, starts_generator}
use Rattle.run_trace.specs.BoardFrames.{run_marks}
use Rattle.run_trace.specs.PartLaws.{accesses-behind, accesses-few}

pub marks-append : (first rest : List Access) → marks_of (first ++ rest) ≡ marks_of first ++ marks_of rest
unfolding marks_of
marks-append first rest = filter_map-append mark_of first rest

-- an access that starts the generator is one mark, and another is none
mark-starts : (access : Access) (rest : List Access) → starts_generator access ≡ true → marks_of (access ∷ rest) ≡ access.clock ∷ marks_of rest
unfolding marks_of
mark-starts access rest is = rw is refl

mark-other : (access : Access) (rest : List Access) → starts_generator access ≡ false → marks_of (access ∷ rest) ≡ marks_of rest
unfolding marks_of
mark-other access rest is = rw is refl

pub marks-nothing : marks_of [] ≡ []
unfolding marks_of
marks-nothing = refl

-- accesses that are none make no mark
marks-none : (n : ℕ) (rest : List Access) → All (λ access. starts_generator access ≡ false) rest → marks_of (take n rest) ≡ []
marks-none zero rest none = marks-nothing
marks-none (suc n) [] none = marks-nothing
marks-none (suc n) (access ∷ rest) none =
    mark-other access (take n rest) (none 0 access (omega arith)) ∙ marks-none n rest (λ k d inside. none (suc k) d (omega (arith, inside)))

-- the marks of two lists that begin with the same access
marks-more : (access : Access) (xs ys : List Access) (t : Bool) → starts_generator access ≡ t → marks_of xs ≡ marks_of ys
    → marks_of (access ∷ xs) ≡ marks_of (access ∷ ys)
marks-more access xs ys true is others = mark-starts access xs is ∙ ap (λ l. access.clock ∷ l) others ∙ sym (mark-starts access ys is)
marks-more access xs ys false is others = mark-other access xs is ∙ others ∙ sym (mark-other access ys is)

-- among some accesses and then none, taken so far that all of them are there
marks-front : (n : ℕ) (made rest : List Access) → length made ≤ n → All (λ access. starts_generator access ≡ false) rest
    → marks_of (take n (made ++ rest)) ≡ marks_of made
marks-front n [] rest few none = marks-none n rest none ∙ sym marks-nothing
marks-front zero (access ∷ made) rest few none = absurd (omega arith)
marks-front (suc n) (access ∷ made) rest few none =
    marks-more access (take n (made ++ rest)) made (starts_generator access) refl (marks-front n made rest (omega arith) none)

none-drop : (n : ℕ) (rest : List Access) → All (λ access. starts_generator access ≡ false) rest
    → All (λ access. starts_generator access ≡ false) (drop n rest)
none-drop zero rest none = none
none-drop (suc n) [] none = none
none-drop (suc n) (access ∷ rest) none = none-drop n rest (λ k d inside. none (suc k) d (omega (arith, inside)))

none-times : (n : ℕ) → All (λ access. starts_generator access ≡ false) (replicate n no_access)
none-times zero = All-nil (λ access. starts_generator access ≡ false)
none-times (suc n) = All-cons (λ access. starts_generator access ≡ false) no_access (replicate n no_access) refl (none-times n)

-- the marks of a turn are those of its trace
pub turn-marks : (entries : List TapeEntry) (limit : ℕ) (b : Board) → is_over limit b ≡ false
    → marks_of (accesses_of entries (boundary_steps entries (b.peripherals.clock + 1) b) b) ≡ marks_in (step_trace entries b)
unfolding step_trace trace_of
turn-marks entries limit b open_yet =
    let n = boundary_steps entries (b.peripherals.clock + 1) b in
    let made = accesses_of entries n b in
    let here : marks_of (take n (seven_of made)) ≡ marks_of made =
    marks-front n made (drop (length made) (replicate 7 no_access)) (accesses-few entries n b)
    (none-drop (length made) (replicate 7 no_access) (none-times 7)) in
    sym here
    ∙ sym (ap (λ (jam : Option ℕ). marks_in (if is_some jam then no_trace else trace_of entries n b)) (over-running limit b open_yet).running)

-- a mark is of the clock of its access
pub one-mark : (clock : ℕ) (access : Option cycles.Access) → All (λ mark. mark ≡ clock) (marks_of (accesses_in clock access))
one-mark clock None = subst (All (λ mark. mark ≡ clock)) (sym marks-nothing) (All-nil (λ mark. mark ≡ clock))
one-mark clock (Some access) = by_start access
  where
    by_test : (a : Access) → a.clock ≡ clock → (t : Bool) → starts_generator a ≡ t → All (λ mark. mark ≡ clock) (marks_of (a ∷ []))
    by_test a same true is =
        subst (All (λ mark. mark ≡ clock)) (sym (mark-starts a [] is ∙ ap (λ l. a.clock ∷ l) marks-nothing))
        (All-cons (λ mark. mark ≡ clock) a.clock [] same (All-nil (λ mark. mark ≡ clock)))
    by_test a same false is =
        subst (All (λ mark. mark ≡ clock)) (sym (mark-other a [] is ∙ marks-nothing)) (All-nil (λ mark. mark ≡ clock))

    by_start : (a : cycles.Access) → All (λ mark. mark ≡ clock) (marks_of (access_at clock a ∷ []))
    by_start (read_of address value) = by_test (access_at clock (read_of address value)) refl _ refl
    by_start (write_of address value) = by_test (access_at clock (write_of address value)) refl _ refl

-- the marks of n clocks are of these clocks
pub marks-within : (entries : List TapeEntry) (n : ℕ) (b : Board)
    → All (λ mark. (b.peripherals.clock ≤ mark) × (mark < b.peripherals.clock + n)) (marks_of (accesses_of entries n b))
unfolding accesses_of
marks-within entries zero b =
    subst (All (λ mark. (b.peripherals.clock ≤ mark) × (mark < b.peripherals.clock + 0))) (sym marks-nothing)
    (All-nil (λ mark. (b.peripherals.clock ≤ mark) × (mark < b.peripherals.clock + 0)))
marks-within entries (suc n) b =
    let at = b.peripherals.clock in
    let one = step-clock entries b in
    let first = accesses_in at (access_in entries b) in
    let rest = accesses_of entries n (step entries b) in
    subst (All (λ mark. (at ≤ mark) × (mark < at + suc n))) (sym (marks-append first rest))
    (All-append (λ mark. (at ≤ mark) × (mark < at + suc n)) (marks_of first) (marks_of rest)
    (All-weaker (λ mark. mark ≡ at) (λ mark. (at ≤ mark) × (mark < at + suc n)) (λ mark same. ((omega arith), (omega arith))) (marks_of first)
    (one-mark at (access_in entries b)))
    (All-weaker (λ mark. ((step entries b).peripherals.clock ≤ mark) × (mark < (step entries b).peripherals.clock + n)) (λ mark. (at ≤ mark) × (mark < at + suc n))
    (λ mark both. (let low = both.0 in let high = both.1 in ((omega arith), (omega arith)))) (marks_of rest) (marks-within entries n (step entries b))))

-- they are no more than the accesses
pub marks-few : (entries : List TapeEntry) (n : ℕ) (b : Board) → length (marks_of (accesses_of entries n b)) ≤ n
marks-few entries n b =
    let fewer = starts-few (accesses_of entries n b) in
    let few = accesses-few entries n b in
    omega arith

-- records made before don't change the marks of a run
pub run_marks-behind : (entries : List TapeEntry) (limit : ℕ) (l : Recorded) (b : Board) → run_marks entries limit (behind l b) ≡ run_marks entries limit b
unfolding run_marks
run_marks-behind entries limit l b =
    ap (λ n. marks_of (accesses_of entries n (behind l b))) (boundary_steps-behind entries limit l b)
    ∙ ap marks_of (accesses-behind entries (boundary_steps entries limit b) l b)

pub run_marks-cleared : (entries : List TapeEntry) (limit : ℕ) (b : Board) → run_marks entries limit (cleared b) ≡ run_marks entries limit b
run_marks-cleared entries limit b =
    sym (run_marks-behind entries limit (records_of b) (cleared b)) ∙ ap (run_marks entries limit) (behind-cleared b)
