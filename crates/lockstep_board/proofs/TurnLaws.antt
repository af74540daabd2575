-- The lockstep board turn by turn.
use Rattle.std.proofs.Common.{◌≡◌, ℕ, ◌+◌, ◌-◌, ◌≤◌, ◌<◌, Bool, true, false, ◌&&◌, ◌||◌, nat_le, is_some, is_none, List}
use Rattle.std.proofs.Common.{Option, Some, None, IfSome, zero, suc, refl, sym, ap, ◌∙◌, arith, zero-add, inl, inr, subst}
use Rattle.std.proofs.lemmas.Bool.{cases_lt}
use Rattle.std.proofs.lemmas.Bool.Decides.{nat_tests}
use Rattle.board_base.specs.Mid.{MidValue}
use Rattle.tape_ports.specs.declared.entry.TapeEntry.{TapeEntry}
use Rattle.lockstep_board.specs.Lockstep.{Board}
use Rattle.lockstep_board.specs.Run.{steps_until, is_jammed, is_over, boundary_steps, to_boundary, IsPlaced}
use Rattle.lockstep_board.specs.Order.{Recorded, behind}
use Rattle.lockstep_board.specs.Breaks.{turn, turned, BreakRun, TurnsTo}
use Rattle.lockstep_board.proofs.Behind.{to_boundary-behind}
use Rattle.lockstep_board.proofs.Ends.{boundary-split, over-past, to_boundary-clock, to_boundary-over}
use Rattle.lockstep_board.proofs.Places.{RunsInside, step-inside, to_boundary-placed}
use Rattle.lockstep_board.proofs.Runs.{stepped-keeps, to_boundary-is}

open-jam : (jam : Option ℕ) (boundary : Bool) (limit clock : ℕ) → is_some jam || (boundary && nat_le limit clock) ≡ false → jam ≡ None
open-jam None boundary limit clock e = refl
open-jam (Some o) boundary limit clock e = cc

over-boundary : (jam : Option ℕ) (mid : Option MidValue) (limit clock : ℕ) → IfSome mid (λ _. jam ≡ None) → is_some jam || (is_none mid && nat_le limit clock) ≡ true → mid ≡ None
over-boundary jam None limit clock inside over = refl
over-boundary jam (Some m) limit clock inside over = let e = rw inside at over in cc

running-inside : (jam : Option ℕ) (mid : Option MidValue) → jam ≡ None → IfSome mid (λ _. jam ≡ None)
running-inside jam None e = tt
running-inside jam (Some m) e = e

-- a run to a boundary that is over takes no step
pub to_boundary-none : (entries : List TapeEntry) (limit : ℕ) (b : Board) → is_over limit b ≡ true → to_boundary entries limit b ≡ b
to_boundary-none entries limit b over = to_boundary-is entries limit 0 b b refl over (omega arith)

steps-some : (entries : List TapeEntry) (asked : Board → Bool) (most : ℕ) (b : Board) → asked b ≡ false → 1 ≤ most → 1 ≤ steps_until entries asked most b
unfolding steps_until
steps-some entries asked zero b e some = absurd (omega arith)
steps-some entries asked (suc most) b e some = rw e (omega arith)

-- and one that isn't takes some
pub to_boundary-later : (entries : List TapeEntry) (limit : ℕ) (b : Board) → is_over limit b ≡ false → b.peripherals.clock < (to_boundary entries limit b).peripherals.clock
to_boundary-later entries limit b e =
    let some = steps-some entries (is_over limit) ((limit - b.peripherals.clock) + 6) b e (omega arith) in let clock = to_boundary-clock entries limit b in omega arith

-- a jammed board's turn is itself
pub turn-jammed : (entries : List TapeEntry) (b : Board) → is_jammed b ≡ true → turn entries b ≡ b
turn-jammed entries b jammed = to_boundary-none entries (b.peripherals.clock + 1) b (rw jammed refl)

-- the turn of another moves the clock on
pub turn-later : (entries : List TapeEntry) (b : Board) → b.cpu.jam ≡ None → b.peripherals.clock < (turn entries b).peripherals.clock
turn-later entries b running = to_boundary-later entries (b.peripherals.clock + 1) b (grind (arith, nat_tests))

-- and ends at a boundary
pub turn-boundary : (entries : List TapeEntry) (b : Board) → IsPlaced b → b.cpu.jam ≡ None → (turn entries b).cpu.mid ≡ None
unfolding to_boundary
turn-boundary entries b placed running =
    let limit = b.peripherals.clock + 1 in
    let inside = stepped-keeps entries RunsInside (λ c _. step-inside entries c) (boundary_steps entries limit b) b (running-inside b.cpu.jam b.cpu.mid running) in
    over-boundary _ _ limit _ inside (to_boundary-over entries limit b placed)

pub turn-placed : (entries : List TapeEntry) (b : Board) → IsPlaced b → IsPlaced (turn entries b)
turn-placed entries b placed = to_boundary-placed entries (b.peripherals.clock + 1) b placed

-- a turn adds to the records made before
pub turn-behind : (entries : List TapeEntry) (l : Recorded) (b : Board) → turn entries (behind l b) ≡ behind l (turn entries b)
turn-behind entries l b = to_boundary-behind entries (b.peripherals.clock + 1) l b

-- the same for n turns
pub turned-placed : (entries : List TapeEntry) (n : ℕ) (b : Board) → IsPlaced b → IsPlaced (turned entries n b)
unfolding turned
turned-placed entries zero b placed = placed
turned-placed entries (suc n) b placed = turned-placed entries n (turn entries b) (turn-placed entries b placed)

pub turned-behind : (entries : List TapeEntry) (n : ℕ) (l : Recorded) (b : Board) → turned entries n (behind l b) ≡ behind l (turned entries n b)
unfolding turned
turned-behind entries zero l b = refl
turned-behind entries (suc n) l b = ap (turned entries n) (turn-behind entries l b) ∙ turned-behind entries n l (turn entries b)

-- some turns and then one
pub turned-next : (entries : List TapeEntry) (n : ℕ) (b : Board) → turned entries (suc n) b ≡ turn entries (turned entries n b)
unfolding turned
turned-next entries zero b = refl
turned-next entries (suc n) b = turned-next entries n (turn entries b)

-- some turns and then others
pub turned-add : (entries : List TapeEntry) (n m : ℕ) (b : Board) → turned entries (n + m) b ≡ turned entries m (turned entries n b)
unfolding turned
turned-add entries zero m b = rw (zero-add m) refl
turned-add entries (suc n) m b = let e : suc n + m ≡ suc (n + m) = omega arith in rw e (turned-add entries n m (turn entries b))

-- a run that isn't over and whose limit comes with the next clock, or before, is a turn
pub to_boundary-turn : (entries : List TapeEntry) (limit : ℕ) (b : Board) → IsPlaced b → is_over limit b ≡ false → limit ≤ b.peripherals.clock + 1 → to_boundary entries limit b ≡ turn entries b
to_boundary-turn entries limit b placed open_yet near =
    let last = to_boundary entries limit b in let later = to_boundary-later entries limit b open_yet in
    let over = over-past last.cpu.jam (is_none last.cpu.mid) limit (b.peripherals.clock + 1) last.peripherals.clock (to_boundary-over entries limit b placed) (omega arith) in
    sym (boundary-split entries limit (b.peripherals.clock + 1) b near placed ∙ to_boundary-none entries (b.peripherals.clock + 1) last over)

over-next : (entries : List TapeEntry) (limit n : ℕ) (b : Board) → is_over limit b ≡ false
    → ((k : ℕ) → k < n → is_over limit (turned entries k (turn entries b)) ≡ false) → (k : ℕ) → k < suc n → is_over limit (turned entries k b) ≡ false
unfolding turned
over-next entries limit n b first rest zero few = first
over-next entries limit n b first rest (suc k) few = rest k (omega arith)

turns-none : (entries : List TapeEntry) (limit : ℕ) (b : Board) → is_over limit b ≡ true → TurnsTo entries limit b
unfolding turned
turns-none entries limit b over = record { count = 0; board = to_boundary-none entries limit b over; over = λ k few. absurd (omega arith) }

turns-next : (entries : List TapeEntry) (limit : ℕ) (b : Board) → is_over limit b ≡ false → to_boundary entries limit b ≡ to_boundary entries limit (turn entries b)
    → TurnsTo entries limit (turn entries b) → TurnsTo entries limit b
unfolding turned
turns-next entries limit b open_yet goes rest = record { count = suc rest.count; board = goes ∙ rest.board; over = over-next entries limit rest.count b open_yet rest.over }

turns-last : (entries : List TapeEntry) (limit : ℕ) (b : Board) → IsPlaced b → is_over limit b ≡ false → limit ≤ b.peripherals.clock + 1 → TurnsTo entries limit b
turns-last entries limit b placed open_yet near =
    let here = to_boundary-turn entries limit b placed open_yet near in
    let over : is_over limit (turn entries b) ≡ true = subst (λ (c : Board). is_over limit c ≡ true) here (to_boundary-over entries limit b placed) in
    turns-next entries limit b open_yet (here ∙ sym (to_boundary-none entries limit (turn entries b) over)) (turns-none entries limit (turn entries b) over)

turns-within : (entries : List TapeEntry) (far limit : ℕ) (b : Board) (over : Bool) → is_over limit b ≡ over → IsPlaced b → limit ≤ b.peripherals.clock + far → TurnsTo entries limit b
turns-within entries far limit b true e placed near = turns-none entries limit b e
turns-within entries zero limit b false e placed near = turns-last entries limit b placed e (omega arith)
turns-within entries (suc far) limit b false e placed near =
    elim (cases_lt b.peripherals.clock limit) [
      | inl before ↦ (
          let later = turn-later entries b (open-jam b.cpu.jam (is_none b.cpu.mid) limit b.peripherals.clock e) in
          turns-next entries limit b e (boundary-split entries (b.peripherals.clock + 1) limit b (omega arith) placed)
          (turns-within entries far limit (turn entries b) _ refl (turn-placed entries b placed) (omega arith)))
      | inr past ↦ turns-last entries limit b placed e (omega arith)
    ]

-- a run to a boundary is so many turns
pub turns-to : (entries : List TapeEntry) (limit : ℕ) (b : Board) → IsPlaced b → TurnsTo entries limit b
turns-to entries limit b placed = turns-within entries limit limit b (is_over limit b) refl placed (omega arith)

-- one turn is a run to a break
pub break-one : (entries : List TapeEntry) (limit : ℕ) (stops : Board → Bool) (b c : Board) → c ≡ turn entries b → BreakRun entries limit stops b c
unfolding turned
break-one entries limit stops b c is = record { count = 1; some = omega arith; board = is; over = λ k some few. absurd (omega arith); at = λ k some few. absurd (omega arith) }

-- what holds of the boards between some turns, after them, and between others
all-between : (holds : Board → Type 0) (entries : List TapeEntry) (n m : ℕ) (b c : Board) → c ≡ turned entries n b
    → ((k : ℕ) → 1 ≤ k → k < n → holds (turned entries k b)) → holds c → ((k : ℕ) → 1 ≤ k → k < m → holds (turned entries k c)) → (k : ℕ) → 1 ≤ k → k < n + m → holds (turned entries k b)
unfolding turned
all-between holds entries n m b c is first here rest k some few =
    elim (cases_lt k n) [
      | inl less ↦ first k some less
      | inr past ↦ let e : k ≡ n + (k - n) = omega arith in rw (e, turned-add entries n (k - n) b, ← is) (from (k - n) (omega arith))
    ]
  where
    from : (j : ℕ) → j < m → holds (turned entries j c)
    from zero less = here
    from (suc j) less = rest (suc j) (omega arith) less

-- a run to a break that stands at none yet, and goes on
pub breaks-append : (entries : List TapeEntry) (limit : ℕ) (stops : Board → Bool) (b c d : Board) → BreakRun entries limit stops b c
    → is_over limit c ≡ false → stops c ≡ false → BreakRun entries limit stops c d → BreakRun entries limit stops b d
breaks-append entries limit stops b c d first open_yet away rest =
    let some = first.some in
    record {
      count = first.count + rest.count;
      some = omega arith;
      board = rest.board ∙ ap (turned entries rest.count) first.board ∙ sym (turned-add entries first.count rest.count b);
      over = all-between (λ e. is_over limit e ≡ false) entries first.count rest.count b c first.board first.over open_yet rest.over;
      at = all-between (λ e. stops e ≡ false) entries first.count rest.count b c first.board first.at away rest.at;
    }

pub ruleset turn_laws = (turns-to, turn-later, turn-boundary, turn-jammed, turned-behind, turned-placed)
