-- Each run ends, and may be cut in two: a run to a clock takes the clocks up to it, and a run to a
-- boundary six more at most.
use Rattle.std.proofs.Common.{◌≡◌, ℕ, ◌+◌, ◌-◌, ◌≤◌, Bool, true, false, ◌&&◌, ◌||◌, nat_le, is_some, is_none, List}
use Rattle.std.proofs.Common.{◌<◌, length, Option, Some, None, IfSome, zero, suc, refl, arith, inl, inr, if◌then◌else◌}
use Rattle.std.proofs.lemmas.Bool.{cases_lt}
use Rattle.std.proofs.lemmas.Bool.Decides.{nat_tests}
use Rattle.board_base.specs.Mid.{MidValue}
use Rattle.cpu_core.specs.Places.{given_by}
use Rattle.tape_ports.specs.declared.entry.TapeEntry.{TapeEntry}
use Rattle.lockstep_board.specs.Lockstep.{Board, step}
use Rattle.lockstep_board.specs.Run.{stepped, steps_until, is_over, is_at, is_cut, boundary_steps, clock_steps, cut_steps, to_boundary, to_clock, to_cut, IsPlaced}
use Rattle.lockstep_board.proofs.Clocks.{next_count, step-clock, stepped-clock}
use Rattle.lockstep_board.proofs.Places.{step-at, step-placed, to_clock-placed, to_boundary-placed}
use Rattle.lockstep_board.proofs.Runs.{Least, least, reached-append, reached-asked, steps-none, steps_until-is, stepped-add}

-- the test of a run to a boundary, over a jam, whether the board stands at a boundary, and its
-- clock
pub over-past : (jam : Option ℕ) (boundary : Bool) (x y clock : ℕ) → is_some jam || (boundary && nat_le x clock) ≡ true → y ≤ clock → is_some jam || (boundary && nat_le y clock) ≡ true
over-past jam boundary x y clock e past = grind (arith, nat_tests)

not-boundary : (jam : Option ℕ) (boundary : Bool) (limit clock : ℕ) → limit ≤ clock → is_some jam || (boundary && nat_le limit clock) ≡ false → boundary ≡ false
not-boundary jam boundary limit clock h e = grind (arith, nat_tests)

-- inside a sequence the steps left to its end are so many at most
abbrev EndsWithin : ℕ → Option MidValue → Type 0
EndsWithin n mid = IfSome mid (λ m. (1 ≤ n) × (7 ≤ length (given_by m) + n))

within-none : (jam : Option ℕ) (mid : Option MidValue) (limit clock : ℕ) → EndsWithin 0 mid → limit ≤ clock → is_some jam || (is_none mid && nat_le limit clock) ≡ true
within-none jam None limit clock within h = grind (arith, nat_tests)
within-none jam (Some m) limit clock within h = let some = within.0 in absurd (omega arith)

within-next : (n : ℕ) (P : Type 0) (before after : Option MidValue) → IfSome after (λ m. (length (given_by m) ≡ next_count before) × (next_count before ≤ 6) × P)
    → EndsWithin (suc n) before → is_none before ≡ false → EndsWithin n after
within-next n P None after at within inside = cc
within-next n P (Some k) None at within inside = tt
within-next n P (Some k) (Some m) at within inside = let one = at.0 in let short = at.1 in let left = within.1 in (omega arith, omega arith)

within-first : (n : ℕ) (mid : Option MidValue) → IfSome mid (λ m. 1 ≤ length (given_by m)) → 6 ≤ n → EndsWithin n mid
within-first n None placed few = tt
within-first n (Some m) placed few = ((omega arith), (omega arith))

module _ (entries : List TapeEntry) where
  by-clocks : (cut : ℕ) (asked : Board → Bool) → ((c : Board) → cut ≤ c.peripherals.clock → asked c ≡ true) → (b : Board)
      → asked (stepped entries (steps_until entries asked (cut - b.peripherals.clock) b) b) ≡ true
  by-clocks cut asked late b =
      let all = stepped-clock entries (steps_until entries asked (cut - b.peripherals.clock) b) b in
      elim ((least entries asked (cut - b.peripherals.clock) b).ended) [ inl over ↦ over | inr full ↦ late _ (omega arith) ]

  -- after the clocks up to its end a run to a clock is over, whatever the board
  pub to_clock-ended : (cut : ℕ) (b : Board) → is_at cut (to_clock entries cut b) ≡ true
  unfolding to_clock
  to_clock-ended cut b = by-clocks cut (is_at cut) (λ c h. grind (arith, nat_tests)) b

  -- and so is one that ends with a window too
  pub to_cut-ended : (cut wrap : ℕ) (b : Board) → is_cut cut wrap (to_cut entries cut wrap b) ≡ true
  unfolding to_cut
  to_cut-ended cut wrap b = by-clocks cut (is_cut cut wrap) (λ c h. grind (arith, nat_tests)) b

  over-step : (limit n : ℕ) (b : Board) (t : Bool) → is_over limit b ≡ t → (t ≡ false → is_over limit (stepped entries n (step entries b)) ≡ true)
      → is_over limit (stepped entries (if t then 0 else suc n) b) ≡ true
  unfolding stepped
  over-step limit n b true e rest = e
  over-step limit n b false e rest = rest refl

  -- a run to a boundary has steps enough: six more than the clocks up to its limit, and from it on
  -- those to the end of the sequence
  over-within : (limit most : ℕ) (b : Board) → IsPlaced b → (b.peripherals.clock < limit → (limit - b.peripherals.clock) + 6 ≤ most)
      → (limit ≤ b.peripherals.clock → EndsWithin most b.cpu.mid) → is_over limit (stepped entries (steps_until entries (is_over limit) most b) b) ≡ true
  unfolding steps_until stepped
  over-within limit zero b placed early late = elim (cases_lt b.peripherals.clock limit) [
    | inl before ↦ (let few = early before in absurd (omega arith))
    | inr past ↦ within-none b.cpu.jam b.cpu.mid limit b.peripherals.clock (late past) past
  ]
  over-within limit (suc most) b placed early late =
      let one = step-clock entries b in
      over-step limit _ b (is_over limit b) refl (λ open_yet. over-within limit most (step entries b) (step-placed entries b) (λ before. let few = early (omega arith) in omega arith)
      (λ after. elim (cases_lt b.peripherals.clock limit) [
        | inl before ↦ within-first most (step entries b).cpu.mid (step-placed entries b) (let few = early before in omega arith)
        | inr past ↦ within-next most _ b.cpu.mid _ (step-at entries b) (late past) (not-boundary b.cpu.jam (is_none b.cpu.mid) limit b.peripherals.clock past open_yet)
      ]))

  -- at its end a run to a boundary is over
  pub to_boundary-over : (limit : ℕ) (b : Board) → IsPlaced b → is_over limit (to_boundary entries limit b) ≡ true
  unfolding to_boundary
  to_boundary-over limit b placed = over-within limit _ b placed (λ before. omega arith) (λ past. within-first _ b.cpu.mid placed (omega arith))

  -- it takes as many clocks as steps
  pub to_boundary-clock : (limit : ℕ) (b : Board) → (to_boundary entries limit b).peripherals.clock ≡ b.peripherals.clock + boundary_steps entries limit b
  unfolding to_boundary
  to_boundary-clock limit b = stepped-clock entries (boundary_steps entries limit b) b

  -- a run to a boundary has six clocks after its limit at most
  pub boundary_steps-few : (limit : ℕ) (b : Board) → boundary_steps entries limit b ≤ (limit - b.peripherals.clock) + 6
  boundary_steps-few limit b = (least entries (is_over limit) ((limit - b.peripherals.clock) + 6) b).few

  -- a run to a clock has those up to its end at most
  pub clock_steps-few : (cut : ℕ) (b : Board) → clock_steps entries cut b ≤ cut - b.peripherals.clock
  clock_steps-few cut b = (least entries (is_at cut) (cut - b.peripherals.clock) b).few

  -- the steps up to a board that comes no later are the first of them
  split : (asked sooner : Board → Bool) (n m k most : ℕ) (b : Board) → ((c : Board) → sooner c ≡ false → asked c ≡ false) → n ≡ steps_until entries sooner m b
      → asked (stepped entries (steps_until entries asked k (stepped entries n b)) (stepped entries n b)) ≡ true
      → (n ≤ m → (stepped entries n b).peripherals.clock ≡ b.peripherals.clock + n → steps_until entries asked k (stepped entries n b) ≤ k
      → n + steps_until entries asked k (stepped entries n b) ≤ most) → steps_until entries asked most b ≡ n + steps_until entries asked k (stepped entries n b)
  split asked sooner n m k most b weaker e over few =
      let last = stepped entries n b in let first : Least entries sooner m b n = rw e (least entries sooner m b) in let rest = least entries asked k last in
      steps_until-is entries asked (n + steps_until entries asked k last) most b _
      (reached-append entries asked n _ b last _ (reached-asked entries asked sooner weaker n b last first.reached) rest.reached)
      over (few first.few (stepped-clock entries n b) rest.few)

  join : (n m k : ℕ) (b : Board) → k ≡ n + m → stepped entries k b ≡ stepped entries m (stepped entries n b)
  join n m k b e = rw e (stepped-add entries n m b)

  -- a run to y takes as many steps as one to x and then one to y
  pub to_clock-split-steps : (x y : ℕ) (b : Board) → x ≤ y → clock_steps entries y b ≡ clock_steps entries x b + clock_steps entries y (to_clock entries x b)
  unfolding to_clock
  to_clock-split-steps x y b h = split (is_at y) (is_at x) (clock_steps entries x b) _ _ _ b (λ c e. grind (arith, nat_tests)) refl (to_clock-ended y _) (λ few all rest. omega arith)

  -- and leads to the same board
  pub to_clock-split : (x y : ℕ) (b : Board) → x ≤ y → to_clock entries y b ≡ to_clock entries y (to_clock entries x b)
  unfolding to_clock
  to_clock-split x y b h = join _ _ _ b (to_clock-split-steps x y b h)

  -- the same for a run to a boundary after one to a clock
  pub boundary-clock-steps : (x y : ℕ) (b : Board) → x ≤ y → IsPlaced b → boundary_steps entries y b ≡ clock_steps entries x b + boundary_steps entries y (to_clock entries x b)
  unfolding to_clock to_boundary
  boundary-clock-steps x y b h placed =
      split (is_over y) (is_at x) (clock_steps entries x b) _ _ _ b (λ c e. grind (arith, nat_tests)) refl (to_boundary-over y _ (to_clock-placed entries x b placed)) (λ few all rest. omega arith)

  pub boundary-clock : (x y : ℕ) (b : Board) → x ≤ y → IsPlaced b → to_boundary entries y b ≡ to_boundary entries y (to_clock entries x b)
  unfolding to_clock to_boundary
  boundary-clock x y b h placed = join _ _ _ b (boundary-clock-steps x y b h placed)

  -- for a run to a boundary after another
  pub boundary-split-steps : (x y : ℕ) (b : Board) → x ≤ y → IsPlaced b → boundary_steps entries y b ≡ boundary_steps entries x b + boundary_steps entries y (to_boundary entries x b)
  unfolding to_boundary
  boundary-split-steps x y b h placed =
      let last = stepped entries (boundary_steps entries x b) b in
      split (is_over y) (is_over x) (boundary_steps entries x b) _ _ _ b (λ c e. grind (arith, nat_tests)) refl (to_boundary-over y _ (to_boundary-placed entries x b placed))
      (λ few all rest. elim (cases_lt last.peripherals.clock y) [
        | inl before ↦ omega arith
        | inr past ↦ (
            let over = over-past last.cpu.jam (is_none last.cpu.mid) x y last.peripherals.clock (to_boundary-over x b placed) past in
            omega (arith, steps-none entries (is_over y) ((y - last.peripherals.clock) + 6) last over))
      ])

  pub boundary-split : (x y : ℕ) (b : Board) → x ≤ y → IsPlaced b → to_boundary entries y b ≡ to_boundary entries y (to_boundary entries x b)
  unfolding to_boundary
  boundary-split x y b h placed = join _ _ _ b (boundary-split-steps x y b h placed)

  -- and for a run to a clock after one that may have ended with a window
  pub to_clock-cut-steps : (cut wrap : ℕ) (b : Board) → clock_steps entries cut b ≡ cut_steps entries cut wrap b + clock_steps entries cut (to_cut entries cut wrap b)
  unfolding to_clock to_cut
  to_clock-cut-steps cut wrap b =
      split (is_at cut) (is_cut cut wrap) (cut_steps entries cut wrap b) _ _ _ b (λ c e. grind (arith, nat_tests)) refl (to_clock-ended cut _) (λ few all rest. omega arith)

  pub to_clock-cut : (cut wrap : ℕ) (b : Board) → to_clock entries cut b ≡ to_clock entries cut (to_cut entries cut wrap b)
  unfolding to_clock to_cut
  to_clock-cut cut wrap b = join _ _ _ b (to_clock-cut-steps cut wrap b)

pub ruleset splits = (to_clock-ended, to_cut-ended, to_boundary-over, to_clock-split, boundary-clock, boundary-split, to_clock-cut)

pub ruleset split_steps = (to_clock-split-steps, boundary-clock-steps, boundary-split-steps, to_clock-cut-steps)
