-- Runs of the lockstep board, step by step.
use Rattle.std.proofs.Common.{◌≡◌, ℕ, ◌+◌, ◌-◌, ◌≤◌, Bool, true, false, List, zero, suc, refl, sym, ap, arith, rules, zero-add, inl, inr, ◌⊎◌, if◌then◌else◌}
use Rattle.tape_ports.specs.declared.entry.TapeEntry.{TapeEntry}
use Rattle.lockstep_board.specs.Lockstep.{Board, step}
use Rattle.lockstep_board.specs.Run.{stepped, steps_until, is_over, is_cut, to_boundary, to_cut}
use Rattle.lockstep_board.specs.Steps.{StepsTo, IsInside, Through}

-- what each step keeps, n steps keep
pub stepped-keeps : (entries : List TapeEntry) (P : Board → Type 0) → ((b : Board) → P b → P (step entries b)) → (n : ℕ) (b : Board) → P b → P (stepped entries n b)
unfolding stepped
stepped-keeps entries P keeps zero b h = h
stepped-keeps entries P keeps (suc n) b h = stepped-keeps entries P keeps n (step entries b) (keeps b h)

-- some steps to a board and others from it
pub reached-append : (entries : List TapeEntry) (asked : Board → Bool) (n m : ℕ) (a b c : Board) → StepsTo entries asked n a b → StepsTo entries asked m b c → StepsTo entries asked (n + m) a c
reached-append entries asked zero m a b c first rest = rw (zero-add m, ← first) rest
reached-append entries asked (suc n) m a b c first rest = let e : suc n + m ≡ suc (n + m) = omega arith in rw e (first.0, reached-append entries asked n m (step entries a) b c first.1 rest)

-- the steps lead to the board that they are counted to
pub stepped-is : (entries : List TapeEntry) (asked : Board → Bool) (n : ℕ) (b last : Board) → StepsTo entries asked n b last → stepped entries n b ≡ last
unfolding stepped
stepped-is entries asked zero b last r = sym r
stepped-is entries asked (suc n) b last r = stepped-is entries asked n (step entries b) last r.1

-- the board asked for is reached by the least number of steps
pub steps_until-is : (entries : List TapeEntry) (asked : Board → Bool) (n most : ℕ) (b last : Board) → StepsTo entries asked n b last
    → asked last ≡ true → n ≤ most → steps_until entries asked most b ≡ n
unfolding steps_until
steps_until-is entries asked zero zero b last r over few = refl
steps_until-is entries asked zero (suc most) b last r over few = let e = rw r at over in rw e refl
steps_until-is entries asked (suc n) zero b last r over few = absurd (omega arith)
steps_until-is entries asked (suc n) (suc most) b last r over few = rw r.0 (ap suc (steps_until-is entries asked n most (step entries b) last r.1 over (omega arith)))

-- the board at which a run is over is the one that its definition gives
pub to_boundary-is : (entries : List TapeEntry) (limit n : ℕ) (b last : Board) → StepsTo entries (is_over limit) n b last
    → is_over limit last ≡ true → n ≤ (limit - b.peripherals.clock) + 6 → to_boundary entries limit b ≡ last
unfolding to_boundary
to_boundary-is entries limit n b last r over few = rw (steps_until-is entries (is_over limit) n ((limit - b.peripherals.clock) + 6) b last r over few) (stepped-is entries (is_over limit) n b last r)

-- the same for a run to a clock or a window's end
pub to_cut-is : (entries : List TapeEntry) (cut wrap n : ℕ) (b last : Board) → StepsTo entries (is_cut cut wrap) n b last
    → is_cut cut wrap last ≡ true → n ≤ cut - b.peripherals.clock → to_cut entries cut wrap b ≡ last
unfolding to_cut
to_cut-is entries cut wrap n b last r over few = rw (steps_until-is entries (is_cut cut wrap) n (cut - b.peripherals.clock) b last r over few) (stepped-is entries (is_cut cut wrap) n b last r)

-- inside a sequence a run to a boundary isn't over
not-over : (limit : ℕ) (b : Board) → IsInside b → is_over limit b ≡ false
not-over limit b inside = grind (arith, rules)

-- so that they lead on towards its end
pub through-reached : (entries : List TapeEntry) (limit n : ℕ) (b last : Board) → Through entries n b last → StepsTo entries (is_over limit) n b last
through-reached entries limit zero b last e = e
through-reached entries limit (suc n) b last t = (not-over limit b t.0, through-reached entries limit n (step entries b) last t.1)

-- the least number of steps, after which the board is as asked, or as many as were allowed; none
-- of the boards before is as asked
pub record Least (entries : List TapeEntry) (asked : Board → Bool) (most : ℕ) (b : Board) (n : ℕ) : Type 0 where
  pub reached : StepsTo entries asked n b (stepped entries n b)
  pub few : n ≤ most
  pub ended : (asked (stepped entries n b) ≡ true) ⊎ (n ≡ most)

least-by : (entries : List TapeEntry) (asked : Board → Bool) (n most : ℕ) (b : Board) (t : Bool) → asked b ≡ t
    → Least entries asked most (step entries b) n → Least entries asked (suc most) b (if t then 0 else suc n)
unfolding stepped
least-by entries asked n most b true e h = record { reached = refl; few = omega arith; ended = inl e }
least-by entries asked n most b false e h = record { reached = (e, h.reached); few = omega arith; ended = elim h.ended [ inl over ↦ inl over | inr all ↦ inr (ap suc all) ] }

pub least : (entries : List TapeEntry) (asked : Board → Bool) (most : ℕ) (b : Board) → Least entries asked most b (steps_until entries asked most b)
unfolding steps_until stepped
least entries asked zero b = record { reached = refl; few = omega arith; ended = inr refl }
least entries asked (suc most) b = least-by entries asked (steps_until entries asked most (step entries b)) most b (asked b) refl (least entries asked most (step entries b))

pub steps-reached : (entries : List TapeEntry) (asked : Board → Bool) (most : ℕ) (b : Board)
    → StepsTo entries asked (steps_until entries asked most b) b (stepped entries (steps_until entries asked most b) b)
steps-reached entries asked most b = (least entries asked most b).reached

-- some steps and then others
pub stepped-add : (entries : List TapeEntry) (n m : ℕ) (b : Board) → stepped entries (n + m) b ≡ stepped entries m (stepped entries n b)
unfolding stepped
stepped-add entries zero m b = rw (zero-add m) refl
stepped-add entries (suc n) m b = let e : suc n + m ≡ suc (n + m) = omega arith in rw e (stepped-add entries n m (step entries b))

-- no step was made from a board at which another run had come to its end, where it comes to it no
-- sooner
pub reached-asked : (entries : List TapeEntry) (asked sooner : Board → Bool) → ((c : Board) → sooner c ≡ false → asked c ≡ false)
    → (n : ℕ) (b last : Board) → StepsTo entries sooner n b last → StepsTo entries asked n b last
reached-asked entries asked sooner weaker zero b last r = r
reached-asked entries asked sooner weaker (suc n) b last r = (weaker b r.0, reached-asked entries asked sooner weaker n (step entries b) last r.1)

-- a board that is as asked needs no steps
pub steps-none : (entries : List TapeEntry) (asked : Board → Bool) (most : ℕ) (b : Board) → asked b ≡ true → steps_until entries asked most b ≡ 0
steps-none entries asked most b e = steps_until-is entries asked 0 most b b refl e (omega arith)
