-- Clocks in slices: the state and the tally go on from slice to slice.
use Rattle.std.proofs.Common.{◌≡◌, ℕ, ◌+◌, List, ◌++◌, fold, sym, ap, ◌∙◌, zero-add}
use Rattle.std.proofs.lemmas.Grind.{fold-append}
use Rattle.avg_device.specs.Tick.{vg_gives, vg_tick}
use Rattle.board_base.specs.declared.record.Record.{Record}
use Rattle.board_base.specs.Ticks.{made, ticks, times}
use Rattle.board_base.specs.Vg.{VgValue}
use Rattle.board_base.specs.Pokey.{PokeyValue}
use Rattle.board_base.proofs.TickLaws.{made-add, made-zero, ticks-add, ticks-zero, times-add, times-more, times-zero}
use Rattle.pokey_poly.specs.declared.poly.Poly.{Poly}
use Rattle.pokey_poly.specs.Shift.{shifted}
use Rattle.device_bench.specs.Tally.{empty_tally, tally_of, with_record}
use Rattle.pokey_chip.specs.Tick.{levels_made, pokey_gives, pokey_tick}

pub state-joined : (memory : List ℕ) (done n : ℕ) (s : VgValue) → ticks (vg_tick memory) done n (ticks (vg_tick memory) 0 done s) ≡ ticks (vg_tick memory) 0 (done + n) s
state-joined memory done n s = sym (ticks-add (vg_tick memory) 0 done n s ∙ ap (λ (from : ℕ). ticks (vg_tick memory) from n (ticks (vg_tick memory) 0 done s)) (zero-add done))

pub tally-joined : (xs ys : List Record) → fold with_record (tally_of xs) ys ≡ tally_of (xs ++ ys)
tally-joined xs ys = sym (fold-append with_record _ xs ys)

pub strokes-joined : (memory : List ℕ) (done n : ℕ) (s : VgValue)
    → made (vg_tick memory) vg_gives 0 done s ++ made (vg_tick memory) vg_gives done n (ticks (vg_tick memory) 0 done s) ≡ made (vg_tick memory) vg_gives 0 (done + n) s
strokes-joined memory done n s =
    sym (made-add (vg_tick memory) vg_gives 0 done n s
    ∙ ap (λ (from : ℕ). made (vg_tick memory) vg_gives 0 done s ++ made (vg_tick memory) vg_gives from n (ticks (vg_tick memory) 0 done s)) (zero-add done))

pub levels-joined : (done n : ℕ) (p : PokeyValue) → levels_made 0 done p ++ levels_made done n (times pokey_tick done p) ≡ levels_made 0 (done + n) p
levels-joined done n p =
    sym (made-add (λ _. pokey_tick) pokey_gives 0 done n p
    ∙ ap (λ (from : ℕ). levels_made 0 done p ++ levels_made from n (times pokey_tick done p)) (zero-add done))

pub times-joined : (done n : ℕ) (p : PokeyValue) → times pokey_tick n (times pokey_tick done p) ≡ times pokey_tick (done + n) p
times-joined done n p = sym (times-add pokey_tick done n p)

-- before the first slice
pub state-none : (memory : List ℕ) (s : VgValue) → ticks (vg_tick memory) 0 0 s ≡ s
state-none memory s = ticks-zero (vg_tick memory) 0 s

pub strokes-none : (memory : List ℕ) (s : VgValue) → tally_of (made (vg_tick memory) vg_gives 0 0 s) ≡ empty_tally
strokes-none memory s = ap tally_of (made-zero (vg_tick memory) vg_gives 0 s)

pub times-none : (p : PokeyValue) → times pokey_tick 0 p ≡ p
times-none p = times-zero pokey_tick p

pub levels-none : (p : PokeyValue) → tally_of (levels_made 0 0 p) ≡ empty_tally
levels-none p = ap tally_of (made-zero (λ _. pokey_tick) pokey_gives 0 p)

pub ruleset drawn = (state-joined, strokes-joined, tally-joined, state-none, strokes-none)

pub ruleset played = (levels-joined, tally-joined, times-joined, times-none, levels-none)

-- a register shifted once more
pub shift-none : (poly : Poly) (r : ℕ) → times (shifted poly) 0 r ≡ r
shift-none poly r = times-zero (shifted poly) r

pub shift-more : (poly : Poly) (n r : ℕ) → times (shifted poly) (n + 1) r ≡ shifted poly (times (shifted poly) n r)
shift-more poly n r = times-more (shifted poly) n r

pub ruleset shifts = (shift-none, shift-more)
