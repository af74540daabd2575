-- The laws of one clock that the devices rest on.
use Rattle.std.proofs.Common.{ℕ, ◌+◌, ◌≤◌, ◌==◌, Bool, true, false, not, ◌&&◌, List, [], ◌∷◌, length, if◌then◌else◌, arith}
use Rattle.std.proofs.lemmas.Int.{to_z-of_z}
use Rattle.board_base.proofs.ExtendedLaws.{Extended-none}
use Rattle.board_base.proofs.TickLaws.{length-made, one_tick}
use Rattle.board_base.proofs.RecordLaws.{made-ticks}
use Rattle.board_base.specs.declared.part.Part.TheVariants.{Generator}
use Rattle.board_base.specs.declared.record.Record.{Record}
use Rattle.board_base.specs.declared.record.Record.TheVariants.{Stroke}
use Rattle.board_base.specs.Records.{MadeBetween}
use Rattle.board_base.specs.Ticks.{made}
use Rattle.board_base.specs.Vg.{VgValue}
use Rattle.board_base.specs.declared.phase.TheConstants.{DRAW}
use Rattle.avg_device.specs.Tick.{beam_x, beam_y, stroke_at, strokes_at, vg_gives, vg_tick}

-- a trail that stays
pub ruleset none = Extended-none

-- a trail and a state before any clock
pub ruleset start = (Extended-none, one_tick)

-- numbers of 32 bits, as a call is given them
pub ruleset passed = to_z-of_z

-- a vector has one stroke at most
strokes_at-few : (clock : ℕ) (v : VgValue) → length (strokes_at clock v) ≤ 1
unfolding strokes_at
strokes_at-few clock v = grind arith

either_few : (b : Bool) (xs : List Record) → length xs ≤ 1 → length (if b then xs else []) ≤ 1
either_few true xs few = few
either_few false xs few = omega arith

-- a clock gives one record at most
pub vg_gives-few : (clock : ℕ) (v : VgValue) → length (vg_gives clock v) ≤ 1
unfolding vg_gives
vg_gives-few clock v = either_few (not v.halted && v.phase == DRAW && v.left == 1) (strokes_at clock v) (strokes_at-few clock v)

-- n clocks give n records at most
pub vg_made-few : (memory : List ℕ) (from n : ℕ) (v : VgValue) → length (made (vg_tick memory) vg_gives from n v) ≤ n
vg_made-few memory from n v = length-made (vg_tick memory) vg_gives from n v vg_gives-few

-- and it is a stroke of that clock
strokes_at-made : (clock : ℕ) (v : VgValue) → MadeBetween Generator clock (strokes_at clock v) (clock + 1)
unfolding strokes_at stroke_at
strokes_at-made clock v = by_pen (v.pen == 0)
  where
    by_pen : (b : Bool) → MadeBetween Generator clock (if b then [] else (Stroke clock v.x v.y (beam_x v) (beam_y v) v.colour v.pen ∷ [])) (clock + 1)
    by_pen true = omega arith
    by_pen false = (tt, omega arith, omega arith, omega arith)

either_made : (b : Bool) (clock : ℕ) (xs : List Record) → MadeBetween Generator clock xs (clock + 1)
    → MadeBetween Generator clock (if b then xs else []) (clock + 1)
either_made true clock xs m = m
either_made false clock xs m = omega arith

pub vg_gives-made : (clock : ℕ) (v : VgValue) → MadeBetween Generator clock (vg_gives clock v) (clock + 1)
unfolding vg_gives
vg_gives-made clock v = either_made (not v.halted && v.phase == DRAW && v.left == 1) clock (strokes_at clock v) (strokes_at-made clock v)

-- n clocks give strokes of their clocks
pub vg_made-between : (memory : List ℕ) (from n : ℕ) (v : VgValue) → MadeBetween Generator from (made (vg_tick memory) vg_gives from n v) (from + n)
vg_made-between memory from n v = made-ticks Generator (vg_tick memory) vg_gives vg_gives-made from n v

pub ruleset few_records = (vg_gives-few, vg_made-few, vg_gives-made, vg_made-between)
