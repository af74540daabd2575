-- A clock adds one record of each part at most, so that the records of a part come in the order of
-- their clocks.
use Rattle.std.proofs.Common.{ℕ, ◌+◌, List, refl, subst, ap}
use Rattle.board_base.specs.declared.part.Part.TheVariants as part
use Rattle.board_base.specs.Records.{MadeBetween}
use Rattle.board_base.proofs.RecordLaws.{made-append}
use Rattle.avg_device.specs.Tick.{vg_gives}
use Rattle.avg_device.proofs.ManyTicks.{vg_gives-few, vg_gives-made}
use Rattle.pokey_chip.specs.Tick.{pokey_gives}
use Rattle.pokey_chip.proofs.RecordLemmas.{gives-one, gives-made1, gives-made2}
use Rattle.tape_ports.specs.declared.entry.TapeEntry.{TapeEntry}
use Rattle.tape_ports.specs.Due.{due_at}
use Rattle.lockstep_board.specs.Peripherals.{applied, devices_ticked, ticked}
use Rattle.lockstep_board.specs.Lockstep.{Board, step}
use Rattle.lockstep_board.specs.Run.{stepped, to_boundary, boundary_steps}
use Rattle.lockstep_board.specs.Order.{records_of, AreMadeBetween, AddsOneClock}
use Rattle.lockstep_board.proofs.Clocks.{applied-kept, after_access-is, step-clock}
use Rattle.lockstep_board.proofs.Runs.{stepped-keeps}

-- what a step adds
pub adds-one : (entries : List TapeEntry) (b : Board) → AddsOneClock entries b
unfolding step ticked devices_ticked
adds-one entries b =
    let at = b.peripherals.clock in let w = applied (due_at at entries) b.peripherals in let same = applied-kept (due_at at entries) b.peripherals in let clock = ap (λ k. k.0) same in
    let one = (after_access-is b.cpu.mid b.cpu (devices_ticked w)).adds in let left = one.same in let written = subst (λ at. MadeBetween part.Board at one.added (at + 1)) clock one.made in
    record {
      added = record { strokes = vg_gives at w.vg; levels1 = pokey_gives at w.sound1; levels2 = pokey_gives at w.sound2; written = one.added };
      made = record { strokes = vg_gives-made at w.vg; levels1 = gives-made1 at w.sound1; levels2 = gives-made2 at w.sound2; written = written };
      after = rw (ap (λ k. k.2) left, ap (λ k. k.3) left, ap (λ k. k.4) left, one.written, ap (λ k. k.2) same, ap (λ k. k.3) same, ap (λ k. k.4) same, ap (λ k. k.5) same, clock) refl;
      few_strokes = vg_gives-few at w.vg;
      few_levels1 = gives-one at w.sound1;
      few_levels2 = gives-one at w.sound2;
      few_written = one.few;
    }

-- the records are in the order of their clocks
abbrev AreMade : ℕ → Board → Type 0
AreMade from b = AreMadeBetween from (records_of b) b.peripherals.clock

-- each step keeps the order
step-made : (entries : List TapeEntry) (from : ℕ) (b : Board) → AreMade from b → AreMade from (step entries b)
step-made entries from b m =
    let one = adds-one entries b in let at = b.peripherals.clock in
    rw (step-clock entries b, one.after) (record {
      strokes = made-append part.Generator from at (at + 1) _ _ m.strokes one.made.strokes;
      levels1 = made-append part.Pokey1 from at (at + 1) _ _ m.levels1 one.made.levels1;
      levels2 = made-append part.Pokey2 from at (at + 1) _ _ m.levels2 one.made.levels2;
      written = made-append part.Board from at (at + 1) _ _ m.written one.made.written;
    })

-- n steps keep it
pub stepped-made : (entries : List TapeEntry) (from n : ℕ) (b : Board) → AreMadeBetween from (records_of b) b.peripherals.clock
    → AreMadeBetween from (records_of (stepped entries n b)) (stepped entries n b).peripherals.clock
stepped-made entries from n b m = stepped-keeps entries (AreMade from) (λ c k. step-made entries from c k) n b m

-- and so does a run to a boundary
pub to_boundary-made : (entries : List TapeEntry) (from limit : ℕ) (b : Board) → AreMadeBetween from (records_of b) b.peripherals.clock
    → AreMadeBetween from (records_of (to_boundary entries limit b)) (to_boundary entries limit b).peripherals.clock
unfolding to_boundary
to_boundary-made entries from limit b m = stepped-made entries from (boundary_steps entries limit b) b m

pub ruleset orders = adds-one
