-- A clock with its entries and its ticks, step by step.
use Rattle.std.proofs.Common.{◌≡◌, ℕ, ◌+◌, List, refl, ap, ◌∙◌}
use Rattle.tape_ports.specs.declared.entry.TapeEntry.{TapeEntry}
use Rattle.tape_ports.specs.Due.{due_at}
use Rattle.tape_ports.specs.Tape.{TapeValue}
use Rattle.lockstep_board.specs.Budget.{wraps}
use Rattle.lockstep_board.specs.Peripherals.{Peripherals, applied, devices_ticked, ticked}
use Rattle.catchup_engine.specs.Bus.{BusValue, IsTapePlace, done_clock}
use Rattle.lockstep_board.proofs.Clocks.{ticked-clock, ticked-written}
use Rattle.catchup_engine.proofs.TapeLaws.{applied-clock}
use Rattle.lockstep_board.proofs.Wraps.{applied-divider}

-- the entries of a clock, and then its ticks
pub ticked-is : (entries : List TapeEntry) (w v : Peripherals) → v ≡ applied (due_at w.clock entries) w → devices_ticked v ≡ ticked entries w
unfolding ticked
ticked-is entries w v e = ap devices_ticked e

-- entries don't change the divider, nor its wrap
pub wraps-applied : (entries : List TapeEntry) (w : Peripherals) → wraps (applied entries w) ≡ wraps w
wraps-applied entries w = rw (applied-divider entries w) refl

devices_ticked-clock : (w : Peripherals) → (devices_ticked w).clock ≡ w.clock
unfolding devices_ticked
devices_ticked-clock w = refl

pub ruleset events = (ticked-is, wraps-applied, applied-clock)

-- the clock after ticks
pub ticks-clock : (b a t : BusValue) (clock : ℕ) → a.peripherals.clock ≡ clock → t.peripherals ≡ done_clock (devices_ticked a.peripherals) → t.peripherals.clock ≡ clock + 1
ticks-clock b a t clock here ticks =
    ap (λ (w : Peripherals). w.clock) ticks ∙ ap (λ n. n + 1) (devices_ticked-clock a.peripherals ∙ here)

-- the place of the next clock, after the entries and the ticks
pub place-after : (tape : TapeValue) (s a t : BusValue) → a.peripherals ≡ applied (due_at s.peripherals.clock tape.entries) s.peripherals
    → t.peripherals ≡ done_clock (devices_ticked a.peripherals) → t.tape_pos ≡ a.tape_pos → IsTapePlace tape (s.peripherals.clock + 1) a.tape_pos → IsTapePlace tape t.peripherals.clock t.tape_pos
place-after tape s a t applies ticks tape_pos place =
    let here : a.peripherals.clock ≡ s.peripherals.clock = ap (λ (w : Peripherals). w.clock) applies ∙ applied-clock (due_at s.peripherals.clock tape.entries) s.peripherals in
    let clock : t.peripherals.clock ≡ s.peripherals.clock + 1 = ticks-clock s a t s.peripherals.clock here ticks in
    rw (clock, tape_pos) place

-- what the ticks of a clock don't change
pub ruleset kept = (ticked-clock, ticked-written)
