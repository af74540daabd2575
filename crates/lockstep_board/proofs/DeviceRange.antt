-- The divider, the watchdog and the EAROM stay in their ranges.
use Rattle.std.proofs.Common.{rules, ℕ, ◌+◌, ◌%◌, ◌<◌, ◌==◌, ◌&&◌, Bool, if◌then◌else◌, List, [], ◌∷◌, nat_lt, slice_index, slice_set, bit_and, zero, suc, All, ◌∙◌, arith}
use Rattle.std.proofs.lemmas.Bool.{cond_both, eqb-false}
use Rattle.std.proofs.lemmas.Bool.Decides.{nat_tests}
use Rattle.std.proofs.lemmas.List.{length-set}
use Rattle.std.proofs.lemmas.List.Elements.{All-set, All-head, All-tail}
use Rattle.std.proofs.lemmas.Nat.{and_le_l}
use Rattle.board_base.specs.declared.divider.TheConstants.{DIVIDER_PERIOD, WATCHDOG_WRAPS}
use Rattle.board_base.specs.Divider.{DividerValue, IsDivider}
use Rattle.board_base.specs.Earom.{EaromValue}
use Rattle.earom_cells.specs.Tick.{is_held, is_c2_high, written_cell, completed, held_on, earom_tick, reads_out, controlled}
use Rattle.irq_watchdog.specs.Tick.{divider_tick, wrapped}
use Rattle.cpu_core.specs.Ranges.{IsByte}
use Rattle.lockstep_board.specs.Ranges.{AreBytes, IsEaromInRange}

-- what holds of both branches
pub either : {A : Type 0} (P : A → Type 0) (b : Bool) (x y : A) → P x → P y → P (if b then x else y)
either P b x y h k = cond_both b x y P (λ _. h) (λ _. k)

-- an element of a list of bytes is one, and past the list stands 0
pub byte_at : (bytes : List ℕ) (k : ℕ) → All IsByte bytes → IsByte (slice_index bytes k)
byte_at [] k h = omega arith
byte_at (b ∷ bytes) zero h = All-head IsByte b bytes h
byte_at (b ∷ bytes) (suc k) h = byte_at bytes k (All-tail IsByte b bytes h)

-- with one byte anew they are as many bytes
pub set_bytes : (len : ℕ) (bytes : List ℕ) (k value : ℕ) → IsByte value → AreBytes len bytes → AreBytes len (slice_set bytes k value)
set_bytes len bytes k value byte h = record { count = length-set bytes k value ∙ h.count; each = All-set IsByte bytes k value byte h.each }

written_byte : (e : EaromValue) → IsEaromInRange e → IsByte (written_cell e)
written_byte e h =
    cond_both (is_c2_high e.control) 255 (bit_and (slice_index e.cells e.addr) e.value) IsByte (λ _. omega arith)
    (λ _. let old = byte_at e.cells e.addr h.cells in omega (arith, and_le_l (slice_index e.cells e.addr) e.value))

held_in : (e : EaromValue) → IsEaromInRange e → e.hold < 1512 → IsEaromInRange (held_on e)
unfolding held_on
held_in e h short =
    cond_both (e.hold + 1 == 1512) (completed e) (record e { hold = e.hold + 1 }) IsEaromInRange
    (λ _. let cells = set_bytes 64 e.cells e.addr (written_cell e) (written_byte e h) (record { count = h.device.cells; each = h.cells }) in search rules) (λ _. search rules)

pub earom_tick-in_range : (e : EaromValue) → IsEaromInRange e → IsEaromInRange (earom_tick e)
unfolding earom_tick
earom_tick-in_range e h = cond_both (is_held e.control && nat_lt e.hold 1512) (held_on e) e IsEaromInRange (λ both. held_in e h (grind (arith, nat_tests))) (λ _. h)

pub controlled-in_range : (value : ℕ) (e : EaromValue) → IsEaromInRange e → IsEaromInRange (controlled value e)
unfolding controlled
controlled-in_range value e h = let out = either IsByte (reads_out e.control (value % 16)) (slice_index e.cells e.addr) e.out (byte_at e.cells e.addr h.cells) h.out in search rules

wrapped-in_range : (d : DividerValue) → IsDivider d → IsDivider (wrapped d)
unfolding wrapped
wrapped-in_range d h =
    cond_both (d.dog + 1 == WATCHDOG_WRAPS) _ _ IsDivider (λ _. record { phase = omega arith; dog = omega arith })
    (λ e. let other = eqb-false (d.dog + 1) WATCHDOG_WRAPS e in let few = h.dog in record { phase = omega arith; dog = omega arith })

pub divider_tick-in_range : (d : DividerValue) → IsDivider d → IsDivider (divider_tick d)
unfolding divider_tick
divider_tick-in_range d h =
    cond_both (d.phase + 1 == DIVIDER_PERIOD) (wrapped d) (record d { phase = d.phase + 1 }) IsDivider (λ _. wrapped-in_range d h)
    (λ e. let other = eqb-false (d.phase + 1) DIVIDER_PERIOD e in let before = h.phase in record { phase = omega arith; dog = h.dog })
