-- Whether the next fetch reads an opcode.
use Rattle.std.proofs.Common.{◌≡◌, ◌≢◌, ◌+◌, ◌≤◌, true, ◌&&◌, nat_le, is_none, Option, Some, None, refl, arith}
use Rattle.std.proofs.lemmas.Bool.{and_parts, leb-true}
use Rattle.board_base.specs.declared.cpu.Sequence.{Sequence}
use Rattle.board_base.specs.declared.cpu.Sequence.TheVariants.{Opcode, Interrupt, Reset}
use Rattle.board_base.specs.declared.divider.Pending.{Pending}
use Rattle.board_base.specs.declared.divider.Pending.TheVariants.{Nothing, Power, Watchdog}
use Rattle.board_base.specs.Cpu.{CpuValue}
use Rattle.board_base.specs.Mid.{MidValue}
use Rattle.catchup_engine.specs.declared.bus.TheConstants.{MAX_SEQUENCE_CLOCKS}
use Rattle.lockstep_board.specs.Lockstep.{is_reset, sequence_due}
use Rattle.lockstep_board.specs.Peripherals.{devices_ticked}
use Rattle.catchup_engine.specs.Bus.{BusValue}
use Rattle.catchup_engine.specs.Turn.{ReadsOpcode, is_opcode, reads_opcode}

pub reset-pending : (p : Pending) → p ≢ Nothing → is_reset p ≡ true
reset-pending Nothing h = absurd (h refl)
reset-pending Power h = refl
reset-pending Watchdog h = refl

pub ruleset opcodes = reset-pending

opcode-is : (q : Sequence) → is_opcode q ≡ true → q ≡ Opcode
opcode-is Opcode e = refl
opcode-is Interrupt e = cc
opcode-is Reset e = cc

none-is : (mid : Option MidValue) → is_none mid ≡ true → mid ≡ None
none-is None e = refl
none-is (Some m) e = cc

-- what it states of the next fetch
pub record Reads (c : CpuValue) (s : BusValue) : Type 0 where
  pub reads : ReadsOpcode c s
  pub no_event : s.peripherals.clock + MAX_SEQUENCE_CLOCKS ≤ s.event_at

pub reads-opcode : (c : CpuValue) (s : BusValue) → reads_opcode c s ≡ true → Reads c s
unfolding reads_opcode
reads-opcode c s e =
    let both = and_parts (is_none c.mid) (nat_le (s.peripherals.clock + MAX_SEQUENCE_CLOCKS) s.event_at && is_opcode (sequence_due c (devices_ticked s.peripherals))) e in
    let more = and_parts (nat_le (s.peripherals.clock + MAX_SEQUENCE_CLOCKS) s.event_at) (is_opcode (sequence_due c (devices_ticked s.peripherals))) both.1 in
    let no_event : s.peripherals.clock + MAX_SEQUENCE_CLOCKS ≤ s.event_at = leb-true (s.peripherals.clock + MAX_SEQUENCE_CLOCKS) s.event_at more.0 in
    record {
      reads = record {
        boundary = none-is c.mid both.0;
        no_event = omega arith;
        due = opcode-is (sequence_due c (devices_ticked s.peripherals)) more.1;
      };
      no_event = no_event;
    }
