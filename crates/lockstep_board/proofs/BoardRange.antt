-- A step keeps a board in its range.
use Rattle.std.proofs.Common.{◌≡◌, ℕ, ◌+◌, ◌^◌, ◌<◌, ◌==◌, ◌++◌, nat_lt, true, List, [], rules, ◌∷◌, Option, Some, None, All, refl, subst, arith, length-append}
use Rattle.std.proofs.lemmas.Bool.Decides.{nat_tests}
use Rattle.std.proofs.lemmas.List.Elements.{All-filter, All-head, All-push, All-tail, All-take}
use Rattle.board_base.specs.declared.cpu.Sequence.{Sequence}
use Rattle.board_base.specs.declared.cpu.Sequence.TheVariants.{Reset}
use Rattle.board_base.specs.declared.divider.Pending.{Pending}
use Rattle.board_base.specs.declared.divider.Pending.TheVariants.{Watchdog}
use Rattle.board_base.specs.declared.vector_memory.TheConstants.{VECTOR_RAM_LEN}
use Rattle.board_base.specs.Cpu.{CpuValue}
use Rattle.board_base.specs.Mid.{MidValue}
use Rattle.board_base.specs.Pokey.{PokeyValue}
use Rattle.board_map.specs.declared.map.Reads.{Reads}
use Rattle.board_map.specs.declared.map.Reads.TheVariants as reads
use Rattle.board_map.specs.declared.map.Writes.{Writes}
use Rattle.board_map.specs.declared.map.Writes.TheVariants as writes
use Rattle.board_map.specs.Map.{row_of, IsWritable}
use Rattle.board_map.proofs.Within.{writable}
use Rattle.cpu_alu.specs.Flags.{is_masked}
use Rattle.cpu_core.specs.declared.replay.Next.{Next}
use Rattle.cpu_core.specs.declared.replay.Next.TheVariants.{Read, Write, End}
use Rattle.cpu_core.specs.Registers.{RegistersValue, registers_of}
use Rattle.cpu_core.specs.Sequences.{next_of, start_of}
use Rattle.cpu_core.specs.Places.{IsPlace, given_by}
use Rattle.cpu_core.specs.Ranges.{AreRegistersInRange, IsByte, IsMidInRange, IsProcessorInRange, WritesByte}
use Rattle.cpu_core.proofs.ProcessorRange.{end_in, standing_in, start_in, start_masks, written_in}
use Rattle.pokey_chip.specs.Registers.{all_pot, register_read}
use Rattle.pokey_chip.proofs.PotLemmas.{number_fits}
use Rattle.tape_ports.specs.declared.entry.Port.{Port}
use Rattle.tape_ports.specs.declared.entry.Port.TheVariants as port
use Rattle.tape_ports.specs.declared.entry.TapeEntry.{TapeEntry}
use Rattle.tape_ports.specs.Due.{due_at}
use Rattle.lockstep_board.specs.Lockstep.{Board, accessed, accessed_by, after_access, at_fetch, started, sequence_due, step}
use Rattle.lockstep_board.specs.Ranges.{ArePeripheralsInRange, IsBoardInRange, IsPokeyInRange}
use Rattle.lockstep_board.specs.Run.{stepped}
use Rattle.lockstep_board.specs.Peripherals.{Peripherals, applied, byte_in, byte_put, byte_read, devices_ticked, port_set, put_in, reset_started, reset_by, ticked}
use Rattle.lockstep_board.proofs.DeviceRange.{byte_at, controlled-in_range, divider_tick-in_range, earom_tick-in_range, set_bytes}
use Rattle.lockstep_board.proofs.GeneratorRange.{vg_go-in_range, vg_reset-in_range, vg_tick-in_range}
use Rattle.lockstep_board.proofs.Runs.{stepped-keeps}
use Rattle.lockstep_board.proofs.PokeyRange.{pokey_tick-in_range, pot_set-in_range, register_written-in_range}

-- Each case shows by a `let` what it changes, and `search` takes the rest of the range from h.
port_set_in : (p : Port) (value : ℕ) (w : Peripherals) → IsByte value → ArePeripheralsInRange w → ArePeripheralsInRange (port_set p value w)
port_set_in (port.Pot1 which) value w byte h = let sound1 = pot_set-in_range which value w.sound1 byte h.sound1 in search rules
port_set_in (port.Pot2 which) value w byte h = let sound2 = pot_set-in_range which value w.sound2 byte h.sound2 in search rules
port_set_in _ value w byte h = search rules

-- an entry's value is a byte
abbrev HasByte : TapeEntry → Type 0
HasByte entry = IsByte entry.value

applied_in : (entries : List TapeEntry) (w : Peripherals) → All HasByte entries → ArePeripheralsInRange w → ArePeripheralsInRange (applied entries w)
unfolding applied
applied_in [] w all h = h
applied_in (entry ∷ entries) w all h =
    applied_in entries (port_set entry.port entry.value w) (All-tail HasByte entry entries all) (port_set_in entry.port entry.value w (All-head HasByte entry entries all) h)

ticked_in : (entries : List TapeEntry) (w : Peripherals) → All HasByte entries → ArePeripheralsInRange w → ArePeripheralsInRange (ticked entries w)
unfolding ticked devices_ticked
ticked_in entries w all h =
    let v = applied (due_at w.clock entries) w in let k = applied_in (due_at w.clock entries) w (All-filter (λ entry. entry.clock == w.clock) HasByte entries all) h in
    let divider = divider_tick-in_range v.divider k.divider in let vg = vg_tick-in_range v.memory v.clock v.vg k.memory.each k.vg in let sound1 = pokey_tick-in_range v.sound1 k.sound1 in
    let sound2 = pokey_tick-in_range v.sound2 k.sound2 in let earom = earom_tick-in_range v.earom k.earom in search rules

register_read_in : (reg : ℕ) (p : PokeyValue) → IsPokeyInRange p → IsByte (register_read reg p)
unfolding register_read all_pot
register_read_in reg p h =
    let few = h.pots.pot in let requests = h.requests.irqst in let all = subst (λ n. all_pot p < 2 ^ n) h.pots.count (number_fits (λ target. nat_lt p.pot target) p.targets) in
    grind (arith, nat_tests)

byte_in_in : (got : Reads) (k : ℕ) (w : Peripherals) → ArePeripheralsInRange w → IsByte (byte_in got k w)
byte_in_in reads.Ram k w h = byte_at w.ram k h.ram.each
byte_in_in reads.VectorRam k w h = byte_at w.memory k h.memory.each
byte_in_in reads.VectorRom k w h = byte_at w.memory (VECTOR_RAM_LEN + k) h.memory.each
byte_in_in reads.Sound1 reg w h = register_read_in reg w.sound1 h.sound1
byte_in_in reads.Sound2 reg w h = register_read_in reg w.sound2 h.sound2
byte_in_in reads.EaromOut k w h = h.earom.out
byte_in_in reads.In0 k w h = let low = h.ports.in0 in grind arith
byte_in_in reads.In3 k w h = h.ports.in3
byte_in_in reads.In4 k w h = h.ports.in4
byte_in_in reads.ProgramRom k w h = byte_at w.program k h.program.each
byte_in_in _ k w h = omega arith

put_in_in : (put : Writes) (k value : ℕ) (w : Peripherals) → IsWritable put k → IsByte value → ArePeripheralsInRange w → ArePeripheralsInRange (put_in put k value w)
put_in_in writes.Ram k value w at byte h = let ram = set_bytes _ w.ram k value byte h.ram in search rules
put_in_in writes.VectorRam k value w at byte h = let memory = set_bytes _ w.memory k value byte h.memory in search rules
put_in_in writes.Sound1 reg value w at byte h = let sound1 = register_written-in_range reg value w.sound1 byte h.sound1 in search rules
put_in_in writes.Sound2 reg value w at byte h = let sound2 = register_written-in_range reg value w.sound2 byte h.sound2 in search rules
put_in_in writes.Go k value w at byte h = let vg = vg_go-in_range w.vg h.vg in search rules
put_in_in writes.VgReset k value w at byte h = let vg = vg_reset-in_range w.vg h.vg in search rules
put_in_in writes.EaromControl k value w at byte h = let earom = controlled-in_range value w.earom h.earom in search rules
put_in_in _ k value w at byte h = search rules

reset_by_in : (p : Pending) (w : Peripherals) → ArePeripheralsInRange w → ArePeripheralsInRange (reset_by p w)
reset_by_in Watchdog w h = let vg = vg_reset-in_range w.vg h.vg in search rules
reset_by_in _ w h = search rules

started_in : (q : Sequence) (b : Board) → IsBoardInRange b → IsBoardInRange (started q b)
unfolding reset_started
started_in Reset b h = record { cpu = h.cpu; peripherals = reset_by_in b.peripherals.divider.pending b.peripherals h.peripherals }
started_in _ b h = h

-- the next access of a sequence, made
accessed_by_in : (next : Next) (r : RegistersValue) (q : Sequence) (bytes : List ℕ) (w : Peripherals) → next_of r q bytes ≡ next
    → AreRegistersInRange r → All IsByte bytes → (q ≡ Reset → is_masked r.p ≡ true) → ArePeripheralsInRange w → IsBoardInRange (accessed_by next r q bytes w)
unfolding byte_read byte_put
accessed_by_in (Read a) r q bytes w is regs all mask h =
    let v = byte_in (row_of a).reads (row_of a).offset w in let all = All-push IsByte bytes v all (byte_in_in (row_of a).reads (row_of a).offset w h) in
    record { cpu = standing_in r q (bytes ++ v ∷ []) regs all (omega (arith, length-append bytes (v ∷ []))) mask; peripherals = h }
accessed_by_in (Write a v) r q bytes w is regs all mask h =
    let byte : IsByte v = subst WritesByte is (written_in r q bytes regs all) in
    let all = All-push IsByte bytes v all byte in let after = put_in_in (row_of a).writes (row_of a).offset v w (writable a) byte h in
    record { cpu = standing_in r q (bytes ++ v ∷ []) regs all (omega (arith, length-append bytes (v ∷ []))) mask; peripherals = after }
accessed_by_in (End e) r q bytes w is regs all mask h = record { cpu = end_in r q bytes e is regs all; peripherals = h }

after_access_in : (mid : Option MidValue) (c : CpuValue) (w : Peripherals) → c.mid ≡ mid → IsProcessorInRange c → ArePeripheralsInRange w → IsBoardInRange (after_access mid c w)
unfolding at_fetch accessed
after_access_in None c w is cpu h = let q = sequence_due c w in started_in q _ (accessed_by_in _ (start_of q c) q [] w refl (start_in q c cpu) (λ k d past. absurd (omega arith)) (start_masks q c) h)
after_access_in (Some m) c w is cpu h =
    let range : IsMidInRange m = rw is at cpu.mid in let middle : (c.jam ≡ None) × IsPlace (registers_of c) m = rw is at cpu.stands.place in let place : IsPlace (registers_of c) m = middle.1 in
    accessed_by_in _ (registers_of c) m.sequence (given_by m) w refl cpu.registers (All-take IsByte m.count m.bytes range.bytes) place.masked h

-- a step keeps a board in its range
pub step-in_range : (entries : List TapeEntry) (b : Board) → All (λ entry. IsByte entry.value) entries → IsBoardInRange b → IsBoardInRange (step entries b)
unfolding step
step-in_range entries b all h = let moved = after_access_in b.cpu.mid b.cpu (ticked entries b.peripherals) refl h.cpu (ticked_in entries b.peripherals all h.peripherals) in search rules

-- and so do n steps
pub stepped-in_range : (entries : List TapeEntry) (n : ℕ) (b : Board) → All (λ entry. IsByte entry.value) entries → IsBoardInRange b → IsBoardInRange (stepped entries n b)
stepped-in_range entries n b all h = stepped-keeps entries IsBoardInRange (λ c k. step-in_range entries c all k) n b h

pub ruleset in_range = (step-in_range, stepped-in_range)
