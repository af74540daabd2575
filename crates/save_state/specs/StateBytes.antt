-- The format of a saved board: a table of its fields. This project's own choice.
use Rattle.std.specs.Prelude.{ℕ, ◌+◌, ◌-◌, Bool, ◌==◌, if◌then◌else◌, List, [], ◌∷◌, ◌++◌, slice_index, take, drop, Option, Some, None}
use Rattle.std.specs.Option.{is_some}
use Rattle.std.specs.List.{concat}
use Rattle.std.specs.Int.{w16, w32, w64, from_le_bytes}
use Rattle.board_base.specs.Board.{BoardValue}
use Rattle.board_base.specs.Cpu.{CpuValue}
use Rattle.board_base.specs.Mid.{MidValue, count_of}
use Rattle.board_base.specs.Divider.{DividerValue, reset_number}
use Rattle.board_base.specs.Earom.{EaromValue}
use Rattle.board_base.specs.Pokey.{PokeyValue}
use Rattle.board_base.specs.Vg.{VgValue}
use Rattle.board_base.specs.declared.board.TheConstants.{RAM_LEN, CLOCK_LIMIT}
use Rattle.board_base.specs.declared.divider.TheConstants.{DIVIDER_PERIOD, WATCHDOG_WRAPS}
use Rattle.board_base.specs.declared.earom.TheConstants.{HOLD_CLOCKS}
use Rattle.board_base.specs.declared.pokey.TheConstants.{LONGEST_PERIOD, POT_LIMIT, PRESCALER_BASE, PRESCALER_LINE}
use Rattle.board_base.specs.declared.vector_memory.TheConstants.{VECTOR_RAM_LEN}
use Rattle.board_base.specs.declared.vg.TheConstants.{BEAM_EDGE, DELTA_EDGE}
use Rattle.board_base.specs.declared.cpu.Sequence.{Sequence}
use Rattle.board_base.specs.declared.cpu.Sequence.TheVariants.{Opcode, Interrupt, Reset}
use Rattle.board_base.specs.declared.phase.TheConstants.{DRAW}
use Rattle.save_state.specs.Fields.{Range, letters, six_zeros, flags, undocumented_opcode, byte_at_most, byte_from_1, number_at_most, number_from_1, place, any, byte_to, number_to}
use Rattle.save_state.specs.Fields.{count_to, signed_to, flag, u16_bytes, u32_bytes, u64_bytes, i32_bytes, Facts, Row, row, row_by, rows_of, rows_at, pieces_of}

-- the number of a sequence, none being 0
abbrev pub sequence_number : Sequence → ℕ
sequence_number Opcode = 1
sequence_number Interrupt = 2
sequence_number Reset = 3

-- the number of the sequence that a processor stands inside
abbrev pub number_of : Option MidValue → ℕ
number_of None = 0
number_of (Some m) = sequence_number m.sequence

-- the opcode that jams, 0 where none does
abbrev pub opcode_of : Option ℕ → ℕ
opcode_of None = 0
opcode_of (Some o) = o

-- the six bytes of a sequence's clocks, all 0 inside none
abbrev pub bytes_of : Option MidValue → List ℕ
bytes_of None = 0 ∷ 0 ∷ 0 ∷ 0 ∷ 0 ∷ 0 ∷ []
bytes_of (Some m) = m.bytes

-- the opcode that jams is an undocumented one
abbrev pub opcode_range : Bool → Range
opcode_range jammed = if jammed then undocumented_opcode else byte_at_most 0

-- a sequence has one to six clocks done of it
abbrev pub count_range : Bool → Range
count_range idle = if idle then byte_at_most 0 else byte_from_1 6

-- the bytes are such that the processor can stand there
abbrev pub bytes_range : Bool → Range
bytes_range idle = if idle then six_zeros else place

-- the range of the clocks that are left of a vector
abbrev pub left_range : Bool → Range
left_range drawing = if drawing then number_from_1 w16 8192 else number_at_most w16 0

-- a byte that is 0, whatever the board is
abbrev pub zero_at : ℕ → Row (Unit {0})
zero_at at = row at (byte_to 0) (λ _. 0 ∷ [])

-- The table: of each field its offset, its bytes and their range, and how a board has it.

-- the version, and the letters G, V and S
abbrev pub head_rows : List (Row ℕ)
head_rows =
    row 0 (any 1) (λ version. version ∷ []) ∷
    row 1 (record { width = 3; range = letters }) (λ version. 0x47 ∷ 0x56 ∷ 0x53 ∷ []) ∷
    []

-- the clocks done
abbrev pub clock_rows : List (Row ℕ)
clock_rows = row_by 4 8 (λ facts. number_at_most w64 facts.last) (λ clock. u64_bytes clock) ∷ []

-- the registers: pc, a, x, y, s, and p with bits 4 and 5 clear
abbrev pub register_rows : List (Row CpuValue)
register_rows =
    row 12 (any 2) (λ c. u16_bytes c.pc) ∷
    row 14 (any 1) (λ c. c.a ∷ []) ∷
    row 15 (any 1) (λ c. c.x ∷ []) ∷
    row 16 (any 1) (λ c. c.y ∷ []) ∷
    row 17 (any 1) (λ c. c.s ∷ []) ∷
    row 18 (record { width = 1; range = flags }) (λ c. c.p ∷ []) ∷
    []

-- whether the processor is jammed, and by which undocumented opcode
abbrev pub jam_rows : List (Row (Option ℕ))
jam_rows =
    row 19 (byte_to 1) (λ jam. flag (is_some jam)) ∷
    row_by 20 1 (λ facts. opcode_range facts.jammed) (λ jam. opcode_of jam ∷ []) ∷
    []

-- the output latch, and the three ports
abbrev pub port_rows : List (Row BoardValue)
port_rows =
    row 21 (any 1) (λ b. b.out ∷ []) ∷
    row 22 (byte_to 63) (λ b. b.in0 ∷ []) ∷
    row 23 (any 1) (λ b. b.in3 ∷ []) ∷
    row 24 (any 1) (λ b. b.in4 ∷ []) ∷
    []

-- the divider and the watchdog
abbrev pub divider_rows : List (Row DividerValue)
divider_rows =
    row 25 (number_to w16 (DIVIDER_PERIOD - 1)) (λ d. u16_bytes d.phase) ∷
    row 27 (byte_to 1) (λ d. flag d.irq) ∷
    row 28 (byte_to (WATCHDOG_WRAPS - 1)) (λ d. d.dog ∷ []) ∷
    row 29 (byte_to 2) (λ d. reset_number d.pending ∷ []) ∷
    []

-- the sequence that the processor stands inside, which is none where it is jammed
abbrev pub sequence_rows : List (Row (Option MidValue))
sequence_rows = row_by 30 1 (λ facts. byte_at_most (if facts.jammed then 0 else 3)) (λ mid. number_of mid ∷ []) ∷ []

-- the place inside it: the clocks that are done of it, and their bytes
abbrev pub place_rows : List (Row (Option MidValue))
place_rows =
    row_by 31 1 (λ facts. count_range facts.idle) (λ mid. count_of mid ∷ []) ∷
    row_by 32 6 (λ facts. bytes_range facts.idle) (λ mid. bytes_of mid) ∷
    []

-- version 1 has eight zeros in place of the sequence and the place
abbrev pub eight_rows : List (Row (Unit {0}))
eight_rows = zero_at 30 ∷ zero_at 31 ∷ zero_at 32 ∷ zero_at 33 ∷ zero_at 34 ∷ zero_at 35 ∷ zero_at 36 ∷ zero_at 37 ∷ []

-- six zeros
abbrev pub zero_rows : List (Row (Unit {0}))
zero_rows = zero_at 38 ∷ zero_at 39 ∷ zero_at 40 ∷ zero_at 41 ∷ zero_at 42 ∷ zero_at 43 ∷ []

-- the vector generator: whether it is halted, its program, its pen, and the word under way
abbrev pub pen_rows : List (Row VgValue)
pen_rows =
    row 44 (byte_to 1) (λ v. flag v.halted) ∷
    row 45 (byte_to DRAW) (λ v. v.phase ∷ []) ∷
    row 46 (number_to w16 8191) (λ v. u16_bytes v.pc) ∷
    row 48 (byte_to 3) (λ v. v.sp ∷ []) ∷
    row 49 (byte_to 7) (λ v. v.colour ∷ []) ∷
    row 50 (byte_to 15) (λ v. v.intensity ∷ []) ∷
    row 51 (any 1) (λ v. v.lin ∷ []) ∷
    row 52 (byte_to 7) (λ v. v.bin ∷ []) ∷
    row 53 (byte_to 15) (λ v. v.pen ∷ []) ∷
    row 54 (any 4) (λ v. v.bytes) ∷
    []

-- its stack of four
abbrev pub stack_rows : List (Row (List ℕ))
stack_rows =
    row 58 (number_to w16 8191) (λ stack. u16_bytes (slice_index stack 0)) ∷
    row 60 (number_to w16 8191) (λ stack. u16_bytes (slice_index stack 1)) ∷
    row 62 (number_to w16 8191) (λ stack. u16_bytes (slice_index stack 2)) ∷
    row 64 (number_to w16 8191) (λ stack. u16_bytes (slice_index stack 3)) ∷
    []

-- the beam, the vector being drawn, and the clocks that are left of it, in the phase that draws
-- alone
abbrev pub beam_rows : List (Row VgValue)
beam_rows =
    row 66 (signed_to BEAM_EDGE) (λ v. i32_bytes v.x) ∷
    row 70 (signed_to BEAM_EDGE) (λ v. i32_bytes v.y) ∷
    row 74 (signed_to DELTA_EDGE) (λ v. i32_bytes v.dx) ∷
    row 78 (signed_to DELTA_EDGE) (λ v. i32_bytes v.dy) ∷
    row_by 82 2 (λ facts. left_range facts.drawing) (λ v. u16_bytes v.left) ∷
    []

-- all of it
abbrev pub vg_rows : List (Row VgValue)
vg_rows = pen_rows ++ rows_of (λ v. v.stack) stack_rows ++ beam_rows

-- a POKEY, from its own first byte: its registers, its requests, its polynomial registers and its
-- prescalers
abbrev pub tone_rows : List (Row PokeyValue)
tone_rows =
    row 0 (any 4) (λ p. p.audf) ∷
    row 4 (any 4) (λ p. p.audc) ∷
    row 8 (any 1) (λ p. p.audctl ∷ []) ∷
    row 9 (any 1) (λ p. p.skctl ∷ []) ∷
    row 10 (byte_to 7) (λ p. p.irqen ∷ []) ∷
    row 11 (byte_to 7) (λ p. p.irqst ∷ []) ∷
    row 12 (byte_to 15) (λ p. p.poly4 ∷ []) ∷
    row 13 (byte_to 31) (λ p. p.poly5 ∷ []) ∷
    row 14 (number_to w16 511) (λ p. u16_bytes p.poly9) ∷
    row 16 (number_to w32 131071) (λ p. u32_bytes p.poly17) ∷
    row 20 (byte_to (PRESCALER_BASE - 1)) (λ p. p.pre28 ∷ []) ∷
    row 21 (byte_to (PRESCALER_LINE - 1)) (λ p. p.pre114 ∷ []) ∷
    []

-- the pulses that are left of each of its channels
abbrev pub pulse_rows : List (Row (List ℕ))
pulse_rows =
    row 22 (count_to w32 LONGEST_PERIOD) (λ left. u32_bytes (slice_index left 0)) ∷
    row 26 (count_to w32 LONGEST_PERIOD) (λ left. u32_bytes (slice_index left 1)) ∷
    row 30 (count_to w32 LONGEST_PERIOD) (λ left. u32_bytes (slice_index left 2)) ∷
    row 34 (count_to w32 LONGEST_PERIOD) (λ left. u32_bytes (slice_index left 3)) ∷
    []

-- its tone and high-pass bits, and its pots
abbrev pub level_rows : List (Row PokeyValue)
level_rows =
    row 38 (byte_to 15) (λ p. p.tone ∷ []) ∷
    row 39 (byte_to 3) (λ p. p.pass ∷ []) ∷
    row 40 (byte_to POT_LIMIT) (λ p. p.pot ∷ []) ∷
    row 41 (any 8) (λ p. p.targets) ∷
    []

-- the levels of its channels
abbrev pub last_rows : List (Row (List ℕ))
last_rows =
    row 49 (byte_to 15) (λ last. slice_index last 0 ∷ []) ∷
    row 50 (byte_to 15) (λ last. slice_index last 1 ∷ []) ∷
    row 51 (byte_to 15) (λ last. slice_index last 2 ∷ []) ∷
    row 52 (byte_to 15) (λ last. slice_index last 3 ∷ []) ∷
    []

-- its channels and its pots
abbrev pub channel_rows : List (Row PokeyValue)
channel_rows = rows_of (λ p. p.left) pulse_rows ++ level_rows ++ rows_of (λ p. p.last) last_rows

-- all of it
abbrev pub pokey_rows : List (Row PokeyValue)
pokey_rows = tone_rows ++ channel_rows

-- the EAROM
abbrev pub earom_rows : List (Row EaromValue)
earom_rows =
    row 190 (byte_to 63) (λ e. e.addr ∷ []) ∷
    row 191 (any 1) (λ e. e.value ∷ []) ∷
    row 192 (byte_to 15) (λ e. e.control ∷ []) ∷
    row 193 (number_to w16 HOLD_CLOCKS) (λ e. u16_bytes e.hold) ∷
    row 195 (any 1) (λ e. e.out ∷ []) ∷
    row 196 (any 64) (λ e. e.cells) ∷
    []

-- both memories
abbrev pub memory_rows : List (Row BoardValue)
memory_rows =
    row 260 (any RAM_LEN) (λ b. b.ram) ∷
    row 2308 (any VECTOR_RAM_LEN) (λ b. b.vram) ∷
    []

-- all fields up to the sequence
abbrev pub front_rows : ℕ → List (Row BoardValue)
front_rows version =
    rows_of (λ b. version) head_rows ++
    rows_of (λ b. b.clock) clock_rows ++
    rows_of (λ b. b.cpu) register_rows ++
    rows_of (λ b. b.cpu.jam) jam_rows ++
    port_rows ++
    rows_of (λ b. b.divider) divider_rows

-- all fields after the place, where each POKEY stands at its own offset
abbrev pub back_rows : List (Row BoardValue)
back_rows =
    rows_of (λ b. tt) zero_rows ++
    rows_of (λ b. b.vg) vg_rows ++
    rows_at 84 (rows_of (λ b. b.sound1) pokey_rows) ++
    rows_at 137 (rows_of (λ b. b.sound2) pokey_rows) ++
    rows_of (λ b. b.earom) earom_rows ++
    memory_rows

-- the sequence and the place, which version 1 doesn't have
abbrev pub middle_rows : Bool → List (Row BoardValue)
middle_rows first =
    if first then rows_of (λ b. tt) eight_rows else rows_of (λ b. b.cpu.mid) (sequence_rows ++ place_rows)

-- the table of a version: all fields of a board, in order
abbrev pub table : ℕ → List (Row BoardValue)
table version = front_rows version ++ middle_rows (version == 1) ++ back_rows

-- the greatest clock: a board stands up to 16 clocks later than inside a sequence
abbrev pub last_clock : ℕ → ℕ → ℕ
last_clock version sequence =
    if version == 1 then CLOCK_LIMIT + 16 else (if sequence == 0 then CLOCK_LIMIT + 16 else CLOCK_LIMIT)

-- what the ranges of a file of this version go by: bytes 19, 30 and 45
abbrev pub facts_of : ℕ → List ℕ → Facts
facts_of version file = record {
  last = last_clock version (slice_index file 30);
  jammed = slice_index file 19 == 1;
  idle = slice_index file 30 == 0;
  drawing = slice_index file 45 == DRAW;
}

-- the sequence that a number from 1 to 3 represents
abbrev pub sequence_of : ℕ → Sequence
sequence_of n = if n == 1 then Opcode else (if n == 2 then Interrupt else Reset)

-- the place that a file states, in bytes 30 to 37
abbrev pub middle_at : List ℕ → MidValue
middle_at file = record { sequence = sequence_of (slice_index file 30); count = slice_index file 31; bytes = take 6 (drop 32 file) }

-- the processor that a file states
abbrev pub processor_of : List ℕ → CpuValue
processor_of file = record {
  pc = from_le_bytes w16 (take 2 (drop 12 file));
  a = slice_index file 14;
  x = slice_index file 15;
  y = slice_index file 16;
  s = slice_index file 17;
  p = slice_index file 18;
  jam = if slice_index file 19 == 1 then Some (slice_index file 20) else None;
  mid = Some (middle_at file);
}

-- the bytes of each field of a board, in a version
abbrev pub board_pieces : ℕ → BoardValue → List (List ℕ)
board_pieces version b = pieces_of (table version) b

-- the bytes of a board, in version 2
abbrev pub state_bytes : BoardValue → List ℕ
state_bytes b = concat (board_pieces 2 b)

-- and in version 1, of a board whose processor stands inside no sequence
abbrev pub first_state_bytes : BoardValue → List ℕ
first_state_bytes b = concat (board_pieces 1 b)
