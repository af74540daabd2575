-- The text of a board, which is this project's own: a line for the clock, the processor, its jam,
-- its place inside a sequence, the ports, and each device. HH below are hexadecimal digits, other
-- numbers are decimal, and truth values are 0 and 1.
use Rattle.std.specs.Prelude.{ℕ, ◌++◌, List, [], ◌∷◌, Option, Some, None, codes, decimal, map, take, slice_index}
use Rattle.std.specs.Fmt.{signed_decimal}
use Rattle.std.specs.Int.{from_bool}
use Rattle.std.specs.List.{concat}
use Rattle.board_base.specs.declared.cpu.Sequence.{Sequence}
use Rattle.board_base.specs.declared.cpu.Sequence.TheVariants.{Opcode, Interrupt, Reset}
use Rattle.board_base.specs.Board.{BoardValue}
use Rattle.board_base.specs.Cpu.{CpuValue}
use Rattle.board_base.specs.Mid.{MidValue}
use Rattle.board_base.specs.Divider.{DividerValue, reset_number}
use Rattle.board_base.specs.Earom.{EaromValue}
use Rattle.board_base.specs.Pokey.{PokeyValue}
use Rattle.board_base.specs.Vg.{VgValue}
use Rattle.text_line.specs.Words.{hex_byte, hex_word, line}
use Rattle.pokey_chip.specs.declared.registers.TheConstants.{RANDOM}
use Rattle.pokey_chip.specs.Registers.{register_read}

-- clock N
abbrev pub clock_text : BoardValue → List ℕ
clock_text b = line (codes "clock" ∷ decimal b.clock ∷ [])

-- cpu pc HHHH a HH x HH y HH s HH p HH
unfoldable pub cpu_text : CpuValue → List ℕ
cpu_text c =
    line (codes "cpu" ∷ codes "pc" ∷ hex_word c.pc ∷ codes "a" ∷ hex_byte c.a ∷ codes "x" ∷ hex_byte c.x ∷ codes "y" ∷ hex_byte c.y
    ∷ codes "s" ∷ hex_byte c.s ∷ codes "p" ∷ hex_byte c.p ∷ [])

-- jam HH, or jam - where it isn't jammed
abbrev pub jam_mark : Option ℕ → List ℕ
jam_mark None = codes "-"
jam_mark (Some opcode) = hex_byte opcode

unfoldable pub jam_text : CpuValue → List ℕ
jam_text c = line (codes "jam" ∷ jam_mark c.jam ∷ [])

abbrev pub sequence_name : Sequence → List ℕ
sequence_name Opcode = codes "opcode"
sequence_name Interrupt = codes "interrupt"
sequence_name Reset = codes "reset"

-- inside a sequence alone: mid, its name, and HH for each byte of its accesses so far
unfoldable pub mid_text : MidValue → List ℕ
mid_text m = line (codes "mid" ∷ sequence_name m.sequence ∷ map hex_byte (take m.count m.bytes))

abbrev pub mid_lines : Option MidValue → List (List ℕ)
mid_lines None = []
mid_lines (Some m) = mid_text m ∷ []

-- board out HH in0 HH in3 HH in4 HH
unfoldable pub ports_text : BoardValue → List ℕ
ports_text b =
    line (codes "board" ∷ codes "out" ∷ hex_byte b.out ∷ codes "in0" ∷ hex_byte b.in0 ∷ codes "in3" ∷ hex_byte b.in3 ∷ codes "in4" ∷ hex_byte b.in4 ∷ [])

-- div phase N irq B dog N reset N
unfoldable pub divider_text : DividerValue → List ℕ
divider_text d =
    line (codes "div" ∷ codes "phase" ∷ decimal d.phase ∷ codes "irq" ∷ decimal (from_bool d.irq) ∷ codes "dog" ∷ decimal d.dog
    ∷ codes "reset" ∷ decimal (reset_number d.pending) ∷ [])

-- vg halted B phase N pc HHHH sp N colour N intensity N lin N bin N; pc is a word's address
unfoldable pub vg_text : VgValue → List ℕ
vg_text v =
    line (codes "vg" ∷ codes "halted" ∷ decimal (from_bool v.halted) ∷ codes "phase" ∷ decimal v.phase ∷ codes "pc" ∷ hex_word v.pc
    ∷ codes "sp" ∷ decimal v.sp ∷ codes "colour" ∷ decimal v.colour ∷ codes "intensity" ∷ decimal v.intensity ∷ codes "lin" ∷ decimal v.lin
    ∷ codes "bin" ∷ decimal v.bin ∷ [])

-- beam X Y
unfoldable pub beam_text : VgValue → List ℕ
beam_text v = line (codes "beam" ∷ signed_decimal v.x ∷ signed_decimal v.y ∷ [])

-- pk1 or pk2, audf HH HH HH HH audc HH HH HH HH audctl HH skctl HH irqen N irqst N random HH; the
-- last is what register A, RANDOM, reads
unfoldable pub pokey_text : List ℕ → PokeyValue → List ℕ
pokey_text name p =
    line (name ∷ codes "audf" ∷ hex_byte (slice_index p.audf 0) ∷ hex_byte (slice_index p.audf 1) ∷ hex_byte (slice_index p.audf 2) ∷ hex_byte (slice_index p.audf 3)
    ∷ codes "audc" ∷ hex_byte (slice_index p.audc 0) ∷ hex_byte (slice_index p.audc 1) ∷ hex_byte (slice_index p.audc 2) ∷ hex_byte (slice_index p.audc 3)
    ∷ codes "audctl" ∷ hex_byte p.audctl ∷ codes "skctl" ∷ hex_byte p.skctl ∷ codes "irqen" ∷ decimal p.irqen ∷ codes "irqst" ∷ decimal p.irqst
    ∷ codes "random" ∷ hex_byte (register_read RANDOM p) ∷ [])

-- earom addr HH control HH hold N out HH
unfoldable pub earom_text : EaromValue → List ℕ
earom_text e =
    line (codes "earom" ∷ codes "addr" ∷ hex_byte e.addr ∷ codes "control" ∷ hex_byte e.control ∷ codes "hold" ∷ decimal e.hold ∷ codes "out" ∷ hex_byte e.out ∷ [])

-- the clock and the registers
unfoldable pub registers_text : BoardValue → List ℕ
registers_text b = concat (clock_text b ∷ cpu_text b.cpu ∷ [])

-- where the processor stands
unfoldable pub place_text : CpuValue → List ℕ
place_text c = concat (jam_text c ∷ mid_lines c.mid)

-- the ports and the devices
unfoldable pub devices_text : BoardValue → List ℕ
devices_text b =
    concat (ports_text b ∷ divider_text b.divider ∷ vg_text b.vg ∷ beam_text b.vg ∷ pokey_text (codes "pk1") b.sound1
    ∷ pokey_text (codes "pk2") b.sound2 ∷ earom_text b.earom ∷ [])

-- the whole text
unfoldable pub board_text : BoardValue → List ℕ
board_text b = registers_text b ++ (place_text b.cpu ++ devices_text b)
