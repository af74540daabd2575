-- The vector generator, clock by clock: it reads a word, does what the word says, and draws. All of
-- it is this project's own choice.
use Rattle.std.specs.Prelude.{ℕ, ◌+◌, ◌-◌, ◌*◌, ◌%◌, ◌==◌, nat_lt, true, false, not, ◌&&◌, if◌then◌else◌, List, [], ◌∷◌, slice_index, slice_set, replicate, ℤ, pos, ◌+ℤ◌}
use Rattle.avg_decode.specs.declared.word.VgWord.{VgWord}
use Rattle.avg_decode.specs.declared.word.VgWord.TheVariants.{Vctr, Halt, Svec, Stat, Scal, Cntr, Jsrl, Rtsl, Jmpl}
use Rattle.avg_decode.specs.Word.{second_of, word_of}
use Rattle.avg_draw.specs.Beam.{clocks_of, delta_of, held}
use Rattle.board_base.specs.declared.record.Record.{Record}
use Rattle.board_base.specs.declared.record.Record.TheVariants.{Stroke}
use Rattle.board_base.specs.Vg.{VgValue}
use Rattle.board_base.specs.declared.phase.TheConstants.{LOW_BYTE, HIGH_BYTE, SECOND_LOW, SECOND_HIGH, EXECUTE, DRAW}

-- the low and the high byte of the word at a word address
abbrev pub low_byte : List ℕ → ℕ → ℕ
low_byte memory pc = slice_index memory (2 * pc)

abbrev pub high_byte : List ℕ → ℕ → ℕ
high_byte memory pc = slice_index memory (2 * pc + 1)

-- the word after one; the last is followed by the first
abbrev pub next_word : ℕ → ℕ
next_word pc = (pc + 1) % 8192

-- the low byte of a word is read
unfoldable pub low_read : List ℕ → VgValue → VgValue
low_read memory v = record v { phase = HIGH_BYTE; bytes = slice_set v.bytes 0 (low_byte memory v.pc) }

-- the phase after a high byte: below 32 it is that of a long vector, which has a second word
abbrev pub phase_after : ℕ → ℕ
phase_after high = if nat_lt high 32 then SECOND_LOW else EXECUTE

-- its high byte is read
unfoldable pub high_read : List ℕ → VgValue → VgValue
high_read memory v = record v {
  phase = phase_after (high_byte memory v.pc);
  pc = next_word v.pc;
  bytes = slice_set v.bytes 1 (high_byte memory v.pc);
}

-- the low byte of the second word is read
unfoldable pub second_low_read : List ℕ → VgValue → VgValue
second_low_read memory v = record v { phase = SECOND_HIGH; bytes = slice_set v.bytes 2 (low_byte memory v.pc) }

-- its high byte is read
unfoldable pub second_high_read : List ℕ → VgValue → VgValue
second_high_read memory v = record v {
  phase = EXECUTE;
  pc = next_word v.pc;
  bytes = slice_set v.bytes 3 (high_byte memory v.pc);
}

-- a word of two bytes, the low one first
abbrev pub word_at : List ℕ → ℕ → ℕ
word_at bytes k = slice_index bytes k + 256 * slice_index bytes (k + 1)

-- how bright a vector is: not drawn for 0, at the intensity that is set for 1, and else twice the
-- number
abbrev pub pen_of : ℕ → ℕ → ℕ
pen_of z intensity = if z == 0 then 0 else if z == 1 then intensity else 2 * z

-- a vector is about to be drawn
unfoldable pub started : ℤ → ℤ → ℕ → VgValue → VgValue
started dx dy z v = record v {
  phase = DRAW;
  dx = delta_of dx v.lin v.bin;
  dy = delta_of dy v.lin v.bin;
  left = clocks_of dx dy v.bin;
  pen = pen_of z v.intensity;
}

-- what a word does; a long vector takes its distance in x and its brightness from a second word
unfoldable pub word_executed : VgWord → ℤ × ℕ → VgValue → VgValue
word_executed (Vctr dy) second v = started second.0 dy second.1 v
word_executed Halt second v = record v { halted = true }
word_executed (Svec dx dy z) second v = started dx dy z v
word_executed (Stat colour intensity) second v = record v { colour = colour; intensity = intensity }
word_executed (Scal bin lin) second v = record v { bin = bin; lin = lin }
word_executed Cntr second v = record v { x = pos 0; y = pos 0 }
word_executed (Jsrl to) second v = record v { stack = slice_set v.stack v.sp v.pc; sp = (v.sp + 1) % 4; pc = to }
word_executed Rtsl second v = record v { sp = (v.sp + 3) % 4; pc = slice_index v.stack ((v.sp + 3) % 4) }
word_executed (Jmpl to) second v = record v { pc = to }

-- the word that was read is done, and its bytes are forgotten
unfoldable pub executed : VgValue → VgValue
executed v =
    word_executed (word_of (word_at v.bytes 0)) (second_of (word_at v.bytes 2)) (record v { phase = LOW_BYTE; bytes = replicate 4 0 })

-- the beam after a vector
abbrev pub beam_x : VgValue → ℤ
beam_x v = held (v.x +ℤ v.dx)

abbrev pub beam_y : VgValue → ℤ
beam_y v = held (v.y +ℤ v.dy)

-- the beam has moved, and the next word comes
unfoldable pub ended : VgValue → VgValue
ended v = record v { phase = LOW_BYTE; x = beam_x v; y = beam_y v; dx = pos 0; dy = pos 0; pen = 0; left = 0 }

-- one clock of a vector, which ends with the last of them
unfoldable pub drawn : VgValue → VgValue
drawn v = if v.left == 1 then ended v else record v { left = v.left - 1 }

-- the effect of each phase
unfoldable pub phase_done : List ℕ → VgValue → VgValue
phase_done memory v =
    if v.phase == LOW_BYTE then low_read memory v
    else if v.phase == HIGH_BYTE then high_read memory v
    else if v.phase == SECOND_LOW then second_low_read memory v
    else if v.phase == SECOND_HIGH then second_high_read memory v
    else if v.phase == EXECUTE then executed v
    else drawn v

-- one clock: nothing where the generator is halted, and else the effect of its phase
unfoldable pub vg_tick : List ℕ → ℕ → VgValue → VgValue
vg_tick memory clock v = if v.halted then v else phase_done memory v

-- the stroke of a vector that ends in this clock, from the beam before to the beam after
unfoldable pub stroke_at : ℕ → VgValue → Record
stroke_at clock v = Stroke clock v.x v.y (beam_x v) (beam_y v) v.colour v.pen

-- a vector that isn't drawn has none
unfoldable pub strokes_at : ℕ → VgValue → List Record
strokes_at clock v = if v.pen == 0 then [] else stroke_at clock v ∷ []

-- the records of one clock: the stroke of a vector in the last clock of its drawing
unfoldable pub vg_gives : ℕ → VgValue → List Record
vg_gives clock v = if not v.halted && v.phase == DRAW && v.left == 1 then strokes_at clock v else []

-- the generator begins anew: at the first word, with an empty return stack and no vector under way;
-- the beam, the colour, the intensity, the scales and the words of the stack stay
unfoldable pub vg_go : VgValue → VgValue
vg_go v = record v {
  halted = false;
  phase = LOW_BYTE;
  pc = 0;
  sp = 0;
  bytes = replicate 4 0;
  dx = pos 0;
  dy = pos 0;
  pen = 0;
  left = 0;
}

-- the generator halts, with no word and no vector under way; all else stays
unfoldable pub vg_reset : VgValue → VgValue
vg_reset v = record v {
  halted = true;
  phase = LOW_BYTE;
  bytes = replicate 4 0;
  dx = pos 0;
  dy = pos 0;
  pen = 0;
  left = 0;
}
