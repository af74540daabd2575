-- The generator stays in its range.
use Rattle.std.proofs.Common.{◌≡◌, ◌≢◌, ◌≤◌, ℕ, ◌+◌, ◌-◌, ◌*◌, ◌%◌, ◌^◌, ◌<◌, ◌==◌, max, Bool, true, false, List}
use Rattle.std.proofs.Common.{rules, nat_lt, slice_set, replicate, All, ℤ, pos, ◌+ℤ◌, ◌-ℤ◌, unsigned_abs, refl, ◌∙◌, arith}
use Rattle.std.proofs.lemmas.Bool.{cond_both, eqb-false, eqb-true}
use Rattle.std.proofs.lemmas.Bool.Decides.{nat_tests}
use Rattle.std.proofs.lemmas.Grind.{common_steps}
use Rattle.std.proofs.lemmas.Int.{ints}
use Rattle.std.proofs.lemmas.List.{length-set}
use Rattle.std.proofs.lemmas.List.Elements.{All-set, All-from_recursion, All-get_or, All-replicate}
use Rattle.avg_decode.specs.declared.word.VgWord.{VgWord}
use Rattle.avg_decode.specs.declared.word.VgWord.TheVariants.{Vctr, Halt, Svec, Stat, Scal, Cntr, Jsrl, Rtsl, Jmpl}
use Rattle.avg_decode.specs.Bits.{field, signed}
use Rattle.avg_decode.specs.Word.{IsLong, second_of, setting_of, short_distance, word_of, words_of}
use Rattle.avg_draw.specs.Beam.{clocks_of, delta_of, held}
use Rattle.avg_draw.proofs.Scales.{delta_high, delta_low, digits_few, power_bound, scale_bound}
use Rattle.board_base.specs.declared.phase.TheConstants.{LOW_BYTE, HIGH_BYTE, SECOND_LOW, SECOND_HIGH, EXECUTE, DRAW}
use Rattle.avg_device.specs.Tick.{started, drawn, ended, executed, high_read, low_read, word_executed}
use Rattle.avg_device.specs.Tick.{pen_of, phase_done, second_high_read, second_low_read, vg_go, vg_reset, vg_tick, word_at}
use Rattle.board_base.specs.Ranges.{IsWithin}
use Rattle.board_base.specs.Vg.{VgValue}
use Rattle.cpu_core.specs.Ranges.{IsByte}
use Rattle.lockstep_board.specs.Ranges.{AreBytes, IsVgInRange}
use Rattle.lockstep_board.proofs.DeviceRange.{byte_at, set_bytes}

-- what a word may say of its fields
abbrev IsWord : VgWord → Type 0
IsWord (Vctr dy) = IsLong dy
IsWord (Svec dx dy z) = IsLong dx × IsLong dy × (z < 8)
IsWord (Stat colour intensity) = (colour < 8) × (intensity < 16)
IsWord (Scal bin lin) = (bin < 8) × (lin < 256)
IsWord (Jsrl to) = to < 8192
IsWord (Jmpl to) = to < 8192
IsWord _ = Unit {0}

signed_long : (n : ℕ) → n < 8192 → IsLong (signed 4096 n)
signed_long n h =
    cond_both (nat_lt n 4096) (pos n) (pos n -ℤ pos (2 * 4096)) IsLong (λ e. let low : n < 4096 = grind (arith, nat_tests) in record { above = omega (arith, ints); below = omega (arith, ints) })
    (λ e. let high : 4096 ≤ n = grind (arith, nat_tests) in record { above = omega (arith, ints); below = omega (arith, ints) })

short_long : (n : ℕ) → n < 32 → IsLong (short_distance n)
short_long n h =
    cond_both (nat_lt n 16) (pos n) (pos n -ℤ pos (2 * 16)) (λ d. IsLong (d +ℤ d))
    (λ e. let low : n < 16 = grind (arith, nat_tests) in record { above = omega (arith, ints); below = omega (arith, ints) })
    (λ e. let high : 16 ≤ n = grind (arith, nat_tests) in record { above = omega (arith, ints); below = omega (arith, ints) })

word_in : (w : ℕ) → IsWord (word_of w)
unfolding word_of
word_in w =
    let x = short_long (field w 0 5) (omega arith) in let y = short_long (field w 8 5) (omega arith) in
    let setting : IsWord (setting_of w) = cond_both (field w 12 1 == 0) (Stat (field w 0 3) (field w 4 4)) (Scal (field w 8 3) (field w 0 8)) IsWord
    (λ _. (omega arith, omega arith)) (λ _. (omega arith, omega arith)) in
    All-get_or IsWord (words_of w) (field w 13 3) Halt (omega arith) (All-from_recursion IsWord (words_of w)
    (signed_long (field w 0 13) (omega arith), (tt, ((x, y, omega arith), (setting, (tt, (omega arith, (tt, (omega arith, tt)))))))))

held_in : (z : ℤ) → IsWithin (2 ^ 30) (held z)
unfolding held
held_in z = record { above = grind (arith, common_steps); below = grind (arith, common_steps) }

delta_in : (d : ℤ) (lin bin : ℕ) → IsLong d → IsWithin (2 ^ 27) (delta_of d lin bin)
unfolding delta_of
delta_in d lin bin h = record { above = delta_low d _ h.above h.below (scale_bound lin bin); below = delta_high d _ h.above h.below (scale_bound lin bin) }

zero_within : (n : ℕ) → IsWithin n (pos 0)
zero_within n = record { above = omega (arith, ints); below = omega (arith, ints) }

length_of : (d : ℤ) → IsLong d → unsigned_abs d ≤ 4096
length_of d h = let low = h.above in let high = h.below in omega (arith, ints)

clocks_in : (dx dy : ℤ) (bin : ℕ) → IsLong dx → IsLong dy → (1 ≤ clocks_of dx dy bin) × (clocks_of dx dy bin ≤ 8192)
unfolding clocks_of
clocks_in dx dy bin h k =
    let x = length_of dx h in let y = length_of dy k in let digits = digits_few (max (unsigned_abs dx) (unsigned_abs dy)) (omega arith) in (omega arith, omega (arith, power_bound _ digits))

pen_in : (z intensity : ℕ) → z < 8 → intensity < 16 → pen_of z intensity < 16
pen_in z intensity h k = grind (arith, nat_tests)

-- the phase, and the clocks that are left of a vector
record IsPhase (now clocks : ℕ) : Type 0 where
  known : now ≤ DRAW
  drawing : now ≡ DRAW → 1 ≤ clocks
  longest : clocks ≤ 8192
  resting : now ≢ DRAW → clocks ≡ 0

idle_in : (now clocks : ℕ) → now < 5 → clocks ≡ 0 → IsPhase now clocks
idle_in now clocks small none = record { known = omega arith; drawing = λ e. absurd (omega arith); longest = omega arith; resting = λ _. none }

drawing_in : (clocks : ℕ) → 1 ≤ clocks → clocks ≤ 8192 → IsPhase DRAW clocks
drawing_in clocks some most = record { known = omega arith; drawing = λ _. some; longest = most; resting = λ other. absurd (other refl) }

unread : AreBytes 4 (replicate 4 0)
unread = record { count = refl; each = All-replicate IsByte 4 0 (omega arith) }

-- Each step shows by a `let` what it changes, and `search` takes the rest of the range from h.
started_in : (dx dy : ℤ) (z : ℕ) (v : VgValue) → IsLong dx → IsLong dy → z < 8 → IsVgInRange v → IsVgInRange (started dx dy z v)
unfolding started
started_in dx dy z v wide high code h =
    let clocks = clocks_in dx dy v.bin wide high in let phase = drawing_in (clocks_of dx dy v.bin) clocks.0 clocks.1 in
    let pen = pen_in z v.intensity code h.device.intensity in let right = delta_in dx v.lin v.bin wide in let up = delta_in dy v.lin v.bin high in search rules

obeyed_in : (word : VgWord) (second : ℤ × ℕ) (v : VgValue) → IsWord word → IsLong second.0 → second.1 < 8 → IsVgInRange v → IsVgInRange (word_executed word second v)
unfolding word_executed
obeyed_in (Vctr dy) second v word far code h = started_in second.0 dy second.1 v far word code h
obeyed_in (Svec dx dy z) second v word far code h = started_in dx dy z v word.0 word.1 word.2 h
obeyed_in Cntr second v word far code h = let origin = zero_within (2 ^ 30) in search rules
obeyed_in (Jsrl to) second v word far code h =
    let sp : (v.sp + 1) % 4 < 4 = omega arith in let stack = length-set v.stack v.sp v.pc ∙ h.device.stack in
    let words = All-set (λ to. to < 8192) v.stack v.sp v.pc h.device.pc h.device.words in search rules
obeyed_in Rtsl second v word far code h =
    let four = h.device.stack in let sp : (v.sp + 3) % 4 < 4 = omega arith in let pc = All-get_or (λ to. to < 8192) v.stack ((v.sp + 3) % 4) 0 (omega arith) h.device.words in search rules
obeyed_in _ second v word far code h = search rules

executed_in : (v : VgValue) → IsVgInRange v → v.left ≡ 0 → IsVgInRange (executed v)
unfolding executed second_of
executed_in v h idle =
    let phase = idle_in LOW_BYTE v.left (omega arith) idle in let forgotten : IsVgInRange (record v { phase = LOW_BYTE; bytes = replicate 4 0 }) = let bytes = unread in search rules in
    obeyed_in (word_of (word_at v.bytes 0)) _ _ (word_in (word_at v.bytes 0)) (signed_long (field (word_at v.bytes 2) 0 13) (omega arith)) (omega arith) forgotten

-- byte k of the word is read, and another phase begins
read_in : (v : VgValue) (next at k byte : ℕ) → next < 5 → at < 8192 → IsByte byte → IsVgInRange v → v.left ≡ 0 → IsVgInRange (record v { phase = next; pc = at; bytes = slice_set v.bytes k byte })
read_in v next at k byte small few is h idle =
    let phase = idle_in next v.left small idle in let bytes = set_bytes 4 v.bytes k byte is (record { count = h.device.bytes; each = h.bytes }) in search rules

ended_in : (v : VgValue) → IsVgInRange v → IsVgInRange (ended v)
unfolding ended
ended_in v h = let phase = idle_in LOW_BYTE 0 (omega arith) refl in let still = zero_within (2 ^ 27) in let x = held_in (v.x +ℤ v.dx) in let y = held_in (v.y +ℤ v.dy) in search rules

drawn_in : (v : VgValue) → IsVgInRange v → v.phase ≡ DRAW → IsVgInRange (drawn v)
unfolding drawn
drawn_in v h drawing =
    let some = h.device.drawing drawing in let most = h.device.longest in cond_both (v.left == 1) (ended v) (record v { left = v.left - 1 }) IsVgInRange (λ _. ended_in v h)
    (λ more. let other = eqb-false v.left 1 more in let phase = rw (← drawing) at (drawing_in (v.left - 1) (omega arith) (omega arith)) in search rules)

phase_done_in : (memory : List ℕ) (v : VgValue) → All IsByte memory → IsVgInRange v → IsVgInRange (phase_done memory v)
unfolding phase_done low_read high_read second_low_read second_high_read
phase_done_in memory v m h =
    cond_both (v.phase == LOW_BYTE) _ _ IsVgInRange (λ e. read_in v _ v.pc 0 _ (omega arith) h.device.pc (byte_at memory (2 * v.pc) m) h (idle LOW_BYTE e (omega arith)))
    (λ na. cond_both (v.phase == HIGH_BYTE) _ _ IsVgInRange (λ e. read_in v _ _ 1 _ (grind (arith, nat_tests)) (omega arith) (byte_at memory (2 * v.pc + 1) m) h (idle HIGH_BYTE e (omega arith)))
    (λ nb. cond_both (v.phase == SECOND_LOW) _ _ IsVgInRange (λ e. read_in v _ v.pc 2 _ (omega arith) h.device.pc (byte_at memory (2 * v.pc) m) h (idle SECOND_LOW e (omega arith)))
    (λ nc. cond_both (v.phase == SECOND_HIGH) _ _ IsVgInRange (λ e. read_in v _ _ 3 _ (omega arith) (omega arith) (byte_at memory (2 * v.pc + 1) m) h (idle SECOND_HIGH e (omega arith)))
    (λ nd. cond_both (v.phase == EXECUTE) _ _ IsVgInRange (λ e. executed_in v h (idle EXECUTE e (omega arith))) (λ ne. let most = h.device.phase in drawn_in v h (grind (arith, nat_tests)))))))
  where
    -- outside the drawing phase no clock of a vector is left
    idle : (phase : ℕ) → (v.phase == phase) ≡ true → phase < 5 → v.left ≡ 0
    idle phase is small = let at = eqb-true v.phase phase is in h.device.resting (λ same. absurd (omega arith))

pub vg_tick-in_range : (memory : List ℕ) (clock : ℕ) (v : VgValue) → All IsByte memory → IsVgInRange v → IsVgInRange (vg_tick memory clock v)
unfolding vg_tick
vg_tick-in_range memory clock v m h = cond_both v.halted v (phase_done memory v) IsVgInRange (λ _. h) (λ _. phase_done_in memory v m h)

-- with no word and no vector under way
anew_in : (v : VgValue) (halts : Bool) (at top : ℕ) → at < 8192 → top < 4 → IsVgInRange v
    → IsVgInRange (record v { halted = halts; phase = LOW_BYTE; pc = at; sp = top; bytes = replicate 4 0; dx = pos 0; dy = pos 0; pen = 0; left = 0 })
anew_in v halts at top few small h = let phase = idle_in LOW_BYTE 0 (omega arith) refl in let still = zero_within (2 ^ 27) in let bytes = unread in search rules

pub vg_go-in_range : (v : VgValue) → IsVgInRange v → IsVgInRange (vg_go v)
unfolding vg_go
vg_go-in_range v h = anew_in v false 0 0 (omega arith) (omega arith) h

pub vg_reset-in_range : (v : VgValue) → IsVgInRange v → IsVgInRange (vg_reset v)
unfolding vg_reset
vg_reset-in_range v h = anew_in v true v.pc v.sp h.device.pc h.device.sp h
