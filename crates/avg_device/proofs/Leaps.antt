-- Many clocks at once are as many ticks.
use Rattle.std.proofs.Common.{◌≡◌, ℕ, zero, suc, ◌+◌, ◌-◌, ◌*◌, ◌/◌, ◌<◌, ◌≤◌, ◌==◌, Bool, true, false, List, [], ◌∷◌, length}
use Rattle.std.proofs.Common.{if◌then◌else◌, slice_index_or, slice_set, ℤ, pos, refl, ◌∙◌, inl, inr, add-zero, arith}
use Rattle.std.proofs.Math.Nat.{sub-zero}
use Rattle.std.proofs.lemmas.Bool.Decides.{eqb_tells, nat_tests}
use Rattle.avg_decode.specs.declared.word.VgWord.{VgWord}
use Rattle.avg_decode.specs.declared.word.VgWord.TheVariants.{Halt}
use Rattle.avg_decode.specs.Bits.{field}
use Rattle.avg_decode.specs.Word.{setting_of, word_of, words_of}
use Rattle.board_base.proofs.ExtendedLaws.{Extended-none}
use Rattle.board_base.proofs.TickLaws.{made-rest, ticks-rest}
use Rattle.board_base.specs.Ticks.{made, ticks}
use Rattle.board_base.specs.Vg.{VgValue}
use Rattle.board_base.specs.declared.phase.TheConstants.{LOW_BYTE, HIGH_BYTE, SECOND_LOW, SECOND_HIGH, EXECUTE, DRAW}
use Rattle.avg_device.specs.Leap.{drawn_for, long_done, memory_word, short_done, strokes_for}
use Rattle.avg_device.specs.Tick.{drawn, ended, executed, high_byte, high_read, low_byte, low_read, next_word, word_executed, phase_after}
use Rattle.avg_device.specs.Tick.{phase_done, second_high_read, second_low_read, stroke_at, strokes_at, vg_gives, vg_tick, word_at}

-- one tick
pub ticks_one : (m : List ℕ) (t : ℕ) (v : VgValue) → ticks (vg_tick m) t 1 v ≡ vg_tick m t v
unfolding ticks
ticks_one m t v = rw (add-zero t) refl

pub made_one : (m : List ℕ) (t : ℕ) (v : VgValue) → made (vg_tick m) vg_gives t 1 v ≡ vg_gives t v
unfolding made ticks
made_one m t v = rw (add-zero t) refl

-- a halt is still
tick_halted : (m : List ℕ) (t : ℕ) (v : VgValue) → v.halted ≡ true → vg_tick m t v ≡ v
unfolding vg_tick
tick_halted m t v h = rw h refl

gives_halted : (t : ℕ) (v : VgValue) → v.halted ≡ true → vg_gives t v ≡ []
unfolding vg_gives
gives_halted t v h = rw h refl

pub ticks_halted : (m : List ℕ) (t n : ℕ) (v : VgValue) → v.halted ≡ true → ticks (vg_tick m) t n v ≡ v
ticks_halted m t n v h = ticks-rest (vg_tick m) t n v (λ t. tick_halted m t v h)

pub made_halted : (m : List ℕ) (t n : ℕ) (v : VgValue) → v.halted ≡ true → made (vg_tick m) vg_gives t n v ≡ []
made_halted m t n v h = made-rest (vg_tick m) vg_gives t n v (λ t. tick_halted m t v h) (λ t. gives_halted t v h)

-- the effect of a clock, by its phase
low_tick : (m : List ℕ) (t : ℕ) (v : VgValue) → v.halted ≡ false → v.phase ≡ LOW_BYTE → vg_tick m t v ≡ low_read m v
unfolding vg_tick phase_done
low_tick m t v h p = rw (h, p) refl

high_tick : (m : List ℕ) (t : ℕ) (v : VgValue) → v.halted ≡ false → v.phase ≡ HIGH_BYTE → vg_tick m t v ≡ high_read m v
unfolding vg_tick phase_done
high_tick m t v h p = rw (h, p) refl

second_low_tick : (m : List ℕ) (t : ℕ) (v : VgValue) → v.halted ≡ false → v.phase ≡ SECOND_LOW → vg_tick m t v ≡ second_low_read m v
unfolding vg_tick phase_done
second_low_tick m t v h p = rw (h, p) refl

second_high_tick : (m : List ℕ) (t : ℕ) (v : VgValue) → v.halted ≡ false → v.phase ≡ SECOND_HIGH → vg_tick m t v ≡ second_high_read m v
unfolding vg_tick phase_done
second_high_tick m t v h p = rw (h, p) refl

execute_tick : (m : List ℕ) (t : ℕ) (v : VgValue) → v.halted ≡ false → v.phase ≡ EXECUTE → vg_tick m t v ≡ executed v
unfolding vg_tick phase_done
execute_tick m t v h p = rw (h, p) refl

draw_tick : (m : List ℕ) (t : ℕ) (v : VgValue) → v.halted ≡ false → v.phase ≡ DRAW → vg_tick m t v ≡ drawn v
unfolding vg_tick phase_done
draw_tick m t v h p = rw (h, p) refl

-- outside phase 5 there is no record
idle : (t : ℕ) (v : VgValue) → v.halted ≡ false → (v.phase == DRAW) ≡ false → vg_gives t v ≡ []
unfolding vg_gives
idle t v h p = rw (h, p) refl

-- the phase after the first word was read
short_next : (high : ℕ) → 32 ≤ high → phase_after high ≡ 4
short_next high h = grind (arith, nat_tests)

long_next : (high : ℕ) → high < 32 → phase_after high ≡ 2
long_next high h = grind (arith, nat_tests)

-- the states of a word that needs no second one, and no record
short_state : (m : List ℕ) (t : ℕ) (v : VgValue) → v.halted ≡ false → v.phase ≡ LOW_BYTE → 32 ≤ high_byte m v.pc
    → ticks (vg_tick m) t 3 v ≡ executed (high_read m (low_read m v))
unfolding ticks low_read high_read
short_state m t v h p high =
    rw (low_tick m (t + 0) v h p)
    (rw (high_tick m (t + 1) (low_read m v) h refl)
    (execute_tick m (t + 2) (high_read m (low_read m v)) h (short_next (high_byte m v.pc) high)))

pub short_made : (m : List ℕ) (t : ℕ) (v : VgValue) → v.halted ≡ false → v.phase ≡ LOW_BYTE → 32 ≤ high_byte m v.pc
    → made (vg_tick m) vg_gives t 3 v ≡ []
unfolding made ticks low_read high_read
short_made m t v h p high =
    rw (
      low_tick m (t + 0) v h p,
      high_tick m (t + 1) (low_read m v) h refl,
      idle (t + 0) v h (rw p refl),
      idle (t + 1) (low_read m v) h refl,
      idle (t + 2) (high_read m (low_read m v)) h (rw (short_next (high_byte m v.pc) high) refl),
    ) refl

-- the states of a word with its second one, and no record
long_state : (m : List ℕ) (t : ℕ) (v : VgValue) → v.halted ≡ false → v.phase ≡ LOW_BYTE → high_byte m v.pc < 32
    → ticks (vg_tick m) t 5 v ≡ executed (second_high_read m (second_low_read m (high_read m (low_read m v))))
unfolding ticks low_read high_read second_low_read second_high_read
long_state m t v h p high =
    rw (low_tick m (t + 0) v h p)
    (rw (high_tick m (t + 1) (low_read m v) h refl)
    (rw (second_low_tick m (t + 2) (high_read m (low_read m v)) h (long_next (high_byte m v.pc) high))
    (rw (second_high_tick m (t + 3) (second_low_read m (high_read m (low_read m v))) h refl)
    (execute_tick m (t + 4) (second_high_read m (second_low_read m (high_read m (low_read m v)))) h refl))))

pub long_made : (m : List ℕ) (t : ℕ) (v : VgValue) → v.halted ≡ false → v.phase ≡ LOW_BYTE → high_byte m v.pc < 32
    → made (vg_tick m) vg_gives t 5 v ≡ []
unfolding made ticks low_read high_read second_low_read second_high_read
long_made m t v h p high =
    let second = long_next (high_byte m v.pc) high in
    rw (
      low_tick m (t + 0) v h p,
      high_tick m (t + 1) (low_read m v) h refl,
      second_low_tick m (t + 2) (high_read m (low_read m v)) h second,
      second_high_tick m (t + 3) (second_low_read m (high_read m (low_read m v))) h refl,
      idle (t + 0) v h (rw p refl),
      idle (t + 1) (low_read m v) h refl,
      idle (t + 2) (high_read m (low_read m v)) h (rw second refl),
      idle (t + 3) (second_low_read m (high_read m (low_read m v))) h refl,
      idle (t + 4) (second_high_read m (second_low_read m (high_read m (low_read m v)))) h refl,
    ) refl

-- the words in the bytes that were read
first_word : (xs : List ℕ) (low high : ℕ) → length xs ≡ 4 → word_at (slice_set (slice_set xs 0 low) 1 high) 0 ≡ low + 256 * high
first_word (a ∷ b ∷ xs) low high four = refl
first_word (a ∷ []) low high four = absurd (omega arith)
first_word [] low high four = absurd (omega arith)

both_words : (xs : List ℕ) (low high low' high' : ℕ) → length xs ≡ 4
    → slice_set (slice_set (slice_set (slice_set xs 0 low) 1 high) 2 low') 3 high' ≡ low ∷ high ∷ low' ∷ high' ∷ []
both_words (a ∷ b ∷ c ∷ d ∷ []) low high low' high' four = refl
both_words (a ∷ b ∷ c ∷ d ∷ e ∷ xs) low high low' high' four = absurd (omega arith)
both_words (a ∷ b ∷ c ∷ []) low high low' high' four = absurd (omega arith)
both_words (a ∷ b ∷ []) low high low' high' four = absurd (omega arith)
both_words (a ∷ []) low high low' high' four = absurd (omega arith)
both_words [] low high low' high' four = absurd (omega arith)

-- words that don't look at a second one
abbrev IsAlone : VgWord → Type 0
IsAlone word = (s t : ℤ × ℕ) (v : VgValue) → word_executed word s v ≡ word_executed word t v

either_alone : (b : Bool) (x y : VgWord) → IsAlone x → IsAlone y → IsAlone (if b then x else y)
either_alone true x y one other = one
either_alone false x y one other = other

setting_alone : (w : ℕ) → IsAlone (setting_of w)
unfolding word_executed
setting_alone w = either_alone (field w 12 1 == 0) _ _ (λ s t v. refl) (λ s t v. refl)

-- of the eight words only the first looks at it
later_alone : (w k : ℕ) → IsAlone (slice_index_or (words_of w) (suc k) Halt)
unfolding word_executed
later_alone w zero s t v = refl
later_alone w (suc zero) s t v = refl
later_alone w (suc (suc zero)) s t v = setting_alone w s t v
later_alone w (suc (suc (suc zero))) s t v = refl
later_alone w (suc (suc (suc (suc zero)))) s t v = refl
later_alone w (suc (suc (suc (suc (suc zero))))) s t v = refl
later_alone w (suc (suc (suc (suc (suc (suc zero)))))) s t v = refl
later_alone w (suc (suc (suc (suc (suc (suc (suc k))))))) s t v = refl

word_alone : (w : ℕ) → 8192 ≤ w → w < 65536 → IsAlone (word_of w)
unfolding word_of
word_alone w least most s t v =
    let e : field w 13 3 ≡ suc (field w 13 3 - 1) = omega arith in
    rw e (later_alone w (field w 13 3 - 1) s t v)

-- a whole word in one step
pub short_ticks : (m : List ℕ) (t word : ℕ) (v : VgValue) → v.halted ≡ false → v.phase ≡ LOW_BYTE → length v.bytes ≡ 4
    → word ≡ memory_word m v.pc → word / 256 ≡ high_byte m v.pc → 8192 ≤ word → word < 65536
    → ticks (vg_tick m) t 3 v ≡ short_done word v
unfolding executed high_read low_read short_done
short_ticks m t word v h p four is high least most =
    let later : 32 ≤ high_byte m v.pc = omega arith in
    short_state m t v h p later
    ∙ rw (first_word v.bytes (low_byte m v.pc) (high_byte m v.pc) four, ← is, p) (word_alone word least most _ (pos 0, 0) _)

pub long_ticks : (m : List ℕ) (t word : ℕ) (v : VgValue) → v.halted ≡ false → v.phase ≡ LOW_BYTE → length v.bytes ≡ 4
    → word ≡ memory_word m v.pc → word / 256 ≡ high_byte m v.pc → word < 8192
    → ticks (vg_tick m) t 5 v ≡ long_done word (memory_word m (next_word v.pc)) v
unfolding executed high_read low_read second_high_read second_low_read long_done
long_ticks m t word v h p four is high most =
    let first : high_byte m v.pc < 32 = omega arith in
    long_state m t v h p first
    ∙ rw (both_words v.bytes _ _ _ _ four, is, p) refl

-- a draw with more clocks to come
more_left : (n left : ℕ) → suc n < left → (left - n == 1) ≡ false
more_left n left h = grind (arith, nat_tests)

one_less : (left n : ℕ) → left - n - 1 ≡ left - suc n
one_less left n = omega arith

drawing_tick : (m : List ℕ) (t n : ℕ) (v : VgValue) → v.halted ≡ false → v.phase ≡ DRAW → suc n < v.left
    → vg_tick m t (record v { left = v.left - n }) ≡ record v { left = v.left - suc n }
unfolding drawn
drawing_tick m t n v h p more =
    draw_tick m t (record v { left = v.left - n }) h p ∙ rw (more_left n v.left more, one_less v.left n) refl

drawing_gives : (t n : ℕ) (v : VgValue) → v.halted ≡ false → v.phase ≡ DRAW → suc n < v.left → vg_gives t (record v { left = v.left - n }) ≡ []
unfolding vg_gives
drawing_gives t n v h p more = rw (h, p, more_left n v.left more) refl

drawing : (m : List ℕ) (t n : ℕ) (v : VgValue) → v.halted ≡ false → v.phase ≡ DRAW → n < v.left
    → ticks (vg_tick m) t n v ≡ record v { left = v.left - n }
unfolding ticks
drawing m t zero v h p more = rw (sub-zero v.left) refl
drawing m t (suc n) v h p more =
    let less : n < v.left = omega arith in
    rw (drawing m t n v h p less) (drawing_tick m (t + n) n v h p more)

drawing_silent : (m : List ℕ) (t n : ℕ) (v : VgValue) → v.halted ≡ false → v.phase ≡ DRAW → n < v.left → made (vg_tick m) vg_gives t n v ≡ []
unfolding made
drawing_silent m t zero v h p more = refl
drawing_silent m t (suc n) v h p more =
    let less : n < v.left = omega arith in
    rw (drawing_silent m t n v h p less, drawing m t n v h p less, drawing_gives (t + n) n v h p more) refl

-- a draw to its end
last_left : (n left : ℕ) → suc n ≡ left → (left - n == 1) ≡ true
last_left n left h = grind (arith, nat_tests)

ending : (m : List ℕ) (t n : ℕ) (v : VgValue) → v.halted ≡ false → v.phase ≡ DRAW → suc n ≡ v.left → ticks (vg_tick m) t (suc n) v ≡ ended v
unfolding drawn ended ticks
ending m t n v h p all =
    let less : n < v.left = omega arith in
    rw (drawing m t n v h p less) (draw_tick m (t + n) (record v { left = v.left - n }) h p ∙ rw (last_left n v.left all) refl)

ending_stroke : (m : List ℕ) (t n : ℕ) (v : VgValue) → v.halted ≡ false → v.phase ≡ DRAW → suc n ≡ v.left
    → made (vg_tick m) vg_gives t (suc n) v ≡ strokes_at (t + n) v
unfolding made stroke_at strokes_at vg_gives
ending_stroke m t n v h p all =
    let less : n < v.left = omega arith in
    rw (drawing_silent m t n v h p less, drawing m t n v h p less, h, p, last_left n v.left all) refl

-- the clocks of a draw in one step
pub draw_ticks : (m : List ℕ) (t n : ℕ) (v : VgValue) → v.halted ≡ false → v.phase ≡ DRAW → 1 ≤ n → n ≤ v.left
    → ticks (vg_tick m) t n v ≡ drawn_for n v
unfolding drawn_for
draw_ticks m t zero v h p some few = absurd (omega arith)
draw_ticks m t (suc n) v h p some few =
    elim (eqb_tells (suc n) v.left) [
      | inl w ↦ rw w.0 (ending m t n v h p w.1)
      | inr w ↦ rw w.0 (drawing m t (suc n) v h p (omega (arith, w.1)))
    ]

pub draw_made : (m : List ℕ) (t n : ℕ) (v : VgValue) → v.halted ≡ false → v.phase ≡ DRAW → 1 ≤ n → n ≤ v.left
    → made (vg_tick m) vg_gives t n v ≡ strokes_for t n v
unfolding strokes_for
draw_made m t zero v h p some few = absurd (omega arith)
draw_made m t (suc n) v h p some few =
    elim (eqb_tells (suc n) v.left) [
      | inl w ↦ let last : suc n - 1 ≡ n = omega arith in rw (w.0, last) (ending_stroke m t n v h p w.1)
      | inr w ↦ rw w.0 (drawing_silent m t (suc n) v h p (omega (arith, w.1)))
    ]

-- a draw for all its clocks ends
pub drawn_whole : (n : ℕ) (v : VgValue) → n ≡ v.left → drawn_for n v ≡ ended v
unfolding drawn_for
drawn_whole n v all =
    elim (eqb_tells n v.left) [
      | inl w ↦ rw w.0 refl
      | inr w ↦ absurd (omega (arith, w.1, all))
    ]

-- for a step of many clocks
pub ruleset leaps = (ticks_one, made_one, ticks_halted, made_halted, draw_ticks, draw_made, Extended-none)

-- for a whole word
pub ruleset words = (ticks_one, made_one, short_ticks, long_ticks, short_made, long_made, Extended-none)
