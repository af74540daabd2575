-- The underflows that a move leaves out: those of a channel whose level doesn't depend on its tone
-- bit, before one that sets that bit whatever it was, or an even number of those that turn it over.
use Rattle.std.specs.Prelude.{◌≡◌, ℕ, ◌+◌, ◌*◌, ◌%◌, ◌<◌, ◌≤◌, ◌==◌, ◌⊎◌, Bool, true, false, ◌&&◌, ◌||◌, not}
use Rattle.bit_words.specs.Bits.{is_bit}
use Rattle.board_base.specs.Pokey.{PokeyValue}
use Rattle.board_base.specs.Ticks.{times}
use Rattle.pokey_poly.specs.declared.poly.Poly.TheVariants.{Five}
use Rattle.pokey_chip.specs.declared.channel.Channel.TheVariants.{First, Second, Third, Fourth}
use Rattle.pokey_chip.specs.declared.control.TheConstants.{HIGH_PASS_1, HIGH_PASS_2, NO_FIVE_BITS, PURE_TONE, VOLUME_ONLY}
use Rattle.pokey_chip.specs.declared.voice.Voice.{Voice}
use Rattle.pokey_chip.specs.declared.voice.Voices.{Voices}
use Rattle.pokey_chip.specs.Tick.{is_held, rolled}
use Rattle.pokey_chip.specs.Tones.{audc_of}

-- the level of a channel with this AUDC doesn't depend on its tone bit
abbrev pub is_silent : ℕ → Bool
is_silent audc = (audc % 16 == 0) || is_bit audc VOLUME_ONLY

-- an underflow of a channel of noise in a clock of a move sets its tone bit: the channel is free of
-- the 5-bit register, or that gives a 1
abbrev pub sets_tone : PokeyValue → Bool → ℕ → Bool
sets_tone p free at = free || is_bit (times (rolled (is_held p.skctl) Five) at p.poly5) 0

-- a later underflow of a channel up to the clock `reach`, in the clock `due`, sets its tone bit
pub record IsSetLater (p : PokeyValue) (free : Bool) (v : Voice) (reach due : ℕ) : Type 0 where
  pub more : ℕ
  pub steps : due ≡ v.due + more * v.step
  pub reached : due ≤ reach
  pub sets : sets_tone p free due ≡ true

-- a channel's underflow so many pairs of them later, up to the clock `reach`, comes in the clock
-- `due`
pub record IsPairsLater (v : Voice) (reach due : ℕ) : Type 0 where
  pub pairs : ℕ
  pub steps : due ≡ v.due + pairs * (2 * v.step)
  pub reached : due ≤ reach

-- an underflow of a channel with this AUDC that leaves its tone bit as all up to it would: for
-- noise one that sets the bit, for a pure tone without the 5-bit register one that is pairs later
abbrev pub IsSameLater : PokeyValue → ℕ → Voice → ℕ → ℕ → Type 0
IsSameLater p audc v reach due =
    ((is_bit audc PURE_TONE ≡ false) × IsSetLater p (is_bit audc NO_FIVE_BITS) v reach due)
    ⊎ ((is_bit audc PURE_TONE ≡ true) × ((is_bit audc NO_FIVE_BITS ≡ true) × IsPairsLater v reach due))

-- a channel begins at such an underflow: nothing that is heard depends on its tone bit or on what
-- it clocks
pub record IsLater (p : PokeyValue) (audc : ℕ) (heard : Bool) (reach : ℕ) (before after : Voice) : Type 0 where
  pub unheard : heard ≡ false
  pub silent : is_silent audc ≡ true
  pub begins : IsSameLater p audc before reach after.due

-- a channel that may have left underflows out
pub record IsSkipped (p : PokeyValue) (audc : ℕ) (heard : Bool) (reach : ℕ) (before after : Voice) : Type 0 where
  pub same : after ≡ record before { due = after.due }
  pub begins : (after.due ≡ before.due) ⊎ IsLater p audc heard reach before after

-- the clock of a channel's last underflow up to the clock `n`
pub record IsLast (v : Voice) (n at : ℕ) : Type 0 where
  pub more : ℕ
  pub steps : at ≡ v.due + more * v.step
  pub reached : at ≤ n
  pub last : (m : ℕ) → v.due + m * v.step ≤ n → v.due + m * v.step ≤ at

-- that clock, or `n` where there is none
abbrev pub IsLastWithin : Voice → ℕ → ℕ → Type 0
IsLastWithin v n at = ((n < v.due) × (at ≡ n)) ⊎ IsLast v n at

-- the four channels: channels 3 and 4 leave none out where the filter that they clock is heard;
-- channels 1 and 2 begin no later than the last underflow of the channel that clocks theirs
pub record AreSkipped (p : PokeyValue) (n : ℕ) (before after : Voices) : Type 0 where
  pub taken1 : ℕ
  pub taken2 : ℕ
  pub third_last : IsLastWithin before.third n taken1
  pub fourth_last : IsLastWithin before.fourth n taken2
  pub first : IsSkipped p (audc_of p First) false taken1 before.first after.first
  pub second : IsSkipped p (audc_of p Second) false taken2 before.second after.second
  pub third : IsSkipped p (audc_of p Third) (is_bit p.audctl HIGH_PASS_1 && not (is_silent (audc_of p First))) n before.third after.third
  pub fourth : IsSkipped p (audc_of p Fourth) (is_bit p.audctl HIGH_PASS_2 && not (is_silent (audc_of p Second))) n before.fourth after.fourth
