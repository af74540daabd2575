-- Watched bytes, and the generator's halt, between boards.
use Rattle.std.proofs.Common.{◌≡◌, ℕ, ◌==◌, Bool, true, false, cond, not, ◌&&◌, find, map, List, [], ◌∷◌, Some, None, refl, arith}
use Rattle.std.specs.List.{list_any}
use Rattle.std.specs.Option.{option_map}
use Rattle.std.proofs.lemmas.Bool.{or_parts}
use Rattle.std.proofs.lemmas.Bool.Decides.{nat_tests}
use Rattle.lockstep_board.specs.Lockstep.{Board}
use Rattle.catchup_engine.specs.StopConditions.{has_changed, is_other}
use Rattle.debug_script.specs.Breakpoints.{StopsValue}
use Rattle.board_debug.specs.declared.stop_reason.StopReason.TheVariants.{Vg, Watch}
use Rattle.board_debug.specs.Looks.{vg_look, watch_look, watched, watched_byte}

-- the first byte that has changed is that of the first address whose byte has
pub watch-is : (before b : Board) (watches : List ℕ)
    → option_map (λ byte. Watch byte.address) (find (has_changed b.peripherals) (map (watched before) watches)) ≡ watch_look watches before b
watch-is before b [] = refl
watch-is before b (x ∷ xs) = by_test (not (watched_byte b x == watched_byte before x)) (watch-is before b xs)
  where
    by_test : (changed : Bool) → option_map (λ byte. Watch byte.address) (find (has_changed b.peripherals) (map (watched before) xs)) ≡ watch_look xs before b
        → option_map (λ byte. Watch byte.address) (cond changed (Some (watched before x)) (find (has_changed b.peripherals) (map (watched before) xs)))
        ≡ option_map Watch (cond changed (Some x) (find (λ address. not (watched_byte b address == watched_byte before address)) xs))
    by_test true rest = refl
    by_test false rest = rest

equal : (m n : ℕ) → not (m == n) ≡ false → m ≡ n
equal m n e = grind (arith, nat_tests)

unequal : (n : ℕ) → not (n == n) ≡ false
unequal n = grind (arith, nat_tests)

-- none of the bytes watched from a board has changed, nor has what is asked of the generator
pub record IsSame (stops : StopsValue) (b d : Board) : Type 0 where
  pub bytes : list_any (has_changed d.peripherals) (map (watched b) stops.watches) ≡ false
  pub halted : is_other (cond stops.vg (Some b.peripherals.vg.halted) None) d.peripherals.vg.halted ≡ false

unchanged : (b : Board) (watches : List ℕ) → list_any (has_changed b.peripherals) (map (watched b) watches) ≡ false
unchanged b [] = refl
unchanged b (x ∷ xs) = rw (unequal (watched_byte b x)) (unchanged b xs)

is-itself : (asked halted : Bool) → is_other (cond asked (Some halted) None) halted ≡ false
is-itself false halted = refl
is-itself true true = refl
is-itself true false = refl

pub same-self : (stops : StopsValue) (b : Board) → IsSame stops b b
same-self stops b = record { bytes = unchanged b stops.watches; halted = is-itself stops.vg b.peripherals.vg.halted }

-- a look that compares with such a board compares with the first
watch-same : (b d c : Board) (watches : List ℕ) → list_any (has_changed d.peripherals) (map (watched b) watches) ≡ false → watch_look watches d c ≡ watch_look watches b c
watch-same b d c [] e = refl
watch-same b d c (x ∷ xs) e =
    let both = or_parts (has_changed d.peripherals (watched b x)) (list_any (has_changed d.peripherals) (map (watched b) xs)) e in
    rw (equal (watched_byte d x) (watched_byte b x) both.0) (by_test (not (watched_byte c x == watched_byte b x)) (watch-same b d c xs both.1))
  where
    by_test : (changed : Bool) → watch_look xs d c ≡ watch_look xs b c
        → option_map Watch (cond changed (Some x) (find (λ address. not (watched_byte c address == watched_byte d address)) xs))
        ≡ option_map Watch (cond changed (Some x) (find (λ address. not (watched_byte c address == watched_byte b address)) xs))
    by_test true rest = refl
    by_test false rest = rest

vg-same : (asked before then now : Bool) → is_other (cond asked (Some before) None) then ≡ false
    → cond (asked && (now && not then)) (Some Vg) None ≡ cond (asked && (now && not before)) (Some Vg) None
vg-same false before then now e = refl
vg-same true true true now e = refl
vg-same true true false now e = cc
vg-same true false true now e = cc
vg-same true false false now e = refl

-- and finds nothing at such a board
watch-none : (b d : Board) (watches : List ℕ) → list_any (has_changed d.peripherals) (map (watched b) watches) ≡ false → watch_look watches b d ≡ None
watch-none b d [] e = refl
watch-none b d (x ∷ xs) e =
    let both = or_parts (has_changed d.peripherals (watched b x)) (list_any (has_changed d.peripherals) (map (watched b) xs)) e in
    rw both.0 (watch-none b d xs both.1)

vg-none : (asked before now : Bool) → is_other (cond asked (Some before) None) now ≡ false → cond (asked && (now && not before)) (Some Vg) None ≡ None
vg-none false before now e = refl
vg-none true true true e = refl
vg-none true true false e = cc
vg-none true false true e = cc
vg-none true false false e = refl

module _ (stops : StopsValue) (b d : Board) (same : IsSame stops b d) where
  pub watches-same : (c : Board) → watch_look stops.watches d c ≡ watch_look stops.watches b c
  watches-same c = watch-same b d c stops.watches same.bytes

  pub halts-same : (c : Board) → vg_look stops.vg d c ≡ vg_look stops.vg b c
  halts-same c = vg-same stops.vg b.peripherals.vg.halted d.peripherals.vg.halted c.peripherals.vg.halted same.halted

  pub watches-none : watch_look stops.watches b d ≡ None
  watches-none = watch-none b d stops.watches same.bytes

  pub halts-none : vg_look stops.vg b d ≡ None
  halts-none = vg-none stops.vg b.peripherals.vg.halted d.peripherals.vg.halted same.halted
