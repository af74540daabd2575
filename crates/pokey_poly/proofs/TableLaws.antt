-- What tables show: the registers of 4, 5 and 9 bits are back at each of their values after 15, 31 and
-- 511 shifts; and the bits that leave the two short ones.
use Rattle.std.proofs.Common.{◌≡◌, ℕ, ◌+◌, ◌*◌, ◌/◌, ◌%◌, ◌^◌, ◌<◌, zero, suc, refl, arith, sym, ap, ◌∙◌, ◌≤◌, get_or}
use Rattle.std.proofs.Math.Nat.{suc-mul}
use Rattle.std.specs.Int.{bit_at}
use Rattle.bit_words.proofs.Tables.{same_by_table, same_by_tables}
use Rattle.board_base.specs.Ticks.{ticks, times}
use Rattle.board_base.proofs.TickLaws.{times-add, times-zero}
use Rattle.pokey_poly.specs.declared.poly.Poly.TheVariants.{Four, Five, Nine}
use Rattle.pokey_poly.specs.declared.poly.TheConstants.{FIVE_ON, FOUR_ON}
use Rattle.pokey_poly.specs.Shift.{moved, shifted, IsAhead}
use Rattle.pokey_poly.proofs.LeapLaws.{after-lt}
use Rattle.pokey_poly.proofs.Moves.{incoming-sum, moved-sum}

-- a shift as a sum, by the register's top bit and tap
unfoldable pub sum : ℕ → ℕ → ℕ → ℕ
sum top tap r = r / 2 + (r / 2 ^ tap % 2 + r / 1 % 2) % 2 * 2 ^ top

pub sum-times : (top tap n r : ℕ) → r < 2 ^ (top + 1) → times (moved (top + 1) tap) n r ≡ times (sum top tap) n r
unfolding ticks sum
sum-times top tap zero r small = refl
sum-times top tap (suc n) r small =
    let now : ℕ = times (moved (top + 1) tap) n r in
    moved-sum top tap now (after-lt top tap r small n)
    ∙ ap (λ (d : ℕ). now / 2 + d * 2 ^ top) (incoming-sum tap now)
    ∙ ap (sum top tap) (sum-times top tap n r small)

-- so many times over
turns : (tick : ℕ → ℕ) (period k r : ℕ) → times tick period r ≡ r → times tick (k * period) r ≡ r
turns tick period zero r back =
    let none : 0 * period ≡ 0 = omega arith in
    ap (λ (n : ℕ). times tick n r) none ∙ times-zero tick r
turns tick period (suc k) r back =
    ap (λ (n : ℕ). times tick n r) (suc-mul k period)
    ∙ times-add tick (k * period) period r
    ∙ ap (times tick period) (turns tick period k r back)
    ∙ back

wraps : (top tap period k rest n r : ℕ) → r < 2 ^ (top + 1) → times (sum top tap) period r ≡ r → n ≡ k * period + rest
    → times (moved (top + 1) tap) rest r ≡ times (moved (top + 1) tap) n r
wraps top tap period k rest n r small back split =
    let tick : ℕ → ℕ = moved (top + 1) tap in
    sym (ap (λ (m : ℕ). times tick m r) split
    ∙ times-add tick (k * period) rest r
    ∙ ap (times tick rest) (turns tick period k r (sum-times top tap period r small ∙ back)))

four-turns : (r : ℕ) → r < 16 → times (sum 3 1) 15 r ≡ r
unfolding ticks sum
four-turns = same_by_table 16 (λ r. times (sum 3 1) 15 r) (λ r. r) refl

five-turns : (r : ℕ) → r < 32 → times (sum 4 2) 31 r ≡ r
unfolding ticks sum
five-turns = same_by_table 32 (λ r. times (sum 4 2) 31 r) (λ r. r) refl

nine-turns : (r : ℕ) → r < 512 → times (sum 8 4) 511 r ≡ r
unfolding ticks sum
nine-turns = same_by_table 512 (λ r. times (sum 8 4) 511 r) (λ r. r) refl

pub four-wraps : (n r : ℕ) → r < 16 → times (shifted Four) (n % 15) r ≡ times (shifted Four) n r
unfolding shifted
four-wraps n r small = wraps 3 1 15 (n / 15) (n % 15) n r small (four-turns r small) (omega arith)

pub five-wraps : (n r : ℕ) → r < 32 → times (shifted Five) (n % 31) r ≡ times (shifted Five) n r
unfolding shifted
five-wraps n r small = wraps 4 2 31 (n / 31) (n % 31) n r small (five-turns r small) (omega arith)

pub nine-wraps : (n r : ℕ) → r < 512 → times (shifted Nine) (n % 511) r ≡ times (shifted Nine) n r
unfolding shifted
nine-wraps n r small = wraps 8 4 511 (n / 511) (n % 511) n r small (nine-turns r small) (omega arith)

pub ruleset periods = nine-wraps

four-table : (j : ℕ) → j < 64 → (r : ℕ) → r < 16 → bit_at (get_or FOUR_ON r 0) j ≡ bit_at (times (sum 3 1) j r) 0
unfolding ticks sum
four-table = same_by_tables 64 16 (λ j r. bit_at (get_or FOUR_ON r 0) j) (λ j r. bit_at (times (sum 3 1) j r) 0) refl

five-table : (j : ℕ) → j < 64 → (r : ℕ) → r < 32 → bit_at (get_or FIVE_ON r 0) j ≡ bit_at (times (sum 4 2) j r) 0
unfolding ticks sum
five-table = same_by_tables 64 32 (λ j r. bit_at (get_or FIVE_ON r 0) j) (λ j r. bit_at (times (sum 4 2) j r) 0) refl

-- an entry is what leaves the register
pub four-ahead : (r known : ℕ) → r < 2 ^ 4 → known ≤ 64 → IsAhead Four r known (get_or FOUR_ON r 0)
unfolding shifted
four-ahead r known small few = record { bit = λ j below. four-table j (omega arith) r small ∙ ap (λ (n : ℕ). bit_at n 0) (sym (sum-times 3 1 j r small)) }

pub five-ahead : (r known : ℕ) → r < 2 ^ 5 → known ≤ 64 → IsAhead Five r known (get_or FIVE_ON r 0)
unfolding shifted
five-ahead r known small few = record { bit = λ j below. five-table j (omega arith) r small ∙ ap (λ (n : ℕ). bit_at n 0) (sym (sum-times 4 2 j r small)) }

pub ruleset tables = (four-ahead, five-ahead)
