-- The records of clocks one after another.
use Rattle.std.proofs.Common.{◌≡◌, ℕ, ◌+◌, ◌-◌, ◌≤◌, refl, List, [], ◌++◌, length, ap, ◌∙◌, arith}
use Rattle.std.proofs.lemmas.Cmp.{nat_list_eq_equiv}
use Rattle.board_base.proofs.ExtendedLaws.{Extended-none, Extended-more}
use Rattle.board_base.proofs.TickLaws.{made-more, made-next, made-zero, length-made, ticks-times}
use Rattle.board_base.proofs.RecordLaws.{made-ticks}
use Rattle.board_base.specs.declared.part.Part.TheVariants.{Pokey1, Pokey2}
use Rattle.board_base.specs.Records.{MadeBetween}
use Rattle.board_base.specs.Pokey.{PokeyValue}
use Rattle.board_base.specs.Ticks.{times}
use Rattle.board_base.specs.Trail.{TrailValue, Extended}
use Rattle.pokey_chip.specs.Tick.{change, levels_made, pokey_gives, pokey_tick}

pub ruleset unchanged = Extended-none

-- levels that stay give no record
pub change-none : (clock : ℕ) (before now : List ℕ) → before ≡ now → change clock before now ≡ []
unfolding change
change-none clock before now e = rw (e, nat_list_eq_equiv.refl now) refl

pub quiet-trail : (t : TrailValue) (clock : ℕ) (before now : List ℕ) → before ≡ now → Extended t t (change clock before now)
quiet-trail t clock before now e = rw (change-none clock before now e) (Extended-none t)

pub ruleset quiet = quiet-trail

-- one clock more
pub levels-more : (from n : ℕ) (p : PokeyValue)
    → levels_made from (n + 1) p ≡ levels_made from n p ++ pokey_gives (from + n) (times pokey_tick n p)
levels-more from n p =
    made-more (λ _. pokey_tick) pokey_gives from n p
    ∙ ap (λ q. levels_made from n p ++ pokey_gives (from + n) q) (ticks-times pokey_tick from n p)

-- a trail after one clock more
pub extended-more : {a b c : TrailValue} (from n : ℕ) (p : PokeyValue) → Extended a b (levels_made from n p)
    → Extended b c (pokey_gives (from + n) (times pokey_tick n p)) → Extended a c (levels_made from (n + 1) p)
extended-more {a} {b} {c} from n p first next = rw (levels-more from n p) (Extended-more first next)

pub levels-zero : (from : ℕ) (p : PokeyValue) → levels_made from 0 p ≡ []
levels-zero from p = made-zero (λ _. pokey_tick) pokey_gives from p

-- before the first clock
pub started-records : (from : ℕ) (p : PokeyValue) (t : TrailValue) → Extended t t (levels_made from 0 p)
started-records from p t = rw (levels-zero from p) (Extended-none t)

pub gives-one : (clock : ℕ) (p : PokeyValue) → length (pokey_gives clock p) ≤ 1
unfolding pokey_gives change
gives-one clock p = grind arith

-- n clocks give n records at most
pub length-levels : (from n : ℕ) (p : PokeyValue) → length (levels_made from n p) ≤ n
length-levels from n p = length-made (λ _. pokey_tick) pokey_gives from n p gives-one

-- a POKEY's records are levels of their clocks, whichever of the two it is
pub gives-made1 : (clock : ℕ) (p : PokeyValue) → MadeBetween Pokey1 clock (pokey_gives clock p) (clock + 1)
unfolding pokey_gives change
gives-made1 clock p = grind arith

pub gives-made2 : (clock : ℕ) (p : PokeyValue) → MadeBetween Pokey2 clock (pokey_gives clock p) (clock + 1)
unfolding pokey_gives change
gives-made2 clock p = grind arith

pub levels-between1 : (from n : ℕ) (p : PokeyValue) → MadeBetween Pokey1 from (levels_made from n p) (from + n)
levels-between1 = made-ticks Pokey1 (λ _. pokey_tick) pokey_gives gives-made1

pub levels-between2 : (from n : ℕ) (p : PokeyValue) → MadeBetween Pokey2 from (levels_made from n p) (from + n)
levels-between2 = made-ticks Pokey2 (λ _. pokey_tick) pokey_gives gives-made2

pub ruleset few_records = (gives-one, length-levels, gives-made1, gives-made2, levels-between1, levels-between2)

-- one clock more, for a POKEY that lags behind a clock
pub levels-next : (from to : ℕ) (p : PokeyValue) → from ≤ to
    → levels_made from (to + 1 - from) p ≡ levels_made from (to - from) p ++ pokey_gives to (times pokey_tick (to - from) p)
levels-next from to p h =
    made-next (λ _. pokey_tick) pokey_gives from to p h
    ∙ ap (λ q. levels_made from (to - from) p ++ pokey_gives to q) (ticks-times pokey_tick from (to - from) p)

-- for a POKEY that lags behind a clock
pub ruleset lagging = (levels-next, length-levels)
