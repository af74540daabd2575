-- A test of an address's row, as a test of the ranges that hold the address.
use Rattle.std.proofs.Common.{◌≡◌, ℕ, ◌-◌, ◌<◌, ◌≤◌, List, [], ◌∷◌, Bool, true, false, nat_le, if◌then◌else◌, suc, inl, inr, refl, sym, ◌∙◌, arith}
use Rattle.std.specs.Prelude.{◌&&◌, ◌||◌}
use Rattle.std.specs.List.{list_any}
use Rattle.std.proofs.lemmas.Bool.{lt-leb}
use Rattle.std.proofs.lemmas.Bool.Decides.{leb_tells}
use Rattle.board_map.specs.declared.map.Reads.TheVariants.{Open}
use Rattle.board_map.specs.declared.map.Row.{Row}
use Rattle.board_map.specs.declared.map.Writes.TheVariants.{Ignored}
use Rattle.board_map.specs.Map.{Range, row, row_in}

-- an address is in a range of the map
abbrev pub is_in : ℕ → Range → Bool
is_in address range = nat_le range.first address && nat_le address range.last

-- ranges from an address on, each of them behind the one before
abbrev pub are_rising : ℕ → List Range → Bool
are_rising from [] = true
are_rising from (range ∷ ranges) = nat_le from range.first && (nat_le range.first range.last && are_rising (suc range.last) ranges)

-- an address is in a range whose row passes a test
abbrev pub is_in_passing : (Row → Bool) → List Range → ℕ → Bool
is_in_passing p ranges address = list_any (λ range. p (range.at (address - range.first)) && is_in address range) ranges

and-first : (a b : Bool) → a && b ≡ true → a ≡ true
and-first true b both = refl
and-first false b both = cc

and-second : (a b : Bool) → a && b ≡ true → b ≡ true
and-second true b both = both
and-second false b both = cc

and-none : (a : Bool) → a && false ≡ false
and-none true = refl
and-none false = refl

le-of : (a b : ℕ) → nat_le a b ≡ true → a ≤ b
le-of a b test = elim (leb_tells a b) [ inl (pass, le) ↦ le | inr (fail, above) ↦ let other : true ≡ false = sym test ∙ fail in cc ]

-- an address below ranges is in none of them
none-below : (p : Row → Bool) (ranges : List Range) (from address : ℕ) → are_rising from ranges ≡ true → address < from
    → is_in_passing p ranges address ≡ false
none-below p [] from address rising below = refl
none-below p (range ∷ ranges) from address rising below =
    let start = le-of from range.first (and-first _ _ rising) in
    let later = and-second (nat_le from range.first) _ rising in
    let order = le-of range.first range.last (and-first _ _ later) in
    let out : nat_le range.first address ≡ false = lt-leb range.first address (omega (arith, start, below)) in
    rw (out, and-none (p (range.at (address - range.first))))
    (none-below p ranges (suc range.last) address (and-second (nat_le range.first range.last) _ later) (omega (arith, start, order, below)))

-- the first range with an address is the only one
one-range : (p : Row → Bool) (test rest : Bool) (x y : Row) → (test ≡ true → rest ≡ false) → p y ≡ rest
    → p (if test then x else y) ≡ (p x && test) || rest
one-range p true rest x y alone other = rw (alone refl) (kept (p x))
  where
    kept : (b : Bool) → b ≡ (b && true) || false
    kept true = refl
    kept false = refl
one-range p false rest x y alone other = rw (and-none (p x)) other

-- the row of an address passes a test where one of the rising ranges that hold the address has such
-- a row
pub passing : (p : Row → Bool) → p (row 0 Open Ignored) ≡ false → (ranges : List Range) (from address : ℕ) → are_rising from ranges ≡ true
    → p (row_in ranges address) ≡ is_in_passing p ranges address
passing p none [] from address rising = none
passing p none (range ∷ ranges) from address rising =
    let later = and-second (nat_le from range.first) _ rising in
    let rest = and-second (nat_le range.first range.last) _ later in
    one-range p (is_in address range) (is_in_passing p ranges address) (range.at (address - range.first)) (row_in ranges address)
    (λ inside. none-below p ranges (suc range.last) address rest
    (let most = le-of address range.last (and-second (nat_le range.first address) _ inside) in omega (arith, most)))
    (passing p none ranges (suc range.last) address rest)
