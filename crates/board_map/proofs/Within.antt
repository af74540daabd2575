-- What a write to any address sets is there.
use Rattle.std.proofs.Common.{◌≡◌, ◌≤◌, ℕ, ◌-◌, ◌&&◌, nat_le, Bool, true, false, if◌then◌else◌, List, [], ◌∷◌, refl, arith}
use Rattle.std.proofs.lemmas.Bool.Decides.{nat_tests}
use Rattle.board_map.specs.declared.map.Row.{Row}
use Rattle.board_map.specs.Map.{Range, address_map, row_in, row_of, IsWritable}

-- what a write of a row sets is there
abbrev pub RowIsWritable : Row → Type 0
RowIsWritable row = IsWritable row.writes row.offset

-- what a write to each address of a range sets is there
abbrev AreWritable : List Range → Type 0
AreWritable [] = Unit {0}
AreWritable (range ∷ ranges) = ((offset : ℕ) → offset ≤ range.last - range.first → RowIsWritable (range.at offset)) × AreWritable ranges

row_writable : (ranges : List Range) (address : ℕ) → AreWritable ranges → RowIsWritable (row_in ranges address)
row_writable [] address h = tt
row_writable (range ∷ ranges) address h = by_test (nat_le range.first address) (nat_le address range.last) refl refl (row_writable ranges address h.1)
  where
    by_test : (low high : Bool) → nat_le range.first address ≡ low → nat_le address range.last ≡ high
        → RowIsWritable (row_in ranges address) → RowIsWritable (if low && high then range.at (address - range.first) else row_in ranges address)
    by_test true true e f rest =
        let first : range.first ≤ address = grind (arith, nat_tests) in
        let last : address ≤ range.last = grind (arith, nat_tests) in
        h.0 (address - range.first) (omega arith)
    by_test true false e f rest = rest
    by_test false high e f rest = rest

map_writable : AreWritable address_map
map_writable = grind (arith)

pub writable : (address : ℕ) → RowIsWritable (row_of address)
unfolding row_of
writable address = row_writable address_map address map_writable
