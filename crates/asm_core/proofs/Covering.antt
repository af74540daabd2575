-- Which bytes of the ROM the earlier lines give.
use Rattle.std.proofs.Common.{◌≡◌, ℕ, ◌+◌, ◌-◌, ◌<◌, ◌≤◌, ◌⊎◌, inl, inr, Bool, true, false, ◌&&◌, List, [], ◌∷◌, ◌++◌}
use Rattle.std.proofs.Common.{Ok, length, get_or, take, drop, replicate, refl, sym, ap, ◌∙◌, arith, Vec, Global}
use Rattle.std.specs.List.{All, list_any}
use Rattle.std.specs.Cmp.Derive.{both_true}
use Rattle.std.proofs.Math.Bool.{and-false, or-false, or-true}
use Rattle.std.proofs.lemmas.Bool.{cases_lt, le-leb, le-ltb, lt-leb, lt-ltb}
use Rattle.std.proofs.lemmas.Bool.Decides.{nat_tests}
use Rattle.std.proofs.lemmas.Grind.{common_steps}
use Rattle.std.proofs.lemmas.List.{get_or_default, get_or-drop, get_or-take}
use Rattle.std.proofs.lemmas.List.Elements.{All-push}
use Rattle.std.proofs.lemmas.List.Folds.{Any-from_list_any, list_any-append, list_any_at}
use Rattle.std.proofs.lemmas.List.Sums.{get_or-le-sum_by}
use Rattle.asm_core.specs.declared.cell.Cell.{Cell}
use Rattle.asm_core.specs.declared.dialect.Rom.{Rom}
use Rattle.asm_core.specs.declared.placed.Placed.{Placed}
use Rattle.asm_text.specs.declared.fault.AsmCause.TheVariants.{Overlap}
use Rattle.asm_core.specs.declared.pass_one.PassOne.{PassOne}
use Rattle.asm_core.specs.Cells.{all_fine, size_of}
use Rattle.asm_core.specs.PassOne.{Covers, IsPlaced, IsRom, IsPassOne, gives}
use Rattle.asm_core.specs.Forms.{AreCells}
use Rattle.asm_core.specs.Passes.{Known, is_in_rom, meets, room_for, unless}

-- two tests that pass together are one
pub same_tests : (a b : Bool) → (a ≡ true → b ≡ true) → (b ≡ true → a ≡ true) → a ≡ b
same_tests true b there back = sym (there refl)
same_tests false true there back = back refl
same_tests false false there back = refl

-- both of two tests pass
pub both_pass : (a b : Bool) → (a && b) ≡ true → (a ≡ true) × (b ≡ true)
both_pass true b passed = (refl, passed)
both_pass false b passed = absurd (cc)

-- a statement that gives bytes gives one or more
pub size-some : (cells : List Cell) → AreCells cells → 1 ≤ size_of cells
size-some [] whole = absurd (omega (arith, whole.some))
size-some (cell ∷ cells) whole =
    let first = get_or-le-sum_by (λ c. c.size) (cell ∷ cells) 0 cell (omega arith) in
    let some = (whole.each 0 cell (omega arith)).some in
    omega (arith, first, some)

-- a line gives its bytes and no others; it meets other bytes where it gives one of them
pub gives-byte : (addr : ℕ) (p : Placed) → p.at ≤ addr → addr < p.at + size_of p.cells → gives addr p ≡ true
gives-byte addr p low high = both_true (le-leb _ _ low) (lt-ltb _ _ high)

not-given : (addr : ℕ) (p : Placed) → (addr < p.at) ⊎ (p.at + size_of p.cells ≤ addr) → gives addr p ≡ false
not-given addr p (inl before) = rw (lt-leb p.at addr before) refl
not-given addr p (inr behind) = rw (le-ltb addr (p.at + size_of p.cells) behind) (and-false _)

met-at : (at count k : ℕ) (p : Placed) → k < count → gives (at + k) p ≡ true → meets at count p ≡ true
met-at at count k p inside given = grind (arith, nat_tests)

met-byte : (at count : ℕ) (p : Placed) → 1 ≤ count → 1 ≤ size_of p.cells → meets at count p ≡ true → ((p.at - at) < count) × (gives (at + (p.at - at)) p ≡ true)
met-byte at count p some whole met = grind (arith, nat_tests)

-- some bytes of a ROM are given where an earlier line shares one with them
given-meets : (rom : Rom) (taken : List Bool) (placed : List Placed) (at count : ℕ)
    → Covers rom taken placed → All (IsPlaced rom) placed → rom.low ≤ at → 1 ≤ count → (at - rom.low) + count ≤ length taken
    → list_any (λ given. given) (take count (drop (at - rom.low) taken)) ≡ list_any (meets at count) placed
given-meets rom taken placed at count covers each low some inside =
    let from = at - rom.low in
    let part = take count (drop from taken) in
    let part_len : length part ≡ count = grind (arith, common_steps) in
    let item : (k : ℕ) → k < count → get_or part k false ≡ list_any (gives (at + k)) placed = λ k within.
    let place : rom.low + (from + k) ≡ at + k = omega arith in
    get_or-take count (drop from taken) k false within ∙ get_or-drop from taken k false ∙ covers (from + k) (omega arith) ∙ ap (λ a. list_any (gives a) placed) place in
    same_tests (list_any (λ given. given) part) (list_any (meets at count) placed)
    (λ passed.
    let (k, d, within, is, given) = Any-from_list_any (λ given. given) part passed in
    let inside : k < count = omega (arith, within, part_len) in
    let (i, line, there, same, gave) = Any-from_list_any (gives (at + k)) placed (sym (item k inside) ∙ get_or_default part k false d within ∙ is ∙ given) in
    list_any_at (meets at count) placed i line there (rw same (met-at at count k line inside gave)))
    (λ passed.
    let (i, line, there, same, met) = Any-from_list_any (meets at count) placed passed in
    let (inside, gave) = met-byte at count line some (rw same at (size-some _ (each i line there).cells)) met in
    let given : list_any (gives (at + (line.at - at))) placed ≡ true = list_any_at _ placed i line there (rw same gave) in
    list_any_at (λ given. given) part (line.at - at) false (omega (arith, inside, part_len)) (item (line.at - at) inside ∙ given))

-- the bytes that are given once a line is placed
Covers-push : (rom : Rom) (taken : List Bool) (placed : List Placed) (p : Placed)
    → Covers rom taken placed → rom.low ≤ p.at → (p.at - rom.low) + size_of p.cells ≤ length taken
    → Covers rom (take (p.at - rom.low) taken ++ replicate (size_of p.cells) true ++ drop ((p.at - rom.low) + size_of p.cells) taken) (placed ++ p ∷ [])
Covers-push rom taken placed p covers low inside i within =
    let from = p.at - rom.low in
    let count = size_of p.cells in
    let same : i < length taken = grind (arith, common_steps) in
    rw (list_any-append (gives (rom.low + i)) placed (p ∷ []), ← covers i same)
    (elim (cases_lt i from) [
      | inl before ↦ rw (not-given (rom.low + i) p (inl (omega arith))) (grind (arith, common_steps, or-false))
      | inr behind ↦ elim (cases_lt i (from + count)) [
        | inl here ↦ rw (gives-byte (rom.low + i) p (omega arith) (omega arith)) (grind (arith, common_steps, or-true))
        | inr after ↦ rw (not-given (rom.low + i) p (inr (omega arith))) (grind (arith, common_steps, or-false))
      ]
    ])

-- what is known of a line's room where its values are in their ranges and its bytes in the ROM
pub room-stated : (rom : Rom) (number : ℕ) (known : Known) (cells : List Cell) (met : Bool)
    → all_fine known.names cells ≡ true → is_in_rom rom known.at (size_of cells) ≡ true → list_any (meets known.at (size_of cells)) known.placed ≡ met
    → room_for rom number known cells ≡ unless met number Overlap (Ok (size_of cells))
room-stated rom number known cells met fine inside same = rw (fine, inside, same) refl

-- whether some bytes of a line's room are given
pub room-given : (rom : Rom) (pass : PassOne) (cells : List Cell) (taken : List Bool) (size : ℕ)
    → IsPassOne rom pass → AreCells cells → taken ≡ pass.taken.items → size ≡ size_of cells → rom.low ≤ pass.at → pass.at + size ≤ rom.high
    → list_any (meets pass.at (size_of cells)) pass.placed ≡ list_any (λ given. given) (take size (drop (pass.at - rom.low) taken))
room-given rom pass cells taken size whole some is here low high =
    let inside : (pass.at - rom.low) + size_of cells ≤ length pass.taken.items = omega (arith, whole.whole, here, high, low) in
    rw (is, here) (sym (given-meets rom pass.taken.items pass.placed pass.at (size_of cells) whole.covers whole.each low (size-some cells some) inside))

-- what holds before a line holds after one that gives bytes
pub pass-next : (rom : Rom) (pass : PassOne) (line : ℕ) (cells : List Cell) (given : Vec Bool Global) (placed : List Placed) (size : ℕ)
    → IsRom rom → IsPassOne rom pass → AreCells cells → size ≡ size_of cells → rom.low ≤ pass.at → pass.at + size ≤ rom.high
    → given.items ≡ take (pass.at - rom.low) pass.taken.items ++ replicate size true ++ drop ((pass.at - rom.low) + size) pass.taken.items
    → placed ≡ pass.placed ++ record { line = line; at = pass.at; cells = cells } ∷ []
    → IsPassOne rom (record { names = pass.names; at = pass.at + size; placed = placed; taken = given })
pass-next rom pass line cells given placed size is_rom whole are here low high new more =
    let p : Placed = record { line = line; at = pass.at; cells = cells } in
    let from = pass.at - rom.low in
    let size_len : from + size_of cells ≤ length pass.taken.items = omega (arith, whole.whole, here, low, high) in
    let given_len : length (take from pass.taken.items ++ replicate (size_of cells) true ++ drop (from + size_of cells) pass.taken.items) ≡ length pass.taken.items = grind (arith, common_steps) in
    let pushed = Covers-push rom pass.taken.items pass.placed p whole.covers low size_len in
    record {
      at = omega (arith, is_rom.high, high);
      whole = rw (new, here, given_len) whole.whole;
      covers = rw (new, here, more) pushed;
      each = rw more (All-push (IsPlaced rom) pass.placed p whole.each (record { low = low; high = rw here at high; cells = are }));
    }

pub ruleset rooms = (room-given, room-stated)
