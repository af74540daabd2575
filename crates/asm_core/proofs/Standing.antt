-- The bytes of the lines stand at their addresses, and no other byte changes.
use Rattle.std.proofs.Common.{◌≡◌, ◌≢◌, ℕ, ◌+◌, ◌<◌, ◌≤◌, ◌⊎◌, inl, inr, false, List, [], ◌∷◌, Ok, Option, Some, None, IsSome, zero, suc, length, length-append, get_or, refl, sym, ap, ◌∙◌, arith}
use Rattle.std.specs.List.{list_any}
use Rattle.std.specs.Option.{option_map}
use Rattle.std.proofs.lemmas.Bool.{or_parts}
use Rattle.std.proofs.lemmas.Bool.Decides.{nat_tests}
use Rattle.std.proofs.lemmas.List.{get_or-set_other, get_or-set_same, length-set}
use Rattle.std.proofs.lemmas.List.Elements.{All-cons, All-nil, All-tail}
use Rattle.std.proofs.lemmas.List.Folds.{list_any_none}
use Rattle.std.proofs.lemmas.List.Sums.{sum_by-cons}
use Rattle.rom_image.specs.Addresses.{byte_of, offset_of}
use Rattle.rom_image.specs.declared.image.TheConstants.{IMAGE_LEN}
use Rattle.asm_core.specs.declared.cell.Cell.{Cell}
use Rattle.asm_core.specs.declared.dialect.Rom.{Rom}
use Rattle.asm_core.specs.declared.placed.Placed.{Placed}
use Rattle.asm_core.specs.Cells.{cell_bytes, cell_number, cells_bytes, size_of}
use Rattle.asm_core.specs.Expressions.{NameValues}
use Rattle.asm_core.specs.PassOne.{IsRom, gives}
use Rattle.asm_core.specs.Images.{line_written, put_at, pass_two, with_bytes}
use Rattle.asm_core.specs.Laws.{AreApart, AreInRom, HasBytes, IsInRom, Stands}
use Rattle.asm_core.specs.Passes.{placed_bytes}
use Rattle.asm_core.proofs.Addresses.{ok-same, then-ok}
use Rattle.asm_core.proofs.Putting.{low-len}

-- where an address has its place: no two addresses have one
place-inside : (addr place : ℕ) → offset_of addr ≡ Some place → place < IMAGE_LEN
place-inside addr place stated = grind (arith, nat_tests)

one-address : (a b place : ℕ) → offset_of a ≡ Some place → offset_of b ≡ Some place → a ≡ b
one-address a b place first second = grind (arith, nat_tests)

-- a byte that is put at an address stands there, and no other changes
put-len : (place : Option ℕ) (image : List ℕ) (byte : ℕ) → length (put_at place image byte) ≡ length image
put-len None image byte = refl
put-len (Some place) image byte = length-set image place byte

put-here : (addr : ℕ) (image : List ℕ) (byte : ℕ) → length image ≡ IMAGE_LEN → IsSome (offset_of addr) → byte_of (put_at (offset_of addr) image byte) addr ≡ Some byte
put-here addr image byte whole some = go (offset_of addr) refl some
  where
    go : (place : Option ℕ) → offset_of addr ≡ place → IsSome place → option_map (λ k. get_or (put_at place image byte) k 0) place ≡ Some byte
    go None is some = absurd (cc)
    go (Some place) is some = let inside = place-inside addr place is in ap (λ b. Some b) (get_or-set_same image place byte 0 (omega (arith, whole, inside)))

put-there : (addr other : ℕ) (image : List ℕ) (byte : ℕ) → other ≢ addr → byte_of (put_at (offset_of addr) image byte) other ≡ byte_of image other
put-there addr other image byte apart = go (offset_of addr) refl (offset_of other) refl
  where
    go : (place : Option ℕ) → offset_of addr ≡ place → (there : Option ℕ) → offset_of other ≡ there
        → option_map (λ k. get_or (put_at place image byte) k 0) there ≡ option_map (λ k. get_or image k 0) there
    go None is there is_there = refl
    go (Some place) is None is_there = refl
    go (Some place) is (Some there) is_there =
        ap (λ b. Some b) (get_or-set_other image place there byte 0 (λ same. apart (one-address other addr place (is_there ∙ ap (λ k. Some k) same) is)))

-- bytes that are put from an address on stand there, and no other changes
bytes-len : (bytes : List ℕ) (at : ℕ) (image : List ℕ) → length (with_bytes at bytes image) ≡ length image
unfolding with_bytes
bytes-len [] at image = refl
bytes-len (byte ∷ bytes) at image = bytes-len bytes (at + 1) (put_at (offset_of at) image byte) ∙ put-len (offset_of at) image byte

bytes-there : (bytes : List ℕ) (at addr : ℕ) (image : List ℕ) → (addr < at) ⊎ (at + length bytes ≤ addr) → byte_of (with_bytes at bytes image) addr ≡ byte_of image addr
unfolding with_bytes
bytes-there [] at addr image outside = refl
bytes-there (byte ∷ bytes) at addr image outside =
    let differ : addr ≢ at = λ same. elim outside [ inl low ↦ absurd (omega arith) | inr high ↦ absurd (omega arith) ] in
    let further : (addr < at + 1) ⊎ (at + 1 + length bytes ≤ addr) = elim outside [ inl low ↦ inl (omega arith) | inr high ↦ inr (omega arith) ] in
    bytes-there bytes (at + 1) addr (put_at (offset_of at) image byte) further ∙ put-there at addr image byte differ

bytes-here : (bytes : List ℕ) (at i : ℕ) (image : List ℕ) → length image ≡ IMAGE_LEN → ((addr : ℕ) → at ≤ addr → addr < at + length bytes → IsSome (offset_of addr))
    → i < length bytes → byte_of (with_bytes at bytes image) (at + i) ≡ Some (get_or bytes i 0)
unfolding with_bytes
bytes-here [] at i image whole inside within = absurd (omega arith)
bytes-here (byte ∷ bytes) at zero image whole inside within =
    let here : at + 0 ≡ at = omega arith in
    rw here (bytes-there bytes (at + 1) at (put_at (offset_of at) image byte) (inl (omega arith)) ∙ put-here at image byte whole (inside at (omega arith) (omega arith)))
bytes-here (byte ∷ bytes) at (suc i) image whole inside within =
    let there : at + suc i ≡ at + 1 + i = omega arith in
    rw there (bytes-here bytes (at + 1) i (put_at (offset_of at) image byte) (put-len (offset_of at) image byte ∙ whole)
    (λ addr low high. inside addr (omega arith) (omega arith)) (omega arith))

-- a statement has as many bytes as its size states
pub cells-len : (names : NameValues) (cells : List Cell) → length (cells_bytes names cells) ≡ size_of cells
cells-len names [] = refl
cells-len names (cell ∷ cells) =
    let first = low-len cell.size (cell_number names cell) in
    let rest = cells-len names cells in
    length-append (cell_bytes names cell) (cells_bytes names cells) ∙ rw (first, rest) (sym (sum_by-cons (λ c. c.size) cell cells))

line-bytes : (names : NameValues) (image after : List ℕ) (p : Placed) → line_written names image p ≡ Ok after → after ≡ with_bytes p.at (cells_bytes names p.cells) image
unfolding placed_bytes
line-bytes names image after p is = grind arith

-- after pass 2 the bytes of the lines stand, and no other byte changed
pub lines-have : (names : NameValues) (rom : Rom) (lines : List Placed) (image after : List ℕ) → IsRom rom → length image ≡ IMAGE_LEN
    → AreInRom rom lines → AreApart lines → pass_two names image lines ≡ Ok after → HasBytes names lines image after
unfolding pass_two
lines-have names rom [] image after is_rom whole inside apart is =
    record { each = All-nil (Stands names after); others = λ addr none. ap (λ i. byte_of i addr) (sym (ok-same image after is)) }
lines-have names rom (p ∷ ps) image after is_rom whole inside apart is =
    let (next, written, behind) = then-ok (λ next. pass_two names next ps) (line_written names image p) after is in
    let wrote = line-bytes names image next p written in
    let here : IsInRom rom p = inside 0 p (omega arith) in
    let len = cells-len names p.cells in
    let same_len : length next ≡ IMAGE_LEN = rw wrote (bytes-len (cells_bytes names p.cells) p.at image ∙ whole) in
    let later = lines-have names rom ps next after is_rom same_len (All-tail (IsInRom rom) p ps inside) (λ i j d less within. apart (suc i) (suc j) d (omega arith) (omega arith)) behind in
    record {
      each = All-cons (Stands names after) p ps
          (λ i less.
          let none = list_any_none (gives (p.at + i)) ps (λ j e below. apart 0 (suc j) e (omega arith) (omega arith) (p.at + i) (grind (arith, nat_tests, less))) in
          let room = λ (at : ℕ) (low : p.at ≤ at) (high : at < p.at + length (cells_bytes names p.cells)). is_rom.inside at (omega (arith, here.low)) (omega (arith, here.high, len)) in
          later.others (p.at + i) none ∙ rw wrote (bytes-here (cells_bytes names p.cells) p.at i image whole room (omega (arith, len, less))))
          later.each;
      others = λ addr none.
          let parts = or_parts (gives addr p) (list_any (gives addr) ps) none in
          later.others addr parts.1 ∙ rw wrote (bytes-there (cells_bytes names p.cells) p.at addr image (rw len (not-given-stated addr p parts.0)));
    }
  where
    not-given-stated : (addr : ℕ) (p : Placed) → gives addr p ≡ false → (addr < p.at) ⊎ (p.at + size_of p.cells ≤ addr)
    not-given-stated addr p none = grind (arith, nat_tests)
