-- Bytes put into an image one by one and cell by cell.
use Rattle.std.proofs.Common.{◌≡◌, ℕ, ◌+◌, ◌-◌, ◌*◌, ◌/◌, ◌%◌, ◌^◌, ◌<◌, ◌≤◌, zero, List, [], ◌∷◌, ◌++◌, length, refl, sym, ap, ◌∙◌, arith}
use Rattle.std.proofs.Math.Nat.{div-lt_iff_lt-mul, mul-le-mul}
use Rattle.std.proofs.Math.Pow.{pow_mono}
use Rattle.std.proofs.lemmas.Nat.{pow-add}
use Rattle.std.proofs.lemmas.List.{drop_all, drop_more}
use Rattle.std.proofs.lemmas.List.Sums.{sum_by-cons}
use Rattle.rom_image.specs.Addresses.{offset_of}
use Rattle.asm_core.specs.Cells.{low_bytes}
use Rattle.asm_core.specs.Images.{put_at, with_bytes}

-- bits at their place are below the next one
pub held-small : (unit bits shift r : ℕ) → 1 ≤ unit → r < unit * 2 ^ bits → bits + shift ≤ 32 → r / unit * 2 ^ shift ≤ 2 ^ 32
held-small unit bits shift r some small room =
    let turned : r < 2 ^ bits * unit = grind arith in
    let few : r / unit < 2 ^ bits = (div-lt_iff_lt-mul some).1 turned in
    let less : r / unit ≤ 2 ^ bits = omega (arith, few) in
    let all : r / unit * 2 ^ shift ≤ 2 ^ (bits + shift) = rw (pow-add 2 bits shift) (mul-le-mul less (refl-le (2 ^ shift))) in
    omega (arith, all, pow_mono room)
  where
    refl-le : (n : ℕ) → n ≤ n
    refl-le n = omega arith

-- a number has its lowest byte, and the bytes of the rest
pub low-more : (count n : ℕ) → 1 ≤ count → low_bytes count n ≡ n % 256 ∷ low_bytes (count - 1) (n / 256)
unfolding low_bytes
low-more zero n some = absurd (omega arith)
low-more (Prim.Native.Nat.suc count) n some = let less : Prim.Native.Nat.suc count - 1 ≡ count = omega arith in rw less refl

pub low-none : (count n : ℕ) → count ≡ 0 → low_bytes count n ≡ []
unfolding low_bytes
low-none count n none = rw none refl

pub low-len : (count n : ℕ) → length (low_bytes count n) ≡ count
unfolding low_bytes
low-len zero n = refl
low-len (Prim.Native.Nat.suc count) n = ap (λ k. Prim.Native.Nat.suc k) (low-len count (n / 256))

-- bytes, and others behind them
pub with_bytes-append : (xs : List ℕ) (at : ℕ) (ys image : List ℕ) → with_bytes at (xs ++ ys) image ≡ with_bytes (at + length xs) ys (with_bytes at xs image)
unfolding with_bytes
with_bytes-append [] at ys image = let same : at + 0 ≡ at = omega arith in ap (λ a. with_bytes a ys image) (sym same)
with_bytes-append (x ∷ xs) at ys image =
    let next : at + 1 + length xs ≡ at + length (x ∷ xs) = omega arith in
    with_bytes-append xs (at + 1) ys (put_at (offset_of at) image x) ∙ ap (λ a. with_bytes a ys (with_bytes (at + 1) xs (put_at (offset_of at) image x))) next

pub ruleset bytes = (drop_all, drop_more, low-len, low-more, low-none, sum_by-cons, with_bytes-append)

pub ruleset bits = (held-small)
