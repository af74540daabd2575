-- A rule from a check of each entry of a table.
use Rattle.std.proofs.Common.{◌≡◌, ℕ, ◌<◌, List, map, get_or, ap, sym, ◌∙◌, zero-add}
use Rattle.std.proofs.lemmas.List.FromFn.{get_or-map-range_with_len}
use Rattle.std.specs.List.{range_with_len}

-- two functions that agree in a table of the numbers below n agree at each of them
pub same_by_table : {A : Type 0} (n : ℕ) (f g : ℕ → A) → map f (range_with_len 0 n) ≡ map g (range_with_len 0 n) → (m : ℕ) → m < n → f m ≡ g m
same_by_table {A} n f g same m h =
    sym (get_or-map-range_with_len f 0 n m m (f m) h (zero-add m))
    ∙ ap (λ (xs : List A). get_or xs m (f m)) same
    ∙ get_or-map-range_with_len g 0 n m m (f m) h (zero-add m)

-- of two numbers
pub same_by_tables : {A : Type 0} (m n : ℕ) (f g : ℕ → ℕ → A)
    → map (λ k. map (f k) (range_with_len 0 n)) (range_with_len 0 m) ≡ map (λ k. map (g k) (range_with_len 0 n)) (range_with_len 0 m)
    → (k : ℕ) → k < m → (r : ℕ) → r < n → f k r ≡ g k r
same_by_tables m n f g same k below =
    same_by_table n (f k) (g k)
    (same_by_table m (λ k. map (f k) (range_with_len 0 n)) (λ k. map (g k) (range_with_len 0 n)) same k below)
