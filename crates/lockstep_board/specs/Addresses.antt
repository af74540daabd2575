-- The addresses at which an access reaches a device. This project's own choice.
use Rattle.std.specs.Prelude.{ℕ, List, [], ◌∷◌, Bool, nat_le, ◌&&◌}
use Rattle.std.specs.List.{list_any}

-- the reads that reach a device, each line the first and the last address
abbrev pub device_reads : List (ℕ × ℕ)
device_reads =
    (0x6000, 0x6FFF) ∷
    (0x7000, 0x7000) ∷
    (0x7800, 0x7800) ∷
    []

-- and the writes
abbrev pub device_writes : List (ℕ × ℕ)
device_writes =
    (0x2000, 0x27FF) ∷
    (0x6000, 0x6FFF) ∷
    (0x8840, 0x8840) ∷
    (0x8880, 0x8880) ∷
    (0x88C0, 0x88C0) ∷
    (0x8900, 0x8900) ∷
    (0x8940, 0x897F) ∷
    (0x8980, 0x89ED) ∷
    []

-- an address is one of some ranges
abbrev pub is_among : List (ℕ × ℕ) → ℕ → Bool
is_among ranges address = list_any (λ range. nat_le range.0 address && nat_le address range.1) ranges
