-- Which entries a clock has. This project's own choice.
use Rattle.std.specs.Prelude.{◌≡◌, ℕ, ◌+◌, ◌==◌, List, filter}
use Rattle.std.specs.List.{slice_range}
use Rattle.std.specs.List.Sorted.{IsNonDecreasingBy}
use Rattle.tape_ports.specs.declared.entry.TapeEntry.{TapeEntry}
use Rattle.tape_ports.specs.Tape.{count_before}

-- the entries of a clock, in their order
abbrev pub due_at : ℕ → List TapeEntry → List TapeEntry
due_at clock entries = filter (λ entry. entry.clock == clock) entries

-- Where clocks don't fall, the entries of a clock stand from its place up to the place of the next
-- clock.
abbrev pub AreTogether : ℕ → List TapeEntry → Type 0
AreTogether clock entries =
    IsNonDecreasingBy (λ entry. entry.clock) entries
    → due_at clock entries ≡ slice_range entries (count_before clock entries) (count_before (clock + 1) entries)
