-- A tape, as a plain record. This project's own choice.
use Rattle.std.specs.Prelude.{ℕ, ◌≤◌, List, All, count_by, nat_lt}
use Rattle.std.specs.List.Sorted.{IsNonDecreasingBy}
use Rattle.board_base.specs.declared.board.TheConstants.{CLOCK_LIMIT}
use Rattle.tape_ports.specs.declared.entry.TapeEntry.{TapeEntry}
use Rattle.tape_ports.specs.Ports.{IsPort}

-- the entries in their order, and the END clock
pub record TapeValue : Type 0 where
  pub entries : List TapeEntry
  pub end : ℕ

-- the clocks don't fall, none is above the END clock, which is at most the limit, and each port is
-- one
pub record IsTape (tape : TapeValue) : Type 0 where
  pub rising : IsNonDecreasingBy (λ entry. entry.clock) tape.entries
  pub within : All (λ entry. entry.clock ≤ tape.end) tape.entries
  pub range : tape.end ≤ CLOCK_LIMIT
  pub ports : All (λ entry. IsPort entry.port) tape.entries

-- the number of entries before a clock
abbrev pub count_before : ℕ → List TapeEntry → ℕ
count_before clock entries = count_by (λ entry. nat_lt entry.clock clock) entries
