-- The tape. This project's own choice.
use Rattle.std.specs.Prelude.{ℕ, ◌+◌, ◌*◌, ◌%◌, List, [], ◌∷◌, length, drop, slice_index_or}
use Rattle.tape_ports.specs.declared.entry.Port.{Port}
use Rattle.tape_ports.specs.declared.entry.Port.TheVariants.{In0}
use Rattle.tape_ports.specs.declared.entry.TapeEntry.{TapeEntry}
use Rattle.tape_ports.specs.Ports.{ports}
use Rattle.tape_ports.specs.Tape.{TapeValue}
use Rattle.workload_gen.specs.Draws.{draws_of}
use Rattle.workload_gen.specs.Words.{choices}

-- the port that a draw chooses among all, in their order
abbrev pub drawn_port : ℕ → Port
drawn_port draw = slice_index_or ports (draw % length ports) In0

-- the entries from entry k on, one each 100,000 clocks: each takes two draws, the first for its
-- port and the second for its value
unfoldable pub entries_from : ℕ → List ℕ → List TapeEntry
entries_from k (port ∷ value ∷ rest) = record { clock = 100000 * k; port = drawn_port port; value = value % 256 } ∷ entries_from (k + 1) rest
entries_from k _ = []

-- the tape: 200 entries, by the draws behind those of the words, and the END clock
unfoldable pub tape_of : ℕ → TapeValue
tape_of seed = record { entries = entries_from 1 (drop (length choices) (draws_of seed (length choices + 400))); end = 20000000 }
