-- The accesses that start the generator. This project's own.
use Rattle.std.specs.Prelude.{ℕ, List, Bool, true, false, Option, Some, None, take, ◌&&◌, if◌then◌else◌}
use Rattle.std.specs.List.{filter_map}
use Rattle.board_map.specs.declared.map.Writes.{Writes}
use Rattle.board_map.specs.declared.map.Writes.TheVariants as writes
use Rattle.board_map.specs.Map.{row_of}
use Rattle.catchup_engine.specs.declared.trace.Access.{Access}
use Rattle.catchup_engine.specs.Trace.{TraceValue}

-- what a write does starts the generator
abbrev pub is_go : Writes → Bool
is_go writes.Go = true
is_go _ = false

-- a write that starts the generator; a read there doesn't
abbrev pub starts_generator : Access → Bool
starts_generator access = access.write && is_go (row_of access.addr).writes

-- the clock of an access, where it is such a write
abbrev pub mark_of : Access → Option ℕ
mark_of access = if starts_generator access then Some access.clock else None

-- the clocks of all such writes among accesses, in order
unfoldable pub marks_of : List Access → List ℕ
marks_of accesses = filter_map mark_of accesses

-- those of a trace
abbrev pub marks_in : TraceValue → List ℕ
marks_in trace = marks_of (take trace.count trace.accesses)
