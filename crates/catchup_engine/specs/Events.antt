-- The scheduled events: the divider's next wrap, and the tape's next entry.
use Rattle.std.specs.Prelude.{ℕ, min, List, Option, Some, None, replicate, slice_set}
use Rattle.catchup_engine.specs.declared.bus.events.TheConstants.{WRAP, ENTRY}

-- the deadlines of a wrap and of an entry, where there is one
abbrev pub deadlines_of : ℕ → Option ℕ → List (Option ℕ)
deadlines_of wrap None = slice_set (replicate 16 None) WRAP (Some wrap)
deadlines_of wrap (Some entry) = slice_set (slice_set (replicate 16 None) WRAP (Some wrap)) ENTRY (Some entry)

-- the sooner of a wrap and of an entry, where there is one
unfoldable pub next_event_of : ℕ → Option ℕ → ℕ
next_event_of wrap None = wrap
next_event_of wrap (Some entry) = min wrap entry
