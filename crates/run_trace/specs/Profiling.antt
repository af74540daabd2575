-- A profile as an observer of a run. This project's own.
use Rattle.std.specs.Prelude.{ℕ, List}
use Rattle.tape_ports.specs.declared.entry.TapeEntry.{TapeEntry}
use Rattle.lockstep_board.specs.Lockstep.{Board}
use Rattle.catchup_engine.specs.Trace.{TraceValue}
use Rattle.catchup_engine.specs.Traced.{observed}
use Rattle.cycle_profile.specs.Profile.{after, charged}
use Rattle.run_trace.specs.declared.profiling.Profiler.{Profiler}
use Rattle.run_trace.specs.BoardProfile.{run_turns}

-- a profiler that gets a turn
abbrev pub profiler_after_turn : Profiler → TraceValue → ℕ → Profiler
profiler_after_turn p trace pc = record { profile = after p.profile trace pc }

-- one that takes turns together
abbrev pub profiler_after_plain : Profiler → ℕ → ℕ → List ℕ → Profiler
profiler_after_plain p clocks accesses starts = record { profile = charged p.profile clocks accesses }

-- and of all turns of a run
abbrev pub after_run : Profiler → List TapeEntry → ℕ → Board → Profiler
after_run p entries limit b = record { profile = observed after entries (run_turns entries limit b) p.profile b }
