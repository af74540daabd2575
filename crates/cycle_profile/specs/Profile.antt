-- A profile: the routines that are under way, and the counts of each address. It is this project's
-- own.
use Rattle.std.specs.Prelude.{◌≡◌, ℕ, ◌+◌, ◌-◌, ◌<◌, ◌≤◌, ◌^◌, ◌==◌, List, [], ◌∷◌, ◌++◌, length, take, drop, nat_lt, slice_index_or, slice_set, if◌then◌else◌}
use Rattle.std.specs.List.{sum_by}
use Rattle.catchup_engine.specs.Trace.{TraceValue}
use Rattle.cycle_profile.specs.declared.counts.Counts.{Counts}
use Rattle.cycle_profile.specs.declared.profile.TheConstants.{ADDRESSES, LONGEST_LIST}
use Rattle.cycle_profile.specs.declared.turn.Turn.{Turn}
use Rattle.cycle_profile.specs.declared.turn.Turn.TheVariants.{Call, Return, Restart, Stay}
use Rattle.cycle_profile.specs.Charge.{device_accesses}
use Rattle.cycle_profile.specs.Counts.{more_entered, more_taken, no_counts, raised}
use Rattle.cycle_profile.specs.Turns.{turn_of}

-- the addresses of the routines under way, the counts of each address, and the clocks of all
-- sequences
pub record ProfileValue : Type 0 where
  pub routines : List ℕ
  pub counts : List Counts
  pub clocks : ℕ

-- one to 128 routines are under way, and each of the 65,536 addresses has counts
pub record IsProfile (p : ProfileValue) : Type 0 where
  pub some : 0 < length p.routines
  pub few : length p.routines ≤ LONGEST_LIST
  pub counts : length p.counts ≡ ADDRESSES

-- the counts of an address
abbrev pub counts_at : List Counts → ℕ → Counts
counts_at counts address = slice_index_or counts address no_counts

-- counts of which those of one address changed
abbrev pub changed : (Counts → Counts) → ℕ → List Counts → List Counts
changed change address counts = slice_set counts address (change (counts_at counts address))

-- the last of some addresses
abbrev pub last_of : List ℕ → ℕ
last_of routines = slice_index_or routines (length routines - 1) 0

-- the last 128 of some addresses
abbrev pub newest : List ℕ → List ℕ
newest routines = drop (length routines - LONGEST_LIST) routines

-- all but the last address, where there is more than one
abbrev pub returned : List ℕ → List ℕ
returned routines = if nat_lt 1 (length routines) then take (length routines - 1) routines else routines

-- so many clocks and device accesses are charged to the last routine of the list
abbrev pub charged : ProfileValue → ℕ → ℕ → ProfileValue
charged p clocks accesses = record p {
  counts = changed (λ c. more_taken c clocks accesses) (last_of p.routines) p.counts;
  clocks = raised p.clocks clocks;
}

-- the list after a turn, of which `pc` is the program counter after it
abbrev pub turned : Turn → ℕ → List ℕ → List ℕ
turned Call pc routines = newest (routines ++ pc ∷ [])
turned Return pc routines = returned routines
turned Restart pc routines = pc ∷ []
turned Stay pc routines = routines

-- a call and a new beginning enter the routine
abbrev pub entered : Turn → ℕ → List Counts → List Counts
entered Call pc counts = changed more_entered pc counts
entered Return pc counts = counts
entered Restart pc counts = changed more_entered pc counts
entered Stay pc counts = counts

-- the list and the entries after a turn
abbrev pub after_turn : Turn → ℕ → ProfileValue → ProfileValue
after_turn turn pc p = record p { routines = turned turn pc p.routines; counts = entered turn pc p.counts }

-- the profile after a sequence, after which the program counter is `pc`; a trace of no access is
-- of no sequence
unfoldable pub after : ProfileValue → TraceValue → ℕ → ProfileValue
after p trace pc =
    if trace.count == 0 then p else after_turn (turn_of trace.sequence trace.opcode) pc (charged p trace.count (device_accesses trace))

-- the clocks of all addresses add up to those of all sequences
abbrev pub AddsUp : ProfileValue → Type 0
AddsUp p = sum_by (λ c. c.clocks) p.counts ≡ p.clocks

-- A sequence keeps the sum, while the clocks stand below the end of a count.
abbrev pub KeepsTheSum : ProfileValue → TraceValue → ℕ → Type 0
KeepsTheSum p trace pc =
    IsProfile p → last_of p.routines < ADDRESSES → pc < ADDRESSES → AddsUp p → p.clocks + trace.count < 2 ^ 64
    → AddsUp (after p trace pc)
