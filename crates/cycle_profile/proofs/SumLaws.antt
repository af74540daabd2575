-- The clocks of all addresses add up to those of all sequences.
use Rattle.std.proofs.Common.{◌≡◌, ℕ, ◌+◌, ◌<◌, ◌≤◌, ◌^◌, List, Bool, true, false, length, refl, ◌∙◌, arith}
use Rattle.std.specs.Prelude.{◌==◌, if◌then◌else◌}
use Rattle.std.proofs.Common.{length-set}
use Rattle.std.specs.List.{sum_by}
use Rattle.std.proofs.lemmas.List.Sums.{sum_by-set, get_or-le-sum_by}
use Rattle.catchup_engine.specs.Trace.{TraceValue}
use Rattle.cycle_profile.specs.declared.counts.Counts.{Counts}
use Rattle.cycle_profile.specs.declared.profile.TheConstants.{ADDRESSES}
use Rattle.cycle_profile.specs.declared.turn.Turn.{Turn}
use Rattle.cycle_profile.specs.declared.turn.Turn.TheVariants.{Call, Return, Restart, Stay}
use Rattle.cycle_profile.specs.Charge.{device_accesses}
use Rattle.cycle_profile.specs.Counts.{more_entered, more_taken, no_counts, raised}
use Rattle.cycle_profile.specs.Profile.{ProfileValue, AddsUp, KeepsTheSum, after, after_turn, changed, charged, counts_at, entered, last_of}
use Rattle.cycle_profile.specs.Turns.{turn_of}

abbrev clocks_in : List Counts → ℕ
clocks_in counts = sum_by (λ c. c.clocks) counts

-- an entry adds no clocks
pub entry-keeps : (counts : List Counts) (address : ℕ) → address < length counts → clocks_in (changed more_entered address counts) ≡ clocks_in counts
entry-keeps counts address below =
    let set : clocks_in (changed more_entered address counts) + (counts_at counts address).clocks ≡ clocks_in counts + (counts_at counts address).clocks
    = sum_by-set (λ c. c.clocks) counts address (more_entered (counts_at counts address)) no_counts below in
    omega (arith, set)

pub turn-keeps : (turn : Turn) (pc : ℕ) (p : ProfileValue) → pc < length p.counts → clocks_in (entered turn pc p.counts) ≡ clocks_in p.counts
turn-keeps Call pc p below = entry-keeps p.counts pc below
turn-keeps Return pc p below = refl
turn-keeps Restart pc p below = entry-keeps p.counts pc below
turn-keeps Stay pc p below = refl

-- clocks that a sequence takes are added to the sum
pub charge-adds : (counts : List Counts) (address clocks accesses : ℕ) → address < length counts → clocks_in counts + clocks < 2 ^ 64
    → clocks_in (changed (λ c. more_taken c clocks accesses) address counts) ≡ clocks_in counts + clocks
charge-adds counts address clocks accesses below room =
    let here = counts_at counts address in
    let set : clocks_in (changed (λ c. more_taken c clocks accesses) address counts) + here.clocks ≡ clocks_in counts + raised here.clocks clocks
    = sum_by-set (λ c. c.clocks) counts address (more_taken here clocks accesses) no_counts below in
    let most : here.clocks ≤ clocks_in counts = get_or-le-sum_by (λ (c : Counts). c.clocks) counts address no_counts below in
    omega (arith, set, most, room)

-- a trace of no access, and any other
pub either-adds : (b : Bool) (p q : ProfileValue) → AddsUp p → AddsUp q → AddsUp (if b then p else q)
either-adds true p q first second = first
either-adds false p q first second = second

pub keeps_the_sum : (p : ProfileValue) (trace : TraceValue) (pc : ℕ) → KeepsTheSum p trace pc
unfolding after
keeps_the_sum p trace pc is last fits adds room =
    let turn = turn_of trace.sequence trace.opcode in
    let address = last_of p.routines in
    let whole : address < length p.counts = rw is.counts last in
    let all : clocks_in p.counts + trace.count < 2 ^ 64 = rw adds room in
    let same : length (charged p trace.count (device_accesses trace)).counts ≡ ADDRESSES = length-set _ _ _ ∙ is.counts in
    let within : pc < length (charged p trace.count (device_accesses trace)).counts = rw same fits in
    let turned : clocks_in (entered turn pc (charged p trace.count (device_accesses trace)).counts)
    ≡ clocks_in (charged p trace.count (device_accesses trace)).counts = turn-keeps turn pc (charged p trace.count (device_accesses trace)) within in
    let charge : clocks_in (charged p trace.count (device_accesses trace)).counts ≡ clocks_in p.counts + trace.count
    = charge-adds p.counts address trace.count (device_accesses trace) whole all in
    let sum : clocks_in p.counts + trace.count ≡ raised p.clocks trace.count = omega (arith, adds, room) in
    either-adds (trace.count == 0) p (after_turn turn pc (charged p trace.count (device_accesses trace))) adds (turned ∙ charge ∙ sum)
