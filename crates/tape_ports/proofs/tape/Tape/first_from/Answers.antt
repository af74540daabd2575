-- The place is the one up to which each clock is below the given one, as the clocks don't fall.
use Rattle.std.proofs.Common.{◌≡◌, ltb, rules, sym}
use Rattle.std.specs.List.Sorted.{IsNonDecreasingBy}
use Rattle.std.proofs.lemmas.List.Sorted.{IsPartitionPoint-from_clause, IsPartitionedBy-ltb}
use Rattle.tape_ports.proofs.Places.{Parts, parts_from_point}
use Rattle.tape_ports.proofs.tape.Tape.first_from.Goals as goal

pub returns : goal.returns
returns c =
    let same : c.as_slice.result.now ≡ c.args.self.now.entries = cc in
    let rising : IsNonDecreasingBy (λ entry. entry.clock) c.as_slice.result.now = rw c.as_slice.ensures.value c.self.invariant.rising in
    let parts : Parts (λ entry. entry.clock) c.args.clock c.args.self.now.entries c.partition_point.result =
    rw (← same)
    (parts_from_point (λ entry. entry.clock) c.args.clock c.as_slice.result.now c.partition_point.result c.partition_point.ensures.bound
    (IsPartitionPoint-from_clause (λ entry. ltb entry.clock c.args.clock) c.as_slice.result.now c.partition_point.result c.partition_point.ensures.partitioned
    (IsPartitionedBy-ltb (λ entry. entry.clock) c.as_slice.result.now c.args.clock rising)
    (λ a r f called. search rules))) in
    record { count = sym parts.count; within = parts.within; before = parts.below; from = parts.above }
