use Rattle.std.proofs.lemmas.List.{length-replicate}
use Rattle.std.proofs.lemmas.List.Folds.{sum_by-replicate}
use Rattle.cycle_profile.specs.declared.counts.Counts.{Counts}
use Rattle.cycle_profile.specs.declared.profile.TheConstants.{ADDRESSES}
use Rattle.cycle_profile.specs.Counts.{no_counts}
use Rattle.run_trace.proofs.ClockLaws.{addresses_told, all_told}
use Rattle.run_trace.proofs.laws.all_clocks_are_counted.Goals as goal

pub returns-clause-clocks : goal.returns-clause-clocks
returns-clause-clocks c = all_told

pub returns-clause-addresses : goal.returns-clause-addresses
returns-clause-addresses c entries limit b bytes range =
    addresses_told entries limit b bytes range (sum_by-replicate (λ (counts : Counts). counts.clocks) ADDRESSES no_counts) (length-replicate ADDRESSES no_counts)
