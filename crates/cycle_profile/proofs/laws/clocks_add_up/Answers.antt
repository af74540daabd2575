use Rattle.std.proofs.lemmas.List.Folds.{sum_by-replicate}
use Rattle.cycle_profile.specs.declared.counts.Counts.{Counts}
use Rattle.cycle_profile.specs.declared.profile.TheConstants.{ADDRESSES}
use Rattle.cycle_profile.specs.Counts.{no_counts}
use Rattle.cycle_profile.proofs.SumLaws.{keeps_the_sum}
use Rattle.cycle_profile.proofs.laws.clocks_add_up.Goals as goal

pub returns-clause-first : goal.returns-clause-first
returns-clause-first c pc = sum_by-replicate (λ (counts : Counts). counts.clocks) ADDRESSES no_counts

pub returns-clause-next : goal.returns-clause-next
returns-clause-next c = keeps_the_sum
