use Rattle.std.proofs.Common.{◌≡◌, vec_len, vec_capacity}
use Rattle.keyframes.proofs.HolderLaws.{Giving}
use Rattle.keyframes.proofs.pages.give_all.Given as goal

-- the pages that are left are still held
abbrev pub invariant-loop-page : goal.invariant-loop-page
invariant-loop-page l = Giving l.initial.pool l.initial.row.items l.pool l.row.items × (vec_capacity l.row ≡ vec_capacity l.initial.row)

abbrev pub decreases-loop-page : goal.decreases-loop-page
decreases-loop-page l = vec_len l.row
