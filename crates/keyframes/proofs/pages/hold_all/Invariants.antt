use Rattle.std.proofs.Common.{◌≡◌, vec_capacity, option_map}
use Rattle.keyframes.proofs.FillLaws.{Filling}
use Rattle.keyframes.proofs.pages.hold_all.Given as goal

-- the first k pages are in the row
abbrev pub invariant-loop-k : goal.invariant-loop-k
invariant-loop-k l =
    Filling l.initial.pool (option_map (λ frame. frame.now) l.before) l.state l.pool l.row.items l.k × (vec_capacity l.row ≡ vec_capacity l.initial.row)
