use Rattle.std.proofs.Common.{ℕ, ◌≤◌, ◌<◌, length, get_or}
use Rattle.keyframes.specs.declared.frame.Frame.{Frame}
use Rattle.keyframes.proofs.keyframes.Keyframes.nearest.Given as goal

-- the boards from the index on are later
abbrev pub invariant-loop-index : goal.invariant-loop-index
invariant-loop-index l =
    (l.index ≤ length l.self-inside.store.kept.items)
    × ((j : ℕ) (d : Frame) → l.index ≤ j → j < length l.self-inside.store.kept.items → l.clock < (get_or l.self-inside.store.kept.items j d).rest.clock)

abbrev pub decreases-loop-index : goal.decreases-loop-index
decreases-loop-index l = l.index
