use Rattle.std.proofs.Common.{◌≡◌, ◌+◌, [], length, vec_len, vec_capacity}
use Rattle.keyframes.specs.Store.{AreFrames, AreRows}
use Rattle.keyframes.proofs.ThinLaws.{HoldsBoth}
use Rattle.keyframes.proofs.store.Store.clear.Given as goal

-- the frames that are left hold all live pages
abbrev pub invariant-loop-frame : goal.invariant-loop-frame
invariant-loop-frame l =
    HoldsBoth l.self.pool l.self.kept.items [] × AreFrames l.self.kept.items × AreRows l.self.rows.items
    × (length l.self.pool ≡ length l.initial.self.pool) × (l.self.spare ≡ l.initial.self.spare)
    × (vec_len l.self.kept + vec_len l.self.rows ≡ vec_len l.initial.self.kept + vec_len l.initial.self.rows)
    × (vec_capacity l.self.kept ≡ vec_capacity l.initial.self.kept) × (vec_capacity l.self.rows ≡ vec_capacity l.initial.self.rows)

abbrev pub decreases-loop-frame : goal.decreases-loop-frame
decreases-loop-frame l = vec_len l.self.kept
