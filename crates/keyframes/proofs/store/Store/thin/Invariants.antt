use Rattle.std.proofs.Common.{◌≡◌, ◌+◌, ◌≤◌, vec_len, vec_capacity}
use Rattle.keyframes.specs.Store.{AreFrames, AreRows}
use Rattle.keyframes.proofs.ThinLaws.{Thinning, Restoring}
use Rattle.keyframes.proofs.store.Store.thin.Given as goal

-- frames that stay go over to the spare ones
abbrev pub invariant-loop-frame : goal.invariant-loop-frame
invariant-loop-frame l =
    Thinning l.initial.self.pool l.initial.self.kept.items l.self.pool l.self.kept.items l.self.spare.items × AreFrames l.self.kept.items × AreRows l.self.rows.items
    × (vec_len l.self.kept + vec_len l.self.spare + vec_len l.self.rows ≡ vec_len l.initial.self.kept + vec_len l.initial.self.rows)
    × (vec_capacity l.self.kept ≡ vec_capacity l.initial.self.kept) × (vec_capacity l.self.rows ≡ vec_capacity l.initial.self.rows)
    × (vec_capacity l.self.spare ≡ vec_capacity l.initial.self.spare) × (vec_len l.self.kept + vec_len l.self.spare ≤ vec_len l.initial.self.kept)

abbrev pub decreases-loop-frame : goal.decreases-loop-frame
decreases-loop-frame l = vec_len l.self.kept

-- and back
abbrev pub invariant-loop-frame-2 : goal.invariant-loop-frame-2
invariant-loop-frame-2 l =
    Restoring l.fn.self.pool l.fn.self.kept.items l.self.pool l.self.kept.items l.self.spare.items × AreRows l.self.rows.items
    × (vec_len l.self.kept + vec_len l.self.spare + vec_len l.self.rows ≡ vec_len l.fn.self.kept + vec_len l.fn.self.rows)
    × (vec_capacity l.self.kept ≡ vec_capacity l.fn.self.kept) × (vec_capacity l.self.rows ≡ vec_capacity l.fn.self.rows)
    × (vec_capacity l.self.spare ≡ vec_capacity l.fn.self.spare) × (vec_len l.self.kept + vec_len l.self.spare ≤ vec_len l.fn.self.kept)

abbrev pub decreases-loop-frame-2 : goal.decreases-loop-frame-2
decreases-loop-frame-2 l = vec_len l.self.spare
