use Rattle.keyframes.specs.Inside.{IsStore, keys_of}
use Rattle.keyframes.proofs.RoomLaws.{Thinned}
use Rattle.keyframes.proofs.store.Store.make_room.Given as goal
use Rattle.std.proofs.Common.{vec_len}

-- the store was thinned while it was crowded
abbrev pub invariant-loop-self : goal.invariant-loop-self
invariant-loop-self l = IsStore l.self l.fn.limit × Thinned (keys_of l.initial.self l.fn.limit) (keys_of l.self l.fn.limit)

abbrev pub decreases-loop-self : goal.decreases-loop-self
decreases-loop-self l = vec_len l.self.kept
