use Rattle.std.proofs.Common.{◌≤◌, ◌+◌, ◌-◌, vec_len}
use Rattle.std.specs.Io.KnownBytes.{Consumes}
use Rattle.outside_io.proofs.pieces.read_first.Given as goal

-- what came is what was read, and no more than was wanted
abbrev pub invariant-loop-chunk : goal.invariant-loop-chunk
invariant-loop-chunk g l =
    (vec_len l.into ≤ l.limit + 1) × Consumes (g.F.Read.remaining l.initial.file) (g.F.Read.remaining l.file) l.into.items

abbrev pub decreases-loop-chunk : goal.decreases-loop-chunk
decreases-loop-chunk g l = l.limit + 1 - vec_len l.into
