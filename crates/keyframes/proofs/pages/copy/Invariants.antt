use Rattle.keyframes.specs.Frames.{page_bytes}
use Rattle.keyframes.proofs.BoardLaws.{Written}
use Rattle.keyframes.proofs.pages.copy.Given as goal

-- the first k pages are written
abbrev pub invariant-loop-k : goal.invariant-loop-k
invariant-loop-k l = Written (page_bytes l.pool) l.pages l.k l.initial.into l.into
