-- Both parts after one another, as the lemmas on places have it.
use Rattle.std.proofs.Common.{◌≢◌, [], Option, Some, None, IsSome}
use Rattle.board_base.specs.Mid.{MidValue}
use Rattle.cpu_core.proofs.PlaceLemmas.{moves-join, moves-part, two_parts}
use Rattle.cpu_core.proofs.parts.in_two_parts.Goals as goal

pub returns-clause-joined : goal.returns-clause-joined
returns-clause-joined g c = λ r q first rest s m t. moves-join (g.B.Bus.step c.args.feed.now) r q [] first rest s m t

pub returns-clause-parted : goal.returns-clause-parted
returns-clause-parted g c = λ r q first rest s t. moves-part (g.B.Bus.step c.args.feed.now) r q [] first rest s t

some_not_none : (mid : Option MidValue) → IsSome mid → mid ≢ None
some_not_none None h e = cc
some_not_none (Some m) h e = cc

pub returns-clause-done : goal.returns-clause-done
returns-clause-done g c = λ r q clocks started made s m t at end few a some rest.
    (two_parts (g.B.Bus.step c.args.feed.now) r q clocks made s m t at end (started, a) few (some_not_none at.mid some) rest).runs
