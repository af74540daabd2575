use Rattle.std.proofs.Common.{◌∙◌, sym, ap}
use Rattle.keyframes.specs.Keys.{live_of}
use Rattle.keyframes.proofs.RoomLaws.{store-live}
use Rattle.keyframes.proofs.keyframes.Keyframes.live.Goals as goal

pub returns : goal.returns
returns c = c.live.ensures.value ∙ sym (store-live c.self.inside.store c.self.inside.limit c.self.invariant.holders) ∙ ap live_of c.self.view_is
