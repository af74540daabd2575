use Rattle.std.proofs.Common.{refl}
use Rattle.outside_io.proofs.HostLaws.{nothing-stored, stored-did}
use Rattle.outside_io.proofs.host.Host.store.Goals as goal

pub returns : goal.returns
returns g c = record {
  loans = record { shelf = refl; out = refl };
  did = stored-did _ _ _ _ _ c.store.result c.store.ensures.stored;
  nothing = nothing-stored _ _ _ c.store.result c.store.ensures.not_stored;
  shelf = c.store.ensures.cause;
  out = refl;
  absences = c.store.ensures.absences;
}
