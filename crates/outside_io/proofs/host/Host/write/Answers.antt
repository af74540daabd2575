use Rattle.std.proofs.Common.{refl}
use Rattle.outside_io.proofs.HostLaws.{wrote-did, wrote-first}
use Rattle.outside_io.proofs.host.Host.write.Goals as goal

pub returns : goal.returns
returns g c = record {
  loans = record { shelf = refl; out = refl };
  files = refl;
  did = wrote-did _ _ _ _ c.write.result c.write.ensures.taken;
  part = wrote-first _ _ _ _ c.write.result c.write.ensures.taken;
  shelf = refl;
  out = c.write.ensures.cause;
  absences = refl;
}
