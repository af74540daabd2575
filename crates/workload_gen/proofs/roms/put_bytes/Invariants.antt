use Rattle.std.proofs.Common.{◌≡◌, ◌+◌, drop}
use Rattle.workload_gen.specs.Putting.{place_of, with_bytes}
use Rattle.workload_gen.proofs.roms.put_bytes.Given as goal

abbrev pub invariant-bytes : goal.invariant-bytes
invariant-bytes l = with_bytes (place_of l.at + l.k) (drop l.k l.bytes) l.image ≡ with_bytes (place_of l.at) l.bytes l.fn.image
