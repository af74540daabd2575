use Rattle.std.proofs.Common.{◌≡◌}
use Rattle.std.specs.Prelude.{None}
use Rattle.device_bench.proofs.processor.count.Given as goal

-- the processor isn't jammed, and is between two instructions
abbrev pub invariant-instructions : goal.invariant-instructions
invariant-instructions l = (l.cpu.jam ≡ None) × (l.cpu.mid ≡ None)
