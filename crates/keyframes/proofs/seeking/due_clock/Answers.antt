use Rattle.std.proofs.Common.{◌≡◌, ◌+◌, ◌-◌, ◌^◌, arith, min}
use Rattle.keyframes.proofs.SeekLaws.{last-clock}
use Rattle.keyframes.proofs.seeking.due_clock.Goals as goal

pub returns : goal.returns
returns c =
    last-clock (λ n. c.saturating_add.result ≡ min (n + c.args.stride) (2 ^ 64 - 1)) _ _ _ c.len.ensures c.clock_of-last.ensures (omega (arith, c.saturating_add.ensures))
