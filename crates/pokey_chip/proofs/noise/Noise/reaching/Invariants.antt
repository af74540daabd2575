use Rattle.std.proofs.Common.{◌≡◌, ◌-◌, ◌≤◌, false}
use Rattle.pokey_chip.specs.Noise.{IsNoise}
use Rattle.pokey_chip.specs.Tick.{is_held}
use Rattle.pokey_chip.proofs.noise.Noise.reaching.Given as goal

abbrev pub invariant-loop-noise : goal.invariant-loop-noise
invariant-loop-noise l = record {
  noise : IsNoise l.start l.noise;
  since : l.noise.since ≤ l.at;
  running : is_held l.start.skctl ≡ false;
}

abbrev pub decreases-loop-noise : goal.decreases-loop-noise
decreases-loop-noise l = l.at - l.noise.since
