use Rattle.std.proofs.Common.{◌≡◌, ◌-◌, nat_lt, map, drop}
use Rattle.bit_words.specs.Bits.{number}
use Rattle.pokey_chip.proofs.registers.pots_counted.Given as goal

abbrev pub invariant-loop-n : goal.invariant-loop-n
invariant-loop-n l = l.byte ≡ number (map (λ target. nat_lt l.state.pot target) (drop (8 - l.n) l.state.targets))
