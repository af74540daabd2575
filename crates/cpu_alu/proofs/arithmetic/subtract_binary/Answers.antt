use Rattle.std.proofs.Common.{◌≡◌, ◌+◌, ◌-◌, ◌%◌, nat_lt, not, rules}
use Rattle.std.specs.Int.{from_bool}
use Rattle.cpu_alu.specs.Arithmetic.{binary_adc}
use Rattle.cpu_alu.proofs.Bytes.{borrowed_difference}
use Rattle.cpu_alu.proofs.arithmetic.subtract_binary.Goals as goal

pub returns : goal.returns
unfolding binary_adc
returns c =
    let both = borrowed_difference _ _ _ _ c.args.flags.carry (search rules) (search rules) (search rules) c.borrowing_sub-difference.ensures in
    let difference : c.borrowing_sub-difference.result.0 ≡ (c.args.a + (255 - c.args.m) + from_bool c.args.flags.carry) % 256
    = both.0 in
    let carry : not c.borrowing_sub-difference.result.1 ≡ nat_lt 255 (c.args.a + (255 - c.args.m) + from_bool c.args.flags.carry)
    = both.1 in
    cc
