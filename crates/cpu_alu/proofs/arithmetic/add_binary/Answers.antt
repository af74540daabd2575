use Rattle.std.proofs.Common.{◌≡◌, ◌+◌, ◌%◌, nat_lt, rules}
use Rattle.std.specs.Int.{from_bool}
use Rattle.cpu_alu.specs.Arithmetic.{binary_adc}
use Rattle.cpu_alu.proofs.Bytes.{carried_out, carried_sum}
use Rattle.cpu_alu.proofs.arithmetic.add_binary.Goals as goal

pub returns : goal.returns
unfolding binary_adc
returns c =
    let sum : c.carrying_add-sum.result.0 ≡ (c.args.a + c.args.m + from_bool c.args.flags.carry) % 256
    = carried_sum _ _ _ (search rules) c.carrying_add-sum.ensures in
    let carry : c.carrying_add-sum.result.1 ≡ nat_lt 255 (c.args.a + c.args.m + from_bool c.args.flags.carry)
    = carried_out _ _ _ (search rules) c.carrying_add-sum.ensures in
    cc
