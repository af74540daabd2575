use Rattle.std.proofs.Common.{sym, ◌∙◌, arith}
use Rattle.board_debug.proofs.DecodedLaws.{decoded-fits}
use Rattle.board_debug.proofs.dis.dis_line.Goals as goal

pub with_operand-requires-clause-short : goal.with_operand-requires-clause-short
with_operand-requires-clause-short c =
    (decoded-fits c.args.bytes.now c.in-Some.op c.in-Some.mode c.in-Some.operand (λ i. omega (arith, c.type_inv.bytes i)) (sym c.decode.ensures ∙ c.in-Some.is)).short
