use Rattle.std.proofs.Common.{arith, ap, length}
use Rattle.text_line.proofs.DigitLaws.{last_four, length_whole}
use Rattle.log_text.proofs.log_line.LogLine.begin.Goals as goal

pub returns-clause-text : goal.returns-clause-text
returns-clause-text c =
    rw (
      c.put_four.ensures.text,
      c.put_piece.ensures.text,
      c.put_byte.ensures.text,
      c.clear.ensures,
      c.text.ensures,
      c.set.ensures.text,
      last_four c.args.clock (omega arith) (omega arith),
    )

pub returns-clause-len : goal.returns-clause-len
returns-clause-len c = omega (arith, ap length (returns-clause-text c), length_whole c.args.clock (omega arith))
