use Rattle.std.proofs.Common.{append_assoc}
use Rattle.std.proofs.lemmas.Fmt.{decimal_digit}
use Rattle.itoa.proofs.Decimal.{decimal_two}
use Rattle.text_line.proofs.line.Line.put_small.Goals as goal

pub returns-then-n-lt10-clause-text : goal.returns-then-n-lt10-clause-text
returns-then-n-lt10-clause-text c =
    rw (c.put_byte-then-n-lt10.ensures.text, c.put_byte.ensures.text, append_assoc, decimal_digit c.args.n c.if-n-lt10.true)

pub returns-then-n-lt100-clause-text : goal.returns-then-n-lt100-clause-text
returns-then-n-lt100-clause-text c =
    rw (c.put_two.ensures.text, c.put_byte.ensures.text, append_assoc, decimal_two c.args.n c.if-n-lt10.false c.if-n-lt100.true)
