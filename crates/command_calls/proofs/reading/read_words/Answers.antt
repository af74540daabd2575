use Rattle.std.proofs.Common.{◌+◌, sym, subst, arith}
use Rattle.command_calls.specs.Requests.{text_read}
use Rattle.command_calls.proofs.ReadLaws.{HaveRead, all_read, malformed, one_more}
use Rattle.command_calls.proofs.reading.read_words.Goals as goal

pub returns-in_default-clause-err : goal.returns-in_default-clause-err
returns-in_default-clause-err c = malformed text_read _ _ _ _ _ c.loop.invariant c.loop-test.true c.in_default.ensures

pub loop-preserved : goal.loop-preserved
loop-preserved c =
    subst (λ words. HaveRead text_read c.args.count (c.loop.counter + 1) c.args.bytes.now words c.in-Some.after.now) (sym c.in-Ok.ensures.ok)
    (one_more text_read _ _ _ _ _ _ _ c.loop.invariant c.loop-test.true c.in-Some.ensures)

pub returns-clause-ok : goal.returns-clause-ok
returns-clause-ok c = all_read text_read _ _ _ _ _ c.loop.invariant (omega arith)
