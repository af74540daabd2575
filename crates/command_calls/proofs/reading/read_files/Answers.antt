use Rattle.std.proofs.Common.{◌+◌, ap, sym, subst, arith}
use Rattle.command_calls.specs.Requests.{file_read}
use Rattle.command_calls.specs.Shelves.{RequestFiles}
use Rattle.command_calls.proofs.ReadLaws.{HaveRead, all_read, malformed, one_more, same_but_files}
use Rattle.command_calls.proofs.reading.read_files.Goals as goal

pub returns-in_default-clause-err : goal.returns-in_default-clause-err
returns-in_default-clause-err c = malformed file_read _ _ _ _ _ c.loop.invariant.0 c.loop-test.true c.in_default.ensures

pub loop-preserved : goal.loop-preserved
loop-preserved c = (
  subst (λ files. HaveRead file_read c.args.count (c.loop.counter + 1) c.args.bytes.now files c.in-Some.after.now)
      (sym (ap (λ (s : RequestFiles). s.files) c.in-Ok.ensures.ok))
      (one_more file_read _ _ _ _ _ _ _ c.loop.invariant.0 c.loop-test.true c.in-Some.ensures),
  same_but_files c.args.shelf.now c.loop.shelf c.put.new.self _ c.in-Ok.ensures.ok c.loop.invariant.1,
)

pub returns-clause-ok : goal.returns-clause-ok
returns-clause-ok c = all_read file_read _ _ _ _ _ c.loop.invariant.0 (omega arith)
