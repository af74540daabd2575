use Rattle.std.proofs.Common.{refl, ◌∙◌}
use Rattle.std.proofs.lemmas.Result.{err_from_is_err_and}
use Rattle.board_debug.proofs.TextLaws.{line-cut, line-taken, lines-taken, none-taken}
use Rattle.board_debug.proofs.write_lines.write_lines.Goals as goal

pub loop-line-init : goal.loop-line-init
loop-line-init g c = record { taken = none-taken c.args.lines.now _; faults = refl }

pub loop-line-preserved : goal.loop-line-preserved
loop-line-preserved g c = record {
  taken = line-taken c.args.lines.now c.loop-line.line-index _ c.line-item.result c.bytes.result.now _ _ _ c.loop-line-test.true c.line-item.is c.bytes.ensures
      c.loop-line.invariant.taken c.in_ok-write.ensures.taken;
  faults = c.in_ok-write.ensures.cause ∙ c.loop-line.invariant.faults;
}

pub returns-in_err-write-clause-taken : goal.returns-in_err-write-clause-taken
returns-in_err-write-clause-taken g c =
    let p = err_from_is_err_and c.from_residual.result c.from_residual.ensures.1 in
    rw p.1 (line-cut c.args.lines.now c.loop-line.line-index _ c.line-item.result c.bytes.result.now _ _ _ c.loop-line-test.true c.line-item.is c.bytes.ensures
    c.loop-line.invariant.taken c.in_err-write.ensures.taken)

pub returns-clause-taken : goal.returns-clause-taken
returns-clause-taken g c =
    lines-taken c.args.lines.now c.loop-line.line-index _ _ c.loop-line.auto.line-index-end c.loop-line-test.false c.loop-line.invariant.taken
