use Rattle.std.proofs.Common.{◌*◌, refl, ◌∙◌}
use Rattle.std.proofs.lemmas.Result.{err_from_is_err_and}
use Rattle.board_debug.specs.Bytes.{further}
use Rattle.board_debug.specs.Session.{seen_in}
use Rattle.board_debug.proofs.ListingLaws.{mem-first, none-taken, piece-cut, piece-taken, row-is, rows-last, whole-taken}
use Rattle.board_debug.proofs.listings.write_mem.Goals as goal

pub loop-k-init : goal.loop-k-init
loop-k-init g c = record {
  text = none-taken _ _ _ (mem-first (seen_in (g.M.Machine.value c.args.machine.now).board) c.args.span.from c.args.span.count);
  faults = refl;
}

pub returns-in_err-write-clause-taken : goal.returns-in_err-write-clause-taken
returns-in_err-write-clause-taken g c =
    let seen = seen_in (g.M.Machine.value c.args.machine.now).board in
    let line = row-is seen c.args.span.from c.args.span.count c.loop-k.k c.div_ceil-k-end.result c.min.result (further c.args.span.from (16 * c.loop-k.k))
    c.bytes.result.now c.deref.result.now c.div_ceil-k-end.ensures c.loop-k-test.true c.min.ensures refl (c.deref.ensures.0 ∙ c.row-bytes.ensures)
    (c.bytes.ensures ∙ c.mem_line.ensures) in
    let p = err_from_is_err_and c.from_residual.result c.from_residual.ensures.1 in
    rw p.1 (piece-cut _ _ _ _ _ _ _ line c.in_err-write.ensures.taken c.loop-k.invariant.text)

pub loop-k-preserved : goal.loop-k-preserved
loop-k-preserved g c =
    let seen = seen_in (g.M.Machine.value c.args.machine.now).board in
    let line = row-is seen c.args.span.from c.args.span.count c.loop-k.k c.div_ceil-k-end.result c.min.result (further c.args.span.from (16 * c.loop-k.k))
    c.bytes.result.now c.deref.result.now c.div_ceil-k-end.ensures c.loop-k-test.true c.min.ensures refl (c.deref.ensures.0 ∙ c.row-bytes.ensures)
    (c.bytes.ensures ∙ c.mem_line.ensures) in
    record {
      text = piece-taken _ _ _ _ _ _ _ line c.in_ok-write.ensures.taken c.loop-k.invariant.text;
      faults = c.in_ok-write.ensures.cause ∙ c.loop-k.invariant.faults;
    }

pub returns-clause-taken : goal.returns-clause-taken
returns-clause-taken g c =
    whole-taken _ _ _ _ (rows-last (seen_in (g.M.Machine.value c.args.machine.now).board) c.args.span.from c.args.span.count c.loop-k.k c.div_ceil-k-end.result
    c.div_ceil-k-end.ensures c.loop-k-test.false) c.loop-k.invariant.text
