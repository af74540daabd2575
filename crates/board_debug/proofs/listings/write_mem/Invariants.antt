use Rattle.std.proofs.Common.{◌≡◌}
use Rattle.board_debug.specs.Bytes.{mem_text}
use Rattle.board_debug.specs.Session.{seen_in}
use Rattle.board_debug.proofs.ListingLaws.{TakenUpTo, mem_rest}
use Rattle.board_debug.proofs.listings.write_mem.Given as goal

abbrev pub invariant-loop-k : goal.invariant-loop-k
invariant-loop-k g l = record {
  text : TakenUpTo (mem_text (seen_in (g.M.Machine.value l.fn.machine).board) l.fn.span.from l.fn.span.count)
      (mem_rest (seen_in (g.M.Machine.value l.fn.machine).board) l.fn.span.from l.fn.span.count l.k) (g.O.Sink.taken l.fn.out) (g.O.Sink.taken l.out);
  faults : g.O.Sink.faults l.out ≡ g.O.Sink.faults l.fn.out;
}
