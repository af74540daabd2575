use Rattle.std.proofs.Common.{◌≡◌, ◌-◌}
use Rattle.board_debug.specs.Instructions.{dis_text}
use Rattle.board_debug.specs.Session.{seen_in}
use Rattle.board_debug.proofs.ListingLaws.{TakenUpTo}
use Rattle.board_debug.proofs.listings.write_dis.Given as goal

abbrev pub invariant-loop-shown : goal.invariant-loop-shown
invariant-loop-shown g l = record {
  text : TakenUpTo (dis_text (seen_in (g.M.Machine.value l.fn.machine).board) l.fn.span.from l.fn.span.count)
      (dis_text (seen_in (g.M.Machine.value l.fn.machine).board) l.address (l.fn.span.count - l._shown)) (g.O.Sink.taken l.fn.out) (g.O.Sink.taken l.out);
  faults : g.O.Sink.faults l.out ≡ g.O.Sink.faults l.fn.out;
}
