use Rattle.std.proofs.Common.{◌≡◌, take}
use Rattle.std.specs.List.{concat}
use Rattle.outside_io.specs.Known.{grown}
use Rattle.board_debug.proofs.write_lines.write_lines.Given as goal

abbrev pub invariant-loop-line : goal.invariant-loop-line
invariant-loop-line g l = record {
  taken : g.O.Sink.taken l.out ≡ grown (g.O.Sink.taken l.initial.out) (concat (take l.line-index l.lines));
  faults : g.O.Sink.faults l.out ≡ g.O.Sink.faults l.initial.out;
}
