use Rattle.std.proofs.Common.{◌∙◌}
use Rattle.board_base.specs.declared.board.TheConstants.{CLOCK_LIMIT}
use Rattle.keyframes.specs.Seeking.{run_start}
use Rattle.gravitar_commands.proofs.ReportLaws.{lowered-few, sought-reported, start-is, written-faults}
use Rattle.gravitar_commands.proofs.seeking.BoardsReport.report.Goals as goal

pub write_boards-requires-clause-along : goal.write_boards-requires-clause-along
write_boards-requires-clause-along g c = c.keep_start.ensures.along c.args.parts.now.tape.entries c.in_ok-engine.engine.board

pub write_boards-requires-clause-limit : goal.write_boards-requires-clause-limit
write_boards-requires-clause-limit g c =
    rw (c.as_slice.ensures.value, c.lowered-clocks.ensures.clocks) (lowered-few c.args.limit CLOCK_LIMIT c.args.self.now.clocks.now c.requires.limit)

pub returns-clause-taken : goal.returns-clause-taken
returns-clause-taken g c =
    let e = c.in_ok-engine.engine.board in
    let s = run_start c.keep_start.new.keys.kept e in
    let start = start-is c.args.parts.now.image c.args.wired c.args.parts.now.board e s c.lemma_board.ensures c.in_ok-engine.ensures.board (c.keep_start.ensures.start e) in
    let wrote = sought-reported c.args.parts.now.tape.entries c.args.limit c.args.self.now.clocks.now c.as_slice.result.now e s (g.O.Sink.taken c.args.out.now) (g.O.Sink.taken c.write_boards.new.out)
    c.write_boards.result c.written.result (c.as_slice.ensures.value ∙ c.lowered-clocks.ensures.clocks) start c.write_boards.ensures.taken c.written.ensures in
    rw c.in_ok-engine.ensures.board at wrote

pub returns-clause-faults : goal.returns-clause-faults
returns-clause-faults g c = rw c.written.ensures (written-faults _ _ c.write_boards.result c.write_boards.ensures.cause)
