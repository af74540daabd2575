use Rattle.std.proofs.Common.{ap, ◌∙◌}
use Rattle.lockstep_board.specs.Order.{records_of}
use Rattle.lockstep_board.specs.Run.{to_boundary}
use Rattle.run_summary.specs.Counter.{CounterValue}
use Rattle.run_summary.specs.Summary.{summary_of}
use Rattle.run_summary.proofs.SoakLaws.{run-room}
use Rattle.run_summary.proofs.SummaryLaws.{together-none}
use Rattle.run_summary.proofs.soak.run_counted.Goals as goal

pub watch-requires-clause-room : goal.watch-requires-clause-room
unfolding to_boundary
watch-requires-clause-room g c =
    rw c.new-counter.ensures
    (run-room c.args.tape.now.entries c.args.limit (g.M.Machine.value c.args.synced.now.machine.now).board c.requires.limit c.args.synced.now.is_synced.empty)

pub returns-clause-summary : goal.returns-clause-summary
unfolding to_boundary
returns-clause-summary g c =
    c.total.ensures
    ∙ ap (λ (v : CounterValue). v.total) (c.in-Ok.ensures.next)
    ∙ rw c.new-counter.ensures (together-none (summary_of (records_of (to_boundary c.args.tape.now.entries c.args.limit (g.M.Machine.value c.args.synced.now.machine.now).board))))

pub returns-clause-board : goal.returns-clause-board
unfolding to_boundary
returns-clause-board g c = c.in-Ok.ensures.board
