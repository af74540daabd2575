use Rattle.std.proofs.Common.{ap, refl, rules, subst}
use Rattle.std.specs.Prelude.{Ok}
use Rattle.outside_io.specs.Hosts.{seen}
use Rattle.gravitar_commands.specs.Outcome.{IsRun}
use Rattle.command_line.specs.CommandWords.{command_value}
use Rattle.gravitar_commands.proofs.StageLaws.{done-note, done-outcome, ending-contained, failure-stopped, fault-note, jam-ending, jam-failure, memory-note, noted, failure-note}
use Rattle.gravitar_commands.proofs.StageLaws.{failure-outcome, failure-status, note-lent, outcome-lent, stopped-lent, usage-note, usage-outcome, usage-status}
use Rattle.gravitar_commands.proofs.program.gravitar.Goals as goal

pub returns-in_default-clause-outcome : goal.returns-in_default-clause-outcome
returns-in_default-clause-outcome g c = λ not6 not7. usage-outcome (g.S.Shelf.files c.args.shelf.now) c.args.words.now _ _ _ _ (rw c.in_default.is at c.command-command.ensures.command) refl refl

pub returns-in_default-clause-statuses : goal.returns-in_default-clause-statuses
returns-in_default-clause-statuses g c = usage-status

pub returns-in_default-clause-usage_note : goal.returns-in_default-clause-usage_note
returns-in_default-clause-usage_note g c = λ _. noted _ _ _ _ _ c.write.result c.write.ensures.taken c.write.ensures.cause

pub returns-in_default-clause-note : goal.returns-in_default-clause-note
returns-in_default-clause-note g c = λ not6 not7.
    usage-note (g.S.Shelf.files c.args.shelf.now) c.args.words.now _ _ _ _ (rw c.in_default.is at c.command-command.ensures.command)
    (noted _ _ _ _ _ c.write.result c.write.ensures.taken c.write.ensures.cause)

pub returns-in-Err-clause-statuses : goal.returns-in-Err-clause-statuses
returns-in-Err-clause-statuses g c = failure-status c.in-Err.failure c.status.result c.status.ensures

pub returns-in-Err-clause-fault_note : goal.returns-in-Err-clause-fault_note
returns-in-Err-clause-fault_note g c = λ six.
    fault-note c.in-Err.failure c.status.result _ _ _ _ c.status.ensures
    (noted _ _ _ _ _ c.write-in-Err.result (rw c.note.ensures at c.write-in-Err.ensures.taken) c.write-in-Err.ensures.cause) six

pub returns-in-Err-clause-memory_note : goal.returns-in-Err-clause-memory_note
returns-in-Err-clause-memory_note g c = λ seven.
    memory-note c.in-Err.failure c.status.result _ _ _ _ c.status.ensures
    (noted _ _ _ _ _ c.write-in-Err.result (rw c.note.ensures at c.write-in-Err.ensures.taken) c.write-in-Err.ensures.cause) seven

pub returns-in-Err-clause-outcome : goal.returns-in-Err-clause-outcome
returns-in-Err-clause-outcome g c = λ not6 not7.
    outcome-lent c.args.words.now _ _ c.of.ensures (seen c.perform.new.host) _ _ (search rules) (search rules) c.status.result
    (failure-outcome c.args.words.now (command_value c.in-Some.command) c.in-Err.failure c.status.result _ _
    (rw c.in-Some.is at c.command-command.ensures.command) c.status.ensures c.in-Err.ensures.outcome c.in-Err.ensures.keeps.wrote_nothing not6 not7)

pub returns-in-Err-clause-note : goal.returns-in-Err-clause-note
returns-in-Err-clause-note g c = λ not6 not7.
    note-lent c.args.words.now _ _ c.of.ensures _
    (failure-note c.args.words.now (command_value c.in-Some.command) c.in-Err.failure c.status.result _ _
    (rw c.in-Some.is at c.command-command.ensures.command) c.status.ensures c.in-Err.ensures.outcome _ _ _ _
    (noted _ _ _ _ _ c.write-in-Err.result (rw c.note.ensures at c.write-in-Err.ensures.taken) c.write-in-Err.ensures.cause) not6 not7)

pub returns-in-Ok-clause-statuses : goal.returns-in-Ok-clause-statuses
returns-in-Ok-clause-statuses g c = ending-contained _ c.ending_status.result c.ending_status.ensures

pub returns-in-Err-clause-jam : goal.returns-in-Err-clause-jam
returns-in-Err-clause-jam g c = λ three. absurd (jam-failure c.in-Err.failure c.status.result c.status.ensures three)

pub returns-in-Ok-clause-jam : goal.returns-in-Ok-clause-jam
returns-in-Ok-clause-jam g c = λ three.
    subst IsRun (rw c.in-Some.is at c.command-command.ensures.command)
    (c.in-Ok.ensures.jam (ap Ok (jam-ending _ c.ending_status.result c.ending_status.ensures three)))

pub returns-in-Ok-clause-outcome : goal.returns-in-Ok-clause-outcome
returns-in-Ok-clause-outcome g c = λ not6 not7.
    outcome-lent c.args.words.now _ _ c.of.ensures (seen c.perform.new.host) _ _ (search rules) (search rules) c.ending_status.result
    (done-outcome c.args.words.now (command_value c.in-Some.command) c.in-Ok.ending c.ending_status.result _ _
    (rw c.in-Some.is at c.command-command.ensures.command) c.ending_status.ensures c.in-Ok.ensures.outcome)

pub returns-in-Ok-clause-note : goal.returns-in-Ok-clause-note
returns-in-Ok-clause-note g c = λ not6 not7.
    note-lent c.args.words.now _ _ c.of.ensures _
    (done-note c.args.words.now (command_value c.in-Some.command) c.in-Ok.ending _ _ _ _ (rw c.in-Some.is at c.command-command.ensures.command) c.in-Ok.ensures.outcome)

pub returns-in-Err-clause-stopped : goal.returns-in-Err-clause-stopped
returns-in-Err-clause-stopped g c = λ six.
    stopped-lent c.args.words.now _ _ c.of.ensures (seen c.perform.new.host) _ _ (search rules) (search rules)
    (failure-stopped c.args.words.now (command_value c.in-Some.command) c.in-Err.failure c.status.result _ _
    (rw c.in-Some.is at c.command-command.ensures.command) c.status.ensures c.in-Err.ensures.outcome six)
