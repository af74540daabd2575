use Rattle.std.specs.Prelude.{Some}
use Rattle.outside_io.specs.Content.{content_of}
use Rattle.command_line.specs.CommandLine.{command_of}
use Rattle.gravitar_commands.proofs.StageLaws.{comes-map}
use Rattle.command_calls.proofs.AnswerLaws.{answers_outcome}
use Rattle.command_calls.proofs.answering.answer_words.Goals as goal

pub returns-clause-answers : goal.returns-clause-answers
returns-clause-answers c = λ not7.
    comes-map _ _ (command_of c.args.words.now) (Some (content_of c.args.shelf.files))
    (λ outcome did. answers_outcome outcome _ _ _ _ _ did c.perform-status.ensures.no_fault (c.answer.ensures.answers not7))
    (c.perform-status.ensures.does c.if-status-eq7.false)
