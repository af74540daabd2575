use Rattle.std.proofs.Common.{◌∙◌, arith, rules}
use Rattle.std.proofs.lemmas.Grind.{common_steps}
use Rattle.command_calls.specs.Bytes.{all_named}
use Rattle.command_calls.proofs.AnswerLaws.{gives}
use Rattle.command_calls.proofs.answering.Performance.answer.Goals as goal

pub returns-clause-answers : goal.returns-clause-answers
returns-clause-answers c = λ _.
    let parts = c.in-Some-Some-Some in
    gives c.args.self.now.status c.args.self.now.out c.args.self.now.notes (all_named c.args.self.now.shelf.stores) parts.text.now parts.note.now parts.stores.now
    c.answer_len-used.result c.args.buffer.now c.fill.new.buffer _ _
    parts.ensures parts.ensures' (parts.ensures'' ∙ c.stores.ensures) c.fill.ensures c.if-buffer-used.false (first_of (search rules, grind (arith, common_steps)))
    c.answer_len-used.ensures c.report_number-2.ensures.number c.report_number-2.ensures.report
