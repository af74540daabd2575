use Rattle.std.proofs.Common.{[], refl, ap, ◌∙◌}
use Rattle.run_stretch.specs.Answers.{put_in}
use Rattle.command_calls.specs.Bytes.{number_bytes}
use Rattle.command_calls.specs.Answers.{IsFilled}
use Rattle.command_calls.proofs.AnswerLaws.{one_after_the_other}
use Rattle.command_calls.proofs.answering.fill.Goals as goal

pub returns : goal.returns
returns c =
    let whole = c.args.buffer.now in
    let none : IsFilled [] 0 whole whole = record { until = refl; is = refl } in
    let first = c.put_number-at_text_len.ensures.filled _ whole none in
    let second = c.put_number-at_note_len.ensures.filled _ whole first in
    let third = c.put_number-at_stores_len.ensures.filled _ whole second in
    let fourth = c.put_number-at_text.ensures.filled _ whole third in
    let fifth = c.put-at_note.ensures.filled _ whole fourth in
    let sixth = c.put-at_stores.ensures.filled _ whole fifth in
    let last = c.put-end.ensures.filled _ whole sixth in
    last.is ∙ ap (λ l. put_in l whole) (one_after_the_other _ _ _ _ c.args.status c.args.text.now c.args.note.now c.args.stores.now (ap number_bytes c.from.ensures) refl refl refl)
