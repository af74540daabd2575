use Rattle.std.proofs.Common.{ap, ◌∙◌}
use Rattle.cycle_profile.specs.Profile.{after_turn, charged}
use Rattle.cycle_profile.proofs.NoteLaws.{noted-none, noted-some}
use Rattle.cycle_profile.proofs.profile.Profile.take_note.Goals as goal

pub returns-then-note-eq0 : goal.returns-then-note-eq0
returns-then-note-eq0 c = λ trace is. noted-none c.args.self.now _ trace c.args.pc (c.note.view_is ∙ is) c.if-note-eq0.true

pub returns : goal.returns
returns c = λ trace is. noted-some c.args.self.now c.charge.new.self c.turn.new.self _ trace c.args.pc (c.note.view_is ∙ is) c.if-note-eq0.false
    (c.charge.ensures ∙ ap (λ n. charged c.args.self.now n c.accesses.result) c.from.ensures ∙ ap (charged c.args.self.now c.note.inside.clocks) c.accesses.ensures)
    (c.turn.ensures ∙ ap (λ t. after_turn t c.args.pc c.charge.new.self) c.turn_by.ensures)
