use Rattle.std.proofs.Common.{◌∙◌, refl}
use Rattle.gravitar_commands.specs.declared.cause.Cause.TheVariants.{State}
use Rattle.save_state.proofs.OneReading.{one_reading}
use Rattle.gravitar_commands.proofs.ReadingLaws.{bad-absences, refused-as}
use Rattle.gravitar_commands.proofs.load.read_state.Goals as goal

pub returns-in-Ok-clause-content : goal.returns-in-Ok-clause-content
returns-in-Ok-clause-content c = λ reading is. rw (one_reading c.args.bytes.now reading c.read.result is c.read.ensures.reads ∙ c.in-Ok.is) refl

pub returns-in-Err-clause-content : goal.returns-in-Err-clause-content
returns-in-Err-clause-content c = λ reading is.
    rw (one_reading c.args.bytes.now reading c.read.result is c.read.ensures.reads ∙ c.in-Err.is)
    (refused-as c.args.name.now (State c.in-Err.fault) c.bad.result c.bad.ensures)

pub returns-in-Err-clause-absences : goal.returns-in-Err-clause-absences
returns-in-Err-clause-absences c = λ n. bad-absences _ n c.bad.result c.bad.ensures
