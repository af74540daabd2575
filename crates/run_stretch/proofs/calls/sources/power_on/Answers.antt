use Rattle.std.proofs.Common.{ap, ◌∙◌}
use Rattle.run_stretch.specs.Answers.{put_in}
use Rattle.run_stretch.proofs.calls.sources.power_on.Goals as goal

pub returns-clause-done : goal.returns-clause-done
returns-clause-done c = λ enough. (c.number-2.ensures, c.put.ensures ∙ ap (λ bytes. put_in bytes c.args.board.now) c.power_on.ensures)
