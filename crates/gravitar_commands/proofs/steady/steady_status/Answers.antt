use Rattle.std.proofs.Common.{Some, ◌⊎◌, inl, inr, arith}
use Rattle.command_line.specs.CommandLine.{command_of}
use Rattle.outside_io.specs.Causes.{Rose}
use Rattle.outside_io.specs.Content.{content_of}
use Rattle.gravitar_commands.proofs.StageLaws.{comes-map}
use Rattle.gravitar_commands.proofs.steady.steady_status.Goals as goal

-- a count that is always 0 doesn't rise
no_rise : Rose 0 0 ⊎ Rose 0 0 → ⊥
no_rise (inl rose) = absurd (omega arith)
no_rise (inr rose) = absurd (omega arith)

pub returns-clause-defined : goal.returns-clause-defined
returns-clause-defined g c = λ unchanged not7.
    let defined = c.gravitar.ensures.outcome (λ six. no_rise (c.gravitar.ensures.fault six)) not7 in
    comes-map _ _ (command_of c.args.words.now) (Some (content_of c.args.shelf.now.files)) (λ outcome both. both.0) (rw unchanged at defined)
