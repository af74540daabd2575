use Rattle.std.proofs.Common.{◌⊎◌, inl, inr}
use Rattle.command_line.specs.CommandLine.{command_of}
use Rattle.outside_io.specs.Causes.{Rose}
use Rattle.outside_io.specs.Content.{content_of}
use Rattle.command_calls.proofs.PerformingLaws.{joined, no_rise}
use Rattle.command_calls.proofs.performing.perform.Goals as goal

neither : Rose 0 0 ⊎ Rose 0 0 → ⊥
neither (inl rose) = no_rise rose
neither (inr rose) = no_rise rose

pub returns-clause-does : goal.returns-clause-does
returns-clause-does c = λ not7.
    let did = c.gravitar.ensures.outcome (λ six. neither (c.gravitar.ensures.fault six)) not7 in
    let said = c.gravitar.ensures.note (λ six. neither (c.gravitar.ensures.fault six)) not7 in
    joined (command_of c.args.words.now) (content_of c.args.shelf.now.files) c.gravitar.result _ _ _
    (rw (c.requires.unchanged, c.requires.no_text, c.requires.no_store) at did)
    (rw (c.requires.unchanged, c.requires.no_note) at said)
