use Rattle.std.proofs.Common.{ap, ◌∙◌}
use Rattle.run_summary.specs.Summary.{tally_of}
use Rattle.run_summary.proofs.SummaryLaws.{summary-tallied}
use Rattle.run_summary.proofs.summary.Summary.of.Goals as goal

pub returns-clause-summary : goal.returns-clause-summary
returns-clause-summary c =
    summary-tallied _ _ _ _ _
    (c.of-vector.ensures.tally ∙ ap tally_of c.records.ensures.records)
    (c.of-sound1.ensures.tally ∙ ap tally_of c.records-2.ensures.records)
    (c.of-sound2.ensures.tally ∙ ap tally_of c.records-3.ensures.records)
    (c.of-board.ensures.tally ∙ ap tally_of c.records-4.ensures.records)
