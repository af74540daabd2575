-- Each line's command takes the definition one line on, or ends it.
use Rattle.std.proofs.Common.{◌≡◌, ◌∷◌, ◌++◌, [], ◌<◌, length, sym, ◌∙◌, arith}
use Rattle.std.proofs.lemmas.Grind.{common_steps}
use Rattle.debug_script.proofs.Reading.{so_far-all, so_far-bad, so_far-command, so_far-empty}
use Rattle.debug_script.proofs.script.read_script.Goals as goal

pub lines-preserved-then-is_empty : goal.lines-preserved-then-is_empty
lines-preserved-then-is_empty c =
    so_far-empty _ _ _ _ _ _ _ c.lines.invariant c.read_line.ensures.lines c.read_line.ensures.shorter (grind (arith, common_steps))

pub returns-in_default-clause-reads : goal.returns-in_default-clause-reads
returns-in_default-clause-reads c =
    let some : 0 < length c.read_line.result.0.now = grind (arith, common_steps) in (
      omega arith,
      so_far-bad _ _ _ _ _ _ _ c.lines.invariant c.read_line.ensures.lines c.read_line.ensures.shorter some
          (sym c.in_default.is ∙ c.read_next.ensures.command),
    )

pub lines-preserved : goal.lines-preserved
lines-preserved c =
    let some : 0 < length c.read_line.result.0.now = grind (arith, common_steps) in
    let pushed : c.push.new.self.items ≡ c.lines.commands.items ++ c.in-Some.command ∷ [] = grind (arith, common_steps) in
    rw (pushed, c.note.ensures)
    (so_far-command _ _ _ _ _ _ _ c.lines.invariant c.read_line.ensures.lines c.read_line.ensures.shorter c.in-Some.command some
    (sym c.in-Some.is ∙ c.read_next.ensures.command) c.in-Some.ensures.few)

pub returns-clause-reads : goal.returns-clause-reads
returns-clause-reads c =
    (omega arith, (so_far-all _ _ _ _ _ c.lines.invariant (grind (arith, common_steps))).script)

pub returns-clause-fits : goal.returns-clause-fits
returns-clause-fits c = (so_far-all _ _ _ _ _ c.lines.invariant (grind (arith, common_steps))).fit
