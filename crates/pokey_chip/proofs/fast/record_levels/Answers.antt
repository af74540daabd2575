use Rattle.std.proofs.Common.{ℕ, ap, ◌∙◌}
use Rattle.pokey_chip.specs.Tones.{levels_on}
use Rattle.pokey_chip.proofs.RecordLemmas.{quiet-trail}
use Rattle.pokey_chip.proofs.fast.record_levels.Goals as goal

pub returns-then-before-on-clause-records : goal.returns-then-before-on-clause-records
returns-then-before-on-clause-records c =
    let h = rw c.in-Some.is at c.requires.last_on in
    quiet-trail c.args.trail.now c.args.clock c.args.last.now (levels_on c.args.on c.args.audc.now)
    (h ∙ ap (λ (b : ℕ). levels_on b c.args.audc.now) c.if-before-on.true)
