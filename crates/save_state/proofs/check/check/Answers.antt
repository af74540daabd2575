use Rattle.std.proofs.Common.{◌+◌, All, subst, arith, take_all}
use Rattle.std.proofs.lemmas.List.Elements.{All-more}
use Rattle.save_state.specs.declared.bytes.Field.{Field}
use Rattle.save_state.specs.declared.bytes.Kind.TheVariants.{Any}
use Rattle.save_state.specs.Check.{IsInRange}
use Rattle.save_state.proofs.Tables.{held, first_broken}
use Rattle.save_state.proofs.check.check.Goals as goal

pub loop-at-preserved : goal.loop-at-preserved
loop-at-preserved c =
    All-more (λ (f : Field). IsInRange c.args.version c.args.file.now (c.args.base + f.0) f.1) c.args.fields.now c.loop-at.at-index (0, Any 0)
    c.loop-at-test.true c.loop-at.invariant (c.is_in_range.ensures.0 c.if-not-is_in_range.false)

pub returns-then-not-is_in_range : goal.returns-then-not-is_in_range
returns-then-not-is_in_range c = λ rows e.
    first_broken c.args.version c.args.file.now c.args.base c.args.fields.now rows c.loop-at.at-index e c.loop-at-test.true c.loop-at.invariant
    (λ h. let e = c.is_in_range.ensures.1 h in absurd cc)

pub returns : goal.returns
returns c = λ rows e. held c.args.version c.args.file.now c.args.base c.args.fields.now rows e
    (subst (All (λ (f : Field). IsInRange c.args.version c.args.file.now (c.args.base + f.0) f.1)) (take_all c.loop-at.at-index c.args.fields.now (omega arith)) c.loop-at.invariant)
