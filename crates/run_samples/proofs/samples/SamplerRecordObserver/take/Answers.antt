use Rattle.std.proofs.Common.{ℕ, ◌≤◌, arith, subst, sym}
use Rattle.board_base.specs.declared.part.Part.TheVariants.{Pokey1, Pokey2}
use Rattle.board_base.proofs.RecordLaws.{made-within}
use Rattle.sound_pcm.proofs.BetweenLaws.{levels_earlier, made_levels}
use Rattle.run_samples.proofs.samples.SamplerRecordObserver.take.Goals as goal

pub take-requires-clause-from : goal.take-requires-clause-from
take-requires-clause-from g c =
    omega (arith, c.requires.room.1.here, made-within Pokey1 c.requires.room.0 c.args.upto c.args.trails.now.sound1.now.records c.requires.room.1.made1)

-- the levels among what a POKEY made from the mixer's own clock on
pub take-requires-clause-made1 : goal.take-requires-clause-made1
take-requires-clause-made1 g c =
    levels_earlier _ c.requires.room.0 c.args.upto c.args.trails.now.sound1.now.records (subst (λ (n : ℕ). n ≤ c.requires.room.0) (sym c.requires.room.1.here) (omega arith))
    (made_levels Pokey1 c.requires.room.0 c.args.upto c.args.trails.now.sound1.now.records c.requires.room.1.made1)

pub take-requires-clause-made2 : goal.take-requires-clause-made2
take-requires-clause-made2 g c =
    levels_earlier _ c.requires.room.0 c.args.upto c.args.trails.now.sound2.now.records (subst (λ (n : ℕ). n ≤ c.requires.room.0) (sym c.requires.room.1.here) (omega arith))
    (made_levels Pokey2 c.requires.room.0 c.args.upto c.args.trails.now.sound2.now.records c.requires.room.1.made2)
