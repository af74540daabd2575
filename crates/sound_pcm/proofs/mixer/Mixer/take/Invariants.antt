use Rattle.std.proofs.Common.{◌≡◌, ◌+◌, ◌++◌, length}
use Rattle.outside_io.specs.Gathering.{IsGathered}
use Rattle.sound_pcm.specs.Mixing.{samples_of, mixed}
use Rattle.sound_pcm.specs.Samples.{bytes_of}
use Rattle.sound_pcm.proofs.MixLaws.{MayTake}
use Rattle.sound_pcm.proofs.mixer.Mixer.take.Given as goal

-- what is left may be taken; the samples of all records are those that were gathered and those of
-- the records that are left, and so is the mixer after them; no call failed
abbrev pub invariant-loop-part : goal.invariant-loop-part
invariant-loop-part g l = let all = l.fn.trails in record {
  may : MayTake l.self l.sound1 l.sound2 l.upto;
  gathered : IsGathered (g.O.Sink.taken l.fn.out) (g.O.Sink.taken l.out)
      (bytes_of (samples_of l.fn.self all.sound1.now.records all.sound2.now.records l.upto))
      (l.block ++ bytes_of (samples_of l.self l.sound1 l.sound2 l.upto));
  state : mixed l.fn.self all.sound1.now.records all.sound2.now.records l.upto
      ≡ mixed l.self l.sound1 l.sound2 l.upto;
  faults : g.O.Sink.faults l.out ≡ g.O.Sink.faults l.fn.out;
}

abbrev pub decreases-loop-part : goal.decreases-loop-part
decreases-loop-part g l = length l.sound1 + length l.sound2
