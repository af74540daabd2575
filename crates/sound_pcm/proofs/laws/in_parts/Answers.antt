use Rattle.sound_pcm.proofs.PartLaws.{taken_in_parts}
use Rattle.sound_pcm.proofs.laws.in_parts.Goals as goal

pub returns : goal.returns
returns c = taken_in_parts
