use Rattle.pokey_chip.proofs.VoiceLaws.{near}
use Rattle.pokey_chip.proofs.voice.Voice.left.Goals as goal

pub pulse_at-requires : goal.pulse_at-requires
pulse_at-requires c = near c.args.self.clock_source c.args.self.due c.args.self.first c.args.n c.requires.left.most c.requires.n
