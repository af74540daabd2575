use Rattle.outside_io.proofs.GatherLaws.{gathers-err}
use Rattle.sound_pcm.proofs.mixer.Mixer.hold.Goals as goal

pub returns-in_err-add-clause-taken : goal.returns-in_err-add-clause-taken
returns-in_err-add-clause-taken g c =
    gathers-err _ _ _ _ _ c.from_residual.ensures.0
    (rw (← c.self.view_is, ← c.loudness.ensures.sum, ← c.loudness-2.ensures.sum) c.in_err-add.ensures.taken)
