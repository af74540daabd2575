use Rattle.std.proofs.Common.{◌-◌, ◌/◌, ◌≤◌, arith}
use Rattle.pokey_chip.proofs.VoiceLaws.{last-step, step-back, step-some}
use Rattle.pokey_chip.proofs.voice.Voice.last_set.Goals as goal

pub loop-at-init : goal.loop-at-init
loop-at-init c =
    let some : 1 ≤ c.args.self.step = step-some c.args.self c.requires.timed (omega arith) in
    ((c.args.reach - c.args.self.due) / c.args.self.step, last-step c.args.self.due c.args.reach c.args.self.step some (omega arith), omega arith)

pub loop-at-preserved : goal.loop-at-preserved
loop-at-preserved c =
    let back = step-back c.args.self.due c.args.self.step c.loop-at.invariant.0 c.loop-at.at c.loop-at.invariant.1 (omega arith) in
    (c.loop-at.invariant.0 - 1, back.0, omega arith)
