use Rattle.std.proofs.Common.{◌-◌, ◌/◌, ◌≤◌, inr, arith}
use Rattle.pokey_chip.proofs.VoiceLaws.{last-most, last-step, step-some}
use Rattle.pokey_chip.proofs.voice.Voice.last_within.Goals as goal

pub returns : goal.returns
returns c =
    let some : 1 ≤ c.args.self.step = step-some c.args.self c.requires.timed (omega arith) in
    inr (record {
      more = (c.args.n - c.args.self.due) / c.args.self.step;
      steps = last-step c.args.self.due c.args.n c.args.self.step some (omega arith);
      reached = omega arith;
      last = λ m h. last-most c.args.self.due c.args.n c.args.self.step m some (omega arith) h;
    })
