use Rattle.run_stretch.proofs.calls.stretches.pcm.Goals as goal

pub returns-clause-answer : goal.returns-clause-answer
returns-clause-answer c = λ within some longest. record {
  came = c.sample-came.result;
  comes = rw (← c.is_so.ensures) c.sample-came.ensures.comes;
  answers = c.answer.ensures;
}
