use Rattle.run_stretch.proofs.calls.stretches.advance.Goals as goal

pub returns-clause-answer : goal.returns-clause-answer
returns-clause-answer c = λ within. record {
  came = c.advance-came.result;
  comes = rw (← c.is_so.ensures, ← c.end-until.ensures.until) c.advance-came.ensures.comes;
  answers = c.answer.ensures;
}
