use Rattle.run_stretch.proofs.calls.stretches.records.Goals as goal

pub returns-clause-answer : goal.returns-clause-answer
returns-clause-answer c = λ within. record {
  came = c.records-came.result;
  comes = rw (← c.is_so.ensures, ← c.end-until.ensures.until) c.records-came.ensures.comes;
  answers = c.answer.ensures;
}
