use Rattle.outside_io.proofs.text_sink.TextSinkSink.write.Goals as goal

pub returns-in-Err-clause-part : goal.returns-in-Err-clause-part
returns-in-Err-clause-part g c = (c.in-Err.field-0.taken, rw (← c.self.view_is) c.in-Err.ensures.part)
