use Rattle.command_calls.specs.Requests.{text_read}
use Rattle.command_calls.proofs.ReadLaws.{HaveRead}
use Rattle.command_calls.proofs.reading.read_words.Given as goal

-- so many words were read
abbrev pub invariant-loop : goal.invariant-loop
invariant-loop l = HaveRead text_read l.count l.counter l.bytes l.words l.rest
