use Rattle.std.proofs.Common.{length}
use Rattle.tape_ports.proofs.Reading.{ReadSoFar}
use Rattle.tape_ports.proofs.tape.Tape.read.Given as goal

abbrev pub invariant-lines : goal.invariant-lines
invariant-lines l = ReadSoFar l.bytes l.entries.items l.line l.before l.rest

abbrev pub decreases-lines : goal.decreases-lines
decreases-lines l = length l.rest
