use Rattle.std.proofs.Common.{length}
use Rattle.debug_script.proofs.Reading.{ReadSoFar}
use Rattle.debug_script.proofs.script.read_script.Given as goal

abbrev pub invariant-lines : goal.invariant-lines
invariant-lines l = ReadSoFar l.text l.commands.items l.stops l.number l.rest

abbrev pub decreases-lines : goal.decreases-lines
decreases-lines l = length l.rest
