use Rattle.std.proofs.Common.{◌≡◌}
use Rattle.command_calls.specs.Requests.{file_read}
use Rattle.command_calls.proofs.ReadLaws.{HaveRead}
use Rattle.command_calls.proofs.reading.read_files.Given as goal

-- so many files were read
abbrev pub invariant-loop : goal.invariant-loop
invariant-loop l = HaveRead file_read l.count l.counter l.bytes l.shelf.files l.rest × (l.shelf ≡ record l.initial.shelf { files = l.shelf.files })
