use Rattle.gravitar_commands.proofs.assembling.load_source.Goals as goal

-- a file that came raised no count, and its reader knows none
pub returns-clause-faults : goal.returns-clause-faults
returns-clause-faults g c = rw c.in_ok-bytes.ensures.faults (c.read_source.ensures.faults _)
