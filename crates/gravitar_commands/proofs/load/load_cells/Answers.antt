use Rattle.gravitar_commands.proofs.load.load_cells.Goals as goal

-- a file that came raised no count, and its reader knows none
pub returns-clause-faults : goal.returns-clause-faults
returns-clause-faults g c = rw c.in_ok-bytes.ensures.faults (c.read_cells.ensures.faults _)
