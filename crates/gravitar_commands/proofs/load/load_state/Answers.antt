use Rattle.gravitar_commands.proofs.ReadingLaws.{absences-after, state-came}
use Rattle.gravitar_commands.proofs.load.load_state.Goals as goal

pub returns-clause-content : goal.returns-clause-content
returns-clause-content g c =
    state-came (g.S.Shelf.files c.args.shelf.now) c.args.name.now c.in_ok-bytes.bytes.items c.deref.result.now c.read_state.result c.in_ok-bytes.ensures.content
    c.deref.ensures.value c.read_state.ensures.content

-- a file that came raised no count, and its reader knows none
pub returns-clause-faults : goal.returns-clause-faults
returns-clause-faults g c = rw c.in_ok-bytes.ensures.faults (c.read_state.ensures.faults _)

pub returns-clause-absences : goal.returns-clause-absences
returns-clause-absences g c = absences-after _ _ c.read_state.result c.in_ok-bytes.ensures.absences (c.read_state.ensures.absences _)
