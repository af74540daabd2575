use Rattle.std.proofs.Common.{arith, subst, sym, ◌∙◌}
use Rattle.keyframes.specs.Seeking.{Along}
use Rattle.keyframes.proofs.SeekLaws.{begins, seek-before, seek-board, seek-done}
use Rattle.keyframes.proofs.seeking.seek_synced.Goals as goal

pub run_keeping-requires-clause-along : goal.run_keeping-requires-clause-along
run_keeping-requires-clause-along g c =
    (begins _ _ (g.M.Machine.value c.args.synced.now.machine.now).board _ _ c.requires.along c.start_index-index.ensures.within c.load_kept.ensures.board).along

pub run_keeping-requires-clause-on_run : goal.run_keeping-requires-clause-on_run
run_keeping-requires-clause-on_run g c =
    (begins _ _ (g.M.Machine.value c.args.synced.now.machine.now).board _ _ c.requires.along c.start_index-index.ensures.within c.load_kept.ensures.board).on_run

pub returns-clause-board : goal.returns-clause-board
returns-clause-board g c =
    let found = c.start_index-index.ensures in
    c.run_keeping.ensures.board ∙ seek-board c.args.keys.now.kept _ c.start_index-index.result found.rising found.within found.nearest found.first
    c.args.clock (omega arith) c.args.tape.now.entries (g.M.Machine.value c.args.synced.now.machine.now).board
    (g.M.Machine.value c.load_kept.new.synced.machine.now).board c.requires.along c.load_kept.ensures.board

pub returns-clause-same : goal.returns-clause-same
returns-clause-same g c =
    c.run_keeping.ensures.same
    ∙ (begins _ _ (g.M.Machine.value c.args.synced.now.machine.now).board _ _ c.requires.along c.start_index-index.ensures.within c.load_kept.ensures.board).start

pub returns-clause-along : goal.returns-clause-along
returns-clause-along g c = subst (Along c.run_keeping.new.keys.kept c.args.tape.now.entries) (sym c.run_keeping.ensures.same) c.run_keeping.ensures.along

pub returns-clause-done : goal.returns-clause-done
returns-clause-done g c =
    let found = c.start_index-index.ensures in
    seek-done c.args.keys.now.kept c.args.clock c.start_index-index.result found.rising found.within found.nearest found.first
    (g.M.Machine.value c.args.synced.now.machine.now).board _ _ _ _ _ c.load_kept.ensures.board c.load_kept.ensures.done c.run_keeping.ensures.done

pub returns-clause-before : goal.returns-clause-before
returns-clause-before g c =
    let found = c.start_index-index.ensures in
    seek-before c.args.keys.now.kept c.args.clock c.start_index-index.result found.rising found.within found.nearest found.first
    c.args.tape.now.entries (g.M.Machine.value c.args.synced.now.machine.now).board _ _ _ _ _ c.load_kept.ensures.board c.load_kept.ensures.done c.run_keeping.ensures.done
    c.requires.along (returns-clause-board g c)
