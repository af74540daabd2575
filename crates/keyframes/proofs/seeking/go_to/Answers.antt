use Rattle.std.proofs.Common.{arith, subst, sym, ◌∙◌}
use Rattle.lockstep_board.specs.Lockstep.{Board}
use Rattle.keyframes.specs.Seeking.{Along, IsOnRun, run_start}
use Rattle.keyframes.proofs.SeekLaws.{begins, seek-before, seek-board, seek-done}
use Rattle.keyframes.proofs.seeking.go_to.Goals as goal

pub returns-clause-board : goal.returns-clause-board
returns-clause-board g c =
    let found = c.start_index-nearest.ensures in
    c.run_on.ensures.board ∙ seek-board c.args.keys.now.kept _ c.start_index-nearest.result found.rising found.within found.nearest found.first
    c.args.clock (omega arith) c.args.tape.now.entries (g.M.Machine.value c.args.synced.now.machine.now).board
    (g.M.Machine.value c.load_kept.new.synced.machine.now).board c.requires.along c.load_kept.ensures.board

pub returns-clause-on_run : goal.returns-clause-on_run
returns-clause-on_run g c =
    let started = begins _ _ (g.M.Machine.value c.args.synced.now.machine.now).board _ _ c.requires.along c.start_index-nearest.ensures.within c.load_kept.ensures.board in
    subst (λ (b : Board). IsOnRun c.args.tape.now.entries b (g.M.Machine.value c.run_on.new.synced.machine.now).board) started.start
    (c.run_on.ensures.on_run (run_start c.args.keys.now.kept (g.M.Machine.value c.load_kept.new.synced.machine.now).board) started.on_run)

pub returns-clause-same : goal.returns-clause-same
returns-clause-same g c =
    c.run_on.ensures.same c.args.keys.now.kept c.requires.along.some
    ∙ (begins _ _ (g.M.Machine.value c.args.synced.now.machine.now).board _ _ c.requires.along c.start_index-nearest.ensures.within c.load_kept.ensures.board).start

pub returns-clause-along : goal.returns-clause-along
returns-clause-along g c = subst (Along c.args.keys.now.kept c.args.tape.now.entries) (sym (returns-clause-same g c)) c.requires.along

pub returns-clause-done : goal.returns-clause-done
returns-clause-done g c =
    let found = c.start_index-nearest.ensures in
    seek-done c.args.keys.now.kept c.args.clock c.start_index-nearest.result found.rising found.within found.nearest found.first
    (g.M.Machine.value c.args.synced.now.machine.now).board _ _ _ _ _ c.load_kept.ensures.board c.load_kept.ensures.done c.run_on.ensures.done

pub returns-clause-before : goal.returns-clause-before
returns-clause-before g c =
    let found = c.start_index-nearest.ensures in
    seek-before c.args.keys.now.kept c.args.clock c.start_index-nearest.result found.rising found.within found.nearest found.first
    c.args.tape.now.entries (g.M.Machine.value c.args.synced.now.machine.now).board _ _ _ _ _ c.load_kept.ensures.board c.load_kept.ensures.done c.run_on.ensures.done
    c.requires.along (returns-clause-board g c)
