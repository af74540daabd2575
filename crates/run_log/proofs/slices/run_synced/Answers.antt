use Rattle.std.proofs.Common.{◌≡◌, length, arith, refl, ◌∙◌}
use Rattle.std.proofs.lemmas.Result.{err_from_is_err_and}
use Rattle.outside_io.specs.Hosts.{seen}
use Rattle.run_log.specs.Slices.{wanted_in}
use Rattle.run_log.proofs.CutLaws.{cuts-start, cuts-on, cuts-stopped, cuts-ended, cuts-board, cuts-calls, cuts-cut}
use Rattle.outside_io.proofs.EventLaws.{always_on_ok, on_ok, on_err}
use Rattle.run_log.proofs.slices.run_synced.Goals as goal

pub loop-cut-init : goal.loop-cut-init
loop-cut-init g c = (
  refl,
  cuts-start c.args.tape.now.entries c.args.limit (wanted_in c.args.wanted) c.args.cuts.now (g.M.Machine.value c.args.synced.now.machine.now) _
      c.args.synced.now.is_synced,
)

pub returns-in_err-cut_slice-clause-stopped : goal.returns-in_err-cut_slice-clause-stopped
returns-in_err-cut_slice-clause-stopped g c =
    rw (err_from_is_err_and c.from_residual.result c.from_residual.ensures.1).1
    (cuts-stopped _ _ _ _ _ _ _ _ _ c.loop-cut.invariant.1 c.min.result c.min.ensures c.loop-cut-test.true (seen c.cut_slice.new.host)
    c.in_err-cut_slice.ensures.stopped)

pub loop-cut-preserved : goal.loop-cut-preserved
loop-cut-preserved g c = (
  c.cut_slice.ensures.same ∙ c.loop-cut.invariant.0,
  cuts-on _ _ _ _ _ _ _ _ _ c.loop-cut.invariant.1 c.min.result c.min.ensures c.loop-cut-test.true (g.M.Machine.value c.cut_slice.new.synced.machine.now) _
      c.in_ok-cut_slice.ensures.done c.in_ok-cut_slice.ensures.keeps.loans c.in_ok-cut_slice.ensures.keeps.faults c.in_ok-cut_slice.ensures.keeps.absences
      c.in_ok-cut_slice.ensures.board c.cut_slice.new.synced.is_synced c.in_ok-cut_slice.ensures.most c.in_ok-cut_slice.ensures.least,
)

pub returns-clause-done : goal.returns-clause-done
returns-clause-done g c =
    let all : c.loop-cut.cut-index ≡ length c.args.cuts.now = (let low = c.loop-cut-test.false in let high = c.loop-cut.auto.cut-index-end in omega arith) in
    on_ok c.end_slice.result
    (cuts-ended _ _ _ _ _ _ _ _ _ c.loop-cut.invariant.1 all (g.M.Machine.value c.end_slice.new.synced.machine.now).calls (seen c.end_slice.new.host))
    c.end_slice.ensures.done

pub returns-clause-stopped : goal.returns-clause-stopped
returns-clause-stopped g c =
    let all : c.loop-cut.cut-index ≡ length c.args.cuts.now = (let low = c.loop-cut-test.false in let high = c.loop-cut.auto.cut-index-end in omega arith) in
    on_err c.end_slice.result
    (cuts-cut _ _ _ _ _ _ _ _ _ c.loop-cut.invariant.1 all (g.M.Machine.value c.end_slice.new.synced.machine.now) (seen c.end_slice.new.host)
    c.end_slice.ensures.calls c.end_slice.ensures.more)
    c.end_slice.ensures.stopped

pub returns-clause-board : goal.returns-clause-board
returns-clause-board g c =
    let all : c.loop-cut.cut-index ≡ length c.args.cuts.now = (let low = c.loop-cut-test.false in let high = c.loop-cut.auto.cut-index-end in omega arith) in
    on_ok c.end_slice.result
    (cuts-board _ _ _ _ _ _ _ _ _ c.loop-cut.invariant.1 all (g.M.Machine.value c.end_slice.new.synced.machine.now).board)
    c.end_slice.ensures.board

pub returns-clause-calls : goal.returns-clause-calls
returns-clause-calls g c =
    let all : c.loop-cut.cut-index ≡ length c.args.cuts.now = (let low = c.loop-cut-test.false in let high = c.loop-cut.auto.cut-index-end in omega arith) in
    always_on_ok c.end_slice.result
    (cuts-calls _ _ _ _ _ _ _ _ _ c.loop-cut.invariant.1 all (g.M.Machine.value c.end_slice.new.synced.machine.now) c.end_slice.ensures.calls
    c.end_slice.ensures.more)
