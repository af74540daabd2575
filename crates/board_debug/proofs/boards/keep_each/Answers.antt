use Rattle.std.proofs.Common.{refl, ap, ◌∙◌, subst, sym}
use Rattle.lockstep_board.specs.Order.{cleared}
use Rattle.lockstep_board.specs.Lockstep.{Board}
use Rattle.lockstep_board.specs.Run.{to_clock}
use Rattle.keyframes.specs.Seeking.{Along, run_start}
use Rattle.board_debug.proofs.OneRunLaws.{roomy, way-begins, way-cost, way-on}
use Rattle.board_debug.proofs.boards.keep_each.Goals as goal

pub loop-next-init : goal.loop-next-init
loop-next-init g c = record {
  loan = refl;
  same = refl;
  along = c.requires.along;
  way = λ room.
      way-begins c.args.tape.now.entries c.args.clocks.now (run_start c.args.keys.now.kept (g.M.Machine.value c.args.synced.now.machine.now).board)
      (g.M.Machine.value c.args.synced.now.machine.now).done c.args.keys.now
      c.clock_of-last.result room c.requires.along c.clock_of-last.ensures;
}

pub loop-next-preserved : goal.loop-next-preserved
loop-next-preserved g c =
    let entries = c.args.tape.now.entries in
    let inv = c.loop-next.invariant in
    let b = run_start c.loop-next.keys.kept (g.M.Machine.value c.loop-next.synced.machine.now).board in
    let start = c.keep_board.ensures.first (g.M.Machine.value c.go_to.new.synced.machine.now).board ∙ c.go_to.ensures.same in
    record {
      loan = c.go_to.ensures.loan ∙ inv.loan;
      same = start ∙ inv.same;
      along = subst (Along c.keep_board.new.keys.kept entries) (sym start) (c.keep_board.ensures.along entries b inv.along c.go_to.ensures.on_run);
      way = λ room.
          let way = inv.way room in
          let start' = run_start c.args.keys.now.kept (g.M.Machine.value c.args.synced.now.machine.now).board in
          let board = c.go_to.ensures.board ∙ ap (λ (from : Board). cleared (to_clock entries c.in-Some.next from)) inv.same in
          let found = c.in-Some.ensures in
          way-on entries c.args.clocks.now start' (g.M.Machine.value c.go_to.new.synced.machine.now).board
          (g.M.Machine.value c.args.synced.now.machine.now).done (g.M.Machine.value c.loop-next.synced.machine.now).done
          (g.M.Machine.value c.go_to.new.synced.machine.now).done
          c.loop-next.last c.in-Some.next c.loop-next.keys c.keep_board.new.keys way found board c.go_to.ensures.done
          (c.keep_board.ensures.roomy
          (roomy entries c.args.clocks.now start' (g.M.Machine.value c.go_to.new.synced.machine.now).board
          (g.M.Machine.value c.args.synced.now.machine.now).done (g.M.Machine.value c.loop-next.synced.machine.now).done
          (g.M.Machine.value c.go_to.new.synced.machine.now).done
          c.loop-next.last c.in-Some.next c.loop-next.keys c.keep_board.new.keys way found board c.go_to.ensures.done));
    }

pub returns-clause-done : goal.returns-clause-done
returns-clause-done g c = λ room most all.
    way-cost c.args.tape.now.entries c.args.clocks.now (run_start c.args.keys.now.kept (g.M.Machine.value c.args.synced.now.machine.now).board) (g.M.Machine.value c.args.synced.now.machine.now).done
    (g.M.Machine.value c.loop-next.synced.machine.now).done c.loop-next.last c.loop-next.keys (c.loop-next.invariant.way room) most all
