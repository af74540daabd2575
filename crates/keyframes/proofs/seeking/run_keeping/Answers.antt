use Rattle.std.proofs.Common.{◌∙◌, arith, refl, sym}
use Rattle.keyframes.specs.Seeking.{run_start}
use Rattle.keyframes.proofs.AlongLaws.{between, part-ended, part-last, part-rest}
use Rattle.keyframes.proofs.SeekLaws.{stride-smaller}
use Rattle.keyframes.proofs.seeking.run_keeping.Goals as goal

pub strides-init : goal.strides-init
strides-init g c = record {
  loan = refl;
  along = c.requires.along;
  on_run = c.requires.on_run;
  same = refl;
  rest = refl;
  done = omega arith;
}

pub strides-preserved : goal.strides-preserved
strides-preserved g c =
    let b = run_start c.args.keys.now.kept (g.M.Machine.value c.args.synced.now.machine.now).board in
    let inv = c.strides.invariant in
    let on_run = c.run_on.ensures.on_run b inv.on_run in
    record {
      loan = c.run_on.ensures.loan ∙ inv.loan;
      along = c.keep_if_due.ensures.along c.args.tape.now.entries b inv.along on_run;
      on_run = on_run;
      same = c.keep_if_due.ensures.first (g.M.Machine.value c.run_on.new.synced.machine.now).board ∙ c.run_on.ensures.same c.strides.keys.kept inv.along.some ∙ inv.same;
      rest = part-rest _ _ _ _ c.run_on.ensures.board c.args.clock (omega (arith, c.min-next.ensures)) ∙ inv.rest;
      done = omega (arith, inv.done, c.run_on.ensures.done);
    }

pub strides-smaller : goal.strides-smaller
strides-smaller g c =
    let next = (g.M.Machine.value c.run_on.new.synced.machine.now).board in
    let b = run_start c.args.keys.now.kept (g.M.Machine.value c.args.synced.now.machine.now).board in
    let inv = c.strides.invariant in
    let along = c.keep_if_due.ensures.along c.args.tape.now.entries b inv.along (c.run_on.ensures.on_run b inv.on_run) in
    stride-smaller c.strides.keys.kept c.keep_if_due.new.keys.kept c.args.clock c.args.stride c.due_clock.result c.min-next.result next.peripherals.clock
    inv.along.some along.some (omega (arith, c.requires.limit)) c.due_clock.ensures c.min-next.ensures c.keep_if_due.ensures.near
    (between next.cpu.jam c.min-next.result c.args.clock next.peripherals.clock (part-ended _ _ _ _ c.run_on.ensures.board) (sym c.is_reached.ensures ∙ c.if-is_reached.false))

pub returns-then-is_reached : goal.returns-then-is_reached
returns-then-is_reached g c =
    let b = run_start c.args.keys.now.kept (g.M.Machine.value c.args.synced.now.machine.now).board in
    let inv = c.strides.invariant in
    record {
      loan = c.run_on.ensures.loan ∙ inv.loan;
      board = part-last _ _ _ _ c.run_on.ensures.board c.args.clock _ (sym c.is_reached.ensures ∙ c.if-is_reached.true)
          (part-rest _ _ _ _ c.run_on.ensures.board c.args.clock (omega (arith, c.min-next.ensures)) ∙ inv.rest);
      same = c.keep_if_due.ensures.first (g.M.Machine.value c.run_on.new.synced.machine.now).board ∙ c.run_on.ensures.same c.strides.keys.kept inv.along.some ∙ inv.same;
      along = c.keep_if_due.ensures.along c.args.tape.now.entries b inv.along (c.run_on.ensures.on_run b inv.on_run);
      done = omega (arith, inv.done, c.run_on.ensures.done);
      near = c.keep_if_due.ensures.near;
    }
