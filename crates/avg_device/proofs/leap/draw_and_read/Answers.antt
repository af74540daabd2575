-- The word after a draw follows the clocks of the draw.
use Rattle.std.proofs.Common.{◌≡◌, ◌≤◌, ◌+◌, length, refl, sym, ap, ◌∙◌, arith}
use Rattle.board_base.proofs.ExtendedLaws.{Extended-more}
use Rattle.board_base.proofs.TickLaws.{made-add, ticks-add}
use Rattle.board_base.specs.Ticks.{made, ticks}
use Rattle.board_base.specs.Trail.{Extended}
use Rattle.board_base.specs.Vg.{VgValue}
use Rattle.avg_device.proofs.Leaps.{draw_made, draw_ticks, drawn_whole}
use Rattle.avg_device.proofs.ManyTicks.{vg_made-few}
use Rattle.avg_device.specs.Tick.{ended, vg_gives, vg_tick}
use Rattle.avg_device.proofs.leap.draw_and_read.Goals as goal

pub returns-then-drawn-most-clause-state : goal.returns-then-drawn-most-clause-state
returns-then-drawn-most-clause-state c =
    let draw = c.draw_on-drawn in
    let v : VgValue = c.args.state.now in
    let within : draw.result ≤ v.left = omega (arith, draw.ensures.clocks) in
    draw.ensures.state
    ∙ sym (draw_ticks c.args.memory.now c.args.clock draw.result v c.requires.running c.requires.phase draw.ensures.some within)
    ∙ ap (λ n. ticks (vg_tick c.args.memory.now) c.args.clock n v) c.if-drawn-most.true

pub returns-then-drawn-most-clause-records : goal.returns-then-drawn-most-clause-records
returns-then-drawn-most-clause-records c =
    let draw = c.draw_on-drawn in
    let v : VgValue = c.args.state.now in
    let within : draw.result ≤ v.left = omega (arith, draw.ensures.clocks) in
    rw (
      ← c.if-drawn-most.true,
      draw_made c.args.memory.now c.args.clock draw.result v c.requires.running c.requires.phase draw.ensures.some within,
    ) draw.ensures.records

pub read_on-requires-clause-running : goal.read_on-requires-clause-running
unfolding ended
read_on-requires-clause-running c =
    let draw = c.draw_on-drawn in
    ap (λ (v : VgValue). v.halted) (draw.ensures.state ∙ drawn_whole draw.result c.args.state.now (omega (arith, draw.ensures.clocks, c.if-drawn-most.false)))
    ∙ c.requires.running

pub read_on-requires-clause-phase : goal.read_on-requires-clause-phase
unfolding ended
read_on-requires-clause-phase c =
    let draw = c.draw_on-drawn in
    ap (λ (v : VgValue). v.phase) (draw.ensures.state ∙ drawn_whole draw.result c.args.state.now (omega (arith, draw.ensures.clocks, c.if-drawn-most.false)))

pub read_on-requires-clause-room : goal.read_on-requires-clause-room
read_on-requires-clause-room c =
    let draw = c.draw_on-drawn in
    let v : VgValue = c.args.state.now in
    let within : draw.result ≤ v.left = omega (arith, draw.ensures.clocks) in
    omega (
      arith,
      ap (λ l. length l) (draw_made c.args.memory.now c.args.clock draw.result v c.requires.running c.requires.phase draw.ensures.some within),
      vg_made-few c.args.memory.now c.args.clock draw.result v,
      draw.ensures.records.spare,
      c.requires.room,
      draw.ensures.clocks,
    )

pub returns-clause-state : goal.returns-clause-state
returns-clause-state c =
    let draw = c.draw_on-drawn in
    let v : VgValue = c.args.state.now in
    let within : draw.result ≤ v.left = omega (arith, draw.ensures.clocks) in
    rw (
      ticks-add,
      draw_ticks c.args.memory.now c.args.clock draw.result v c.requires.running c.requires.phase draw.ensures.some within,
      ← draw.ensures.state,
    ) c.read_on.ensures.state

pub returns-clause-records : goal.returns-clause-records
returns-clause-records c =
    let draw = c.draw_on-drawn in
    let v : VgValue = c.args.state.now in
    let within : draw.result ≤ v.left = omega (arith, draw.ensures.clocks) in
    rw (
      made-add,
      draw_made c.args.memory.now c.args.clock draw.result v c.requires.running c.requires.phase draw.ensures.some within,
      draw_ticks c.args.memory.now c.args.clock draw.result v c.requires.running c.requires.phase draw.ensures.some within,
      ← draw.ensures.state,
    ) (Extended-more draw.ensures.records c.read_on.ensures.records)
