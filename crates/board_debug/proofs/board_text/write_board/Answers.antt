use Rattle.std.proofs.Common.{◌++◌, ap, ◌∙◌}
use Rattle.std.proofs.lemmas.Result.{err_from_is_err_and}
use Rattle.board_base.specs.Board.{BoardValue}
use Rattle.outside_io.specs.Known.{grown}
use Rattle.outside_io.proofs.TakesLaws.{took_first, took_then, takes-then}
use Rattle.board_debug.specs.BoardText.{board_text, devices_text, place_text, registers_text}
use Rattle.board_debug.proofs.board_text.write_board.Goals as goal

pub returns-in_err-write_registers-clause-taken : goal.returns-in_err-write_registers-clause-taken
unfolding board_text
returns-in_err-write_registers-clause-taken g c =
    let b = c.args.state.now in
    let p = err_from_is_err_and c.from_residual.result c.from_residual.ensures.1 in
    rw p.1 (took_first _ _ (registers_text b) (place_text b.cpu ++ devices_text b) c.in_err-write_registers.ensures.taken)

pub returns-in_err-write_place-clause-taken : goal.returns-in_err-write_place-clause-taken
unfolding board_text
returns-in_err-write_place-clause-taken g c =
    let b = c.args.state.now in
    let p = err_from_is_err_and c.from_residual-in_err-write_place.result c.from_residual-in_err-write_place.ensures.1 in
    rw p.1
    (took_then _ _ _ (registers_text b) (place_text b.cpu ++ devices_text b) c.in_ok-write_registers.ensures.taken
    (took_first _ _ (place_text b.cpu) (devices_text b) (rw (← c.state.view_is) c.in_err-write_place.ensures.taken)))

pub returns-clause-taken : goal.returns-clause-taken
unfolding board_text
returns-clause-taken g c =
    let b = c.args.state.now in
    takes-then _ _ _ (registers_text b) (place_text b.cpu ++ devices_text b) c.write_devices.result c.in_ok-write_registers.ensures.taken
    (takes-then _ _ _ (place_text b.cpu) (devices_text b) c.write_devices.result
    (c.in_ok-write_place.ensures.taken ∙ ap (λ (v : BoardValue). grown (g.O.Sink.taken c.write_registers.new.out) (place_text v.cpu)) c.state.view_is)
    c.write_devices.ensures.taken)
