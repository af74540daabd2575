use Rattle.std.proofs.Common.{find, ap, sym, ◌∙◌}
use Rattle.std.specs.Option.{option_map}
use Rattle.catchup_engine.specs.StopConditions.{has_changed}
use Rattle.catchup_engine.specs.declared.stop_conditions.WatchedByte.{WatchedByte}
use Rattle.board_debug.specs.declared.stop_reason.StopReason.TheVariants.{Watch}
use Rattle.board_debug.proofs.WatchLaws.{watch-is}
use Rattle.board_debug.proofs.looks.Before.look_at_watches.Goals as goal

pub returns-in-Some : goal.returns-in-Some
returns-in-Some g c = λ before watches are.
    let board = (g.M.Machine.value c.args.synced.now.machine.now).board in
    ap (option_map (λ (byte : WatchedByte). Watch byte.address)) (sym c.in-Some.is ∙ c.changed.ensures ∙ ap (find (has_changed board.peripherals)) are)
    ∙ watch-is before board watches

pub returns-in-None : goal.returns-in-None
returns-in-None g c = λ before watches are.
    let board = (g.M.Machine.value c.args.synced.now.machine.now).board in
    ap (option_map (λ (byte : WatchedByte). Watch byte.address)) (sym c.in-None.is ∙ c.changed.ensures ∙ ap (find (has_changed board.peripherals)) are)
    ∙ watch-is before board watches
