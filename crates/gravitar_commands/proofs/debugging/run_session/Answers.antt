use Rattle.std.proofs.Common.{arith, refl}
use Rattle.board_debug.specs.declared.fault.DebugFault.TheVariants.{BadCommand, SinkFault}
use Rattle.gravitar_commands.proofs.StageLaws.{bad-keeps, debugs-as, session-bad, session-cut, session-done}
use Rattle.gravitar_commands.proofs.debugging.run_session.Goals as goal

pub returns-in-Ok-clause-outcome : goal.returns-in-Ok-clause-outcome
returns-in-Ok-clause-outcome g c =
    let ran = c.in-Ok.ensures in
    session-done c.args.wired c.args.name.now c.args.script.now c.args.parts.now _ _ c.requires.length refl ran.0 c.in_ok-engine.engine.board c.in_ok-engine.ensures.board
    ran.1 ran.2.text

pub returns-in-Err-BadCommand-clause-outcome : goal.returns-in-Err-BadCommand-clause-outcome
returns-in-Err-BadCommand-clause-outcome g c =
    let line = c.in-Err-BadCommand.line in
    let ran = debugs-as c.args.parts.now.tape c.args.script.now c.in_ok-engine.engine _ _ _ _ _ _ (BadCommand line) c.in-Err-BadCommand.field-0-is c.in-Err-BadCommand.ensures in
    session-bad c.args.wired c.args.name.now c.args.script.now c.args.parts.now _ _ c.requires.length refl line c.bad.result ran.0 c.bad.ensures

pub returns-in-Err-BadCommand-clause-keeps : goal.returns-in-Err-BadCommand-clause-keeps
returns-in-Err-BadCommand-clause-keeps g c =
    let line = c.in-Err-BadCommand.line in
    let ran = debugs-as c.args.parts.now.tape c.args.script.now c.in_ok-engine.engine _ _ _ _ _ _ (BadCommand line) c.in-Err-BadCommand.field-0-is c.in-Err-BadCommand.ensures in
    bad-keeps _ _ _ c.bad.result c.bad.ensures (record { shelf = refl; out = refl }) (ran.1.text, refl) (refl, ran.1.faults) (omega arith)

pub returns-in-Err-SinkFault-clause-outcome : goal.returns-in-Err-SinkFault-clause-outcome
returns-in-Err-SinkFault-clause-outcome g c =
    let ran = debugs-as c.args.parts.now.tape c.args.script.now c.in_ok-engine.engine _ _ _ _ _ _ SinkFault c.in-Err-SinkFault.field-0-is c.in-Err-SinkFault.ensures in
    session-cut c.args.wired c.args.name.now c.args.script.now c.args.parts.now _ _ c.requires.length refl ran.0 c.in_ok-engine.engine.board c.in_ok-engine.ensures.board
    ran.1 ran.2.text
