use Rattle.save_state.specs.StateBytes.{tone_rows}
use Rattle.save_state.proofs.Tables.{written}
use Rattle.save_state.proofs.pokey.put_registers.Goals as goal

pub returns-clause-bytes : goal.returns-clause-bytes
returns-clause-bytes c = written tone_rows c.pokey.inside c.args.pokey.now _ _ c.pokey.view_is cc
