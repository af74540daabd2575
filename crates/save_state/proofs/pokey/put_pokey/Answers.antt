use Rattle.std.proofs.Common.{take, append_assoc}
use Rattle.std.specs.List.{concat}
use Rattle.std.proofs.lemmas.List.Folds.{concat-append}
use Rattle.save_state.specs.Fields.{pieces_of}
use Rattle.save_state.specs.StateBytes.{tone_rows, channel_rows}
use Rattle.save_state.proofs.pokey.put_pokey.Goals as goal

pub returns-clause-bytes : goal.returns-clause-bytes
returns-clause-bytes c =
    let tones = pieces_of tone_rows c.args.pokey.now in
    let channels = pieces_of channel_rows c.args.pokey.now in
    rw (c.put_channels.ensures.bytes, c.put_registers-at.ensures.bytes, concat-append tones channels) (append_assoc (take c.args.at c.args.out.now) (concat tones) (concat channels))
