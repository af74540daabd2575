use Rattle.std.proofs.Common.{refl}
use Rattle.save_state.specs.StateBytes.{channel_rows}
use Rattle.save_state.proofs.Tables.{written}
use Rattle.save_state.proofs.pokey.put_channels.Goals as goal

pub returns-clause-bytes : goal.returns-clause-bytes
returns-clause-bytes c =
    written channel_rows c.pokey.inside c.args.pokey.now _ _ c.pokey.view_is
    (rw (c.put.ensures.bytes, c.put-at-11.ensures.bytes, c.put-at-10.ensures.bytes, c.put-at-9.ensures.bytes, c.put-at-8.ensures.bytes, c.put-at-7.ensures.bytes)
    (rw (c.put-at-6.ensures.bytes, c.put-at-5.ensures.bytes, c.put-at-4.ensures.bytes, c.to_le_bytes-4.ensures, c.put-at-3.ensures.bytes, c.to_le_bytes-3.ensures)
    (rw (c.put-at-2.ensures.bytes, c.to_le_bytes-2.ensures, c.put-at.ensures.bytes, c.to_le_bytes.ensures) refl)))
