use Rattle.std.proofs.Common.{append_assoc}
use Rattle.log_text.specs.RecordBytes.{record_row}
use Rattle.log_text.proofs.record_bytes.RecordRow.set.Goals as goal

pub returns-clause-bytes : goal.returns-clause-bytes
unfolding record_row
returns-clause-bytes c =
    rw (c.put_number.ensures.bytes, c.put_pair-3.ensures.bytes, c.put_pair-2.ensures.bytes, c.put_pair.ensures.bytes, c.begin.ensures.bytes) (simp append_assoc)
