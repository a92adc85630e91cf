-- The head's numbers fit their bytes.
use Rattle.record_writer.proofs.Putting.{head_bytes_lem}
use Rattle.record_writer.proofs.head_of.Goals as goal

pub returns : goal.returns
returns c =
    head_bytes_lem _ _ _ _ _ _ _ _ _ _ c.requires c.low_byte.ensures c.low_byte-2.ensures c.low_byte-3.ensures c.low_byte-4.ensures
    c.low_byte-5.ensures c.low_byte-6.ensures c.low_byte-7.ensures c.four_bytes-row.ensures
