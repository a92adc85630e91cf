-- The length, then the bytes.
use mathlib.Core.Path.{refl}
use native.Mathlib.Omega.{arith}
use Rattle.record_writer.proofs.Putting.{put_then, put-copied}
use Rattle.laws.proofs.BigEndian.{length-big-endian}
use Rattle.record.specs.Fields.{field_of}
use Rattle.record_writer.proofs.put_field.Goals as goal

pub returns : goal.returns
unfolding field_of
returns c = (
  omega arith,
  put_then 4 (length-big-endian 4 _) (put-copied _ _ _ _ _ _ 4 c.four_bytes-length.ensures (omega arith) (length-big-endian 4 _) c.copy_part.ensures)
      (put-copied _ _ _ _ _ _ _ refl (omega arith) refl c.copy_part-2.ensures),
)
