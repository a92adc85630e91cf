-- The first byte is set.
use Rattle.record_writer.proofs.Putting.{put_first}
use Rattle.record_writer.proofs.put_version.Goals as goal

pub returns : goal.returns
returns c = put_first _ _ c.requires
