-- The row length is what `number4` reads.
use Rattle.record.specs.Record.{row_in}
use Rattle.record_fields.proofs.row_in.Goals as goal

pub returns : goal.returns
unfolding row_in
returns c = c.number4.ensures
