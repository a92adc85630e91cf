-- The parts one behind another fill the record.
use mathlib.Core.Path.{◌≡◌, sym, ◌∙◌}
use native.Mathlib.Omega.{arith}
use lib.ListN.{length}
use Rattle.record_writer.proofs.Putting.{put_record, put_whole, length-record}
use Rattle.record.specs.Record.{Contents}
use Rattle.record_writer.proofs.write_fields.Goals as goal

pub returns : goal.returns
returns c =
    let g = c.args in
    let said : Contents = record { shape = g.shape; row = g.row_bits; iv = g.iv.now; challenge = g.challenge.now; corrections = g.corrections.now; opening = g.opening.now; commitment = g.commitment.now } in
    let same : length c.put_field.new.out ≡ length g.«record».now = omega arith in
    put_whole
    (put_record said _ _ _ _ _ c.put_front-two.ensures.0 c.put_field-three.ensures.0 c.put_field-four.ensures.0 c.put_field-five.ensures.0 c.put_field-six.ensures.0 c.put_front-two.ensures.1
    c.put_field-three.ensures.1 c.put_field-four.ensures.1 c.put_field-five.ensures.1 c.put_field-six.ensures.1 c.put_field.ensures.1)
    (same ∙ (c.requires.1 ∙ sym (length-record said)))
