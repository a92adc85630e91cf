-- With a number nothing is written; where every test is passed, the record is.
use mathlib.Core.Path.{refl, sym, ap, ◌∙◌}
use Rattle.spec.specs.Shapes.{shape_ok}
use Rattle.refusals.proofs.Outcomes.{numbered}
use Rattle.record_writer.proofs.Answers.{room, accepted, refused, written, uncounted}
use Rattle.record_writer.proofs.write_record.Goals as goal

pub write_fields-requires : goal.write_fields-requires
write_fields-requires c =
    let g = c.args in
    let q = accepted c.resolve.result (record { shape = g.shape; row = g.row_bits; iv = g.iv.now; challenge = g.challenge.now; corrections = g.corrections.now; opening = g.opening.now; commitment = g.commitment.now })
    g.«record».now c.in-Ok.ensures in
    (sym (ap shape_ok c.resolve.ensures) ∙ q.0, room c.resolve.result _ g.«record».now c.resolve.ensures q.1)

pub returns-in-Ok : goal.returns-in-Ok
returns-in-Ok c = written _ _ c.resolve.ensures _ _ c.in-Ok.ensures refl _ refl c.write_fields.ensures

pub returns-in-Err : goal.returns-in-Err
returns-in-Err c =
    let g = c.args in
    let none = uncounted c.resolve.result (record { shape = g.shape; row = g.row_bits; iv = g.iv.now; challenge = g.challenge.now; corrections = g.corrections.now; opening = g.opening.now; commitment = g.commitment.now })
    g.«record».now _ c.in-Err.ensures in
    rw c.from.ensures (refused _ _ c.resolve.ensures _ _ c.in-Err.ensures none (numbered _))
