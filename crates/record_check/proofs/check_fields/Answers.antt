-- The five fields that the reader hands out are those that the record says.
use Rattle.record.proofs.Reading.{read-fields}
use Rattle.record_reading.proofs.Fronts.{fields-room, contents-are}
use Rattle.record_check.proofs.check_fields.Goals as goal

pub fields_of-p-requires : goal.fields_of-p-requires
fields_of-p-requires c = fields-room c.args.«record».now c.args.z c.requires.1 (read-fields c.args.«record».now c.requires.2)

pub returns : goal.returns
returns c =
    let g = c.args in
    let p = c.requires in
    let e = c.fields_of-p.ensures in
    c.check_parts.ensures g.«record».now p.2 (rw (e.0, e.1, e.2, e.3, e.4) (contents-are g.«record».now g.z p.1 g.f p.0))
