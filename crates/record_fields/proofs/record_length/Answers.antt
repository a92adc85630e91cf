-- The lengths of the fields, in the order of the places; the bound is a law.
use native.Mathlib.Omega.{arith}
use mathlib.Core.Path.{ap, ◌∙◌}
use Rattle.record.specs.Record.{head_bytes, corrections_place, opening_place, commitment_place, record_end, record_bytes}
use Rattle.record.proofs.Bounds.{record-small}
use Rattle.record_fields.proofs.record_length.Goals as goal

pub returns : goal.returns
unfolding record_bytes record_end commitment_place opening_place corrections_place
returns c =
    let h = c.head_length-h.ensures.0 ∙ ap head_bytes c.version_for.ensures in
    let m = record-small c.args.s c.args.b c.requires.0 c.requires.1 in
    (omega (arith, h), omega (arith, h, m))
