-- The part of the buffer that is lent has the commitment's length.
use lib.Seq.{length-take-le}
use mathlib.Core.Path.{sym, ap, ◌∙◌}
use Rattle.spec.specs.Shapes.{hash_bytes}
use Rattle.record_check.proofs.check_parts.Goals as goal

-- the part that is lent
pub slice_bounds-compared-end : goal.slice_bounds-compared-end
slice_bounds-compared-end c = sym (length-take-le c.hash_bytes-n.result _ c.hash_bytes-n.ensures.1)

pub compared-requires : goal.compared-requires
compared-requires c =
    let pre = c.requires in
    length-take-le c.hash_bytes-n.result _ c.hash_bytes-n.ensures.1 ∙ c.hash_bytes-n.ensures.0 ∙ ap hash_bytes pre.1

pub returns : goal.returns
returns c = c.compared.ensures
