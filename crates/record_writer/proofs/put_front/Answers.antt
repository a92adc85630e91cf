-- The version, then the head as a field. The part of the head's array that is lent is the head.
use native.Mathlib.Omega.{arith}
use mathlib.Core.Path.{sym, ap, ◌∙◌}
use Prim.Native.Nat.{ℕ}
use lib.ListN.{length, take}
use Rattle.record.specs.Record.{head_bytes}
use Rattle.record.proofs.ReadBack.{head-length}
use Rattle.record_writer.proofs.Putting.{put-version}
use Rattle.record_writer.proofs.put_front.Goals as goal

pub slice_bounds-put_field-end : goal.slice_bounds-put_field-end
slice_bounds-put_field-end c =
    let g = c.args in
    let n = c.head_length-h.ensures.0 ∙ ap head_bytes c.version_for-version.ensures in
    n ∙ sym (ap (λ (m : ℕ). length (take m c.head_of-head.result)) n ∙ ap length c.head_of-head.ensures ∙ head-length g.s g.n)

pub put_field-requires : goal.put_field-requires
put_field-requires c =
    let n = c.head_length-h.ensures.0 ∙ ap head_bytes c.version_for-version.ensures in
    let l = ap (λ (m : ℕ). length (take m c.head_of-head.result)) n ∙ ap length c.head_of-head.ensures in
    omega (arith, c.requires.1)

pub returns : goal.returns
returns c =
    let n = c.head_length-h.ensures.0 ∙ ap head_bytes c.version_for-version.ensures in
    let is = ap (λ (m : ℕ). take m c.head_of-head.result) n ∙ c.head_of-head.ensures in
    let l = ap length is in
    (omega (arith, c.put_field.ensures.0), put-version _ _ (c.byte.ensures ∙ c.version_for-version.ensures) is c.put_version.ensures c.put_field.ensures.1)
