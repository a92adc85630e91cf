-- The two laws of `Checked`.
use Prim.Native.Nat.{ℕ}
use mathlib.Core.Path.{refl, sym, ap, ap₂, ◌∙◌}
use lib.Seq.{length-take-le}
use Rattle.spec.specs.Calls.{count_given}
use Rattle.spec.specs.HostCalls.{count_slice}
use Rattle.broker_host.proofs.Checked.{checked-sized, checked-host}
use Rattle.broker_host.proofs.rachnoel_check_record.Goals as goal

pub slice_bounds-check_record-end-2 : goal.slice_bounds-check_record-end-2
slice_bounds-check_record-end-2 c =
    let p = c.passed_on-n in
    sym (length-take-le p.result c.args.tree.now p.ensures.1)

pub give-requires : goal.give-requires
give-requires c h =
    let p = c.passed_on-n in
    let g = c.args in
    let n = c.counting_number.ensures in
    checked-sized _ (record { tree = g.tree.now; leaf_commitments = g.leaf_commitments.now; q = g.q.now }) g.count.now p.result p.ensures.0 _ _ c.check_record-a.ensures
    (sym (ap count_given n) ∙ h)

pub returns : goal.returns
returns c =
    let p = c.passed_on-n in
    let n = c.counting_number.ensures in
    checked-host _ _ _ p.result p.ensures.0 _ _ c.check_record-a.ensures _
    (c.give.ensures.1 ∙ ap₂ (λ (i j : ℕ). count_slice i j c.args.count.now) n refl)
