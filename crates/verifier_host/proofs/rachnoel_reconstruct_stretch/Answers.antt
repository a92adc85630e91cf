-- The two laws of reconstruct_stretch in `ReconstructStretch`.
use mathlib.Core.Path.{sym}
use lib.Seq.{length-take-le}
use Rattle.verifier_host.proofs.ReconstructStretch.{stretch-sized, stretch-host}
use Rattle.verifier_host.proofs.rachnoel_reconstruct_stretch.Goals as goal

pub slice_bounds-reconstruct_stretch-end : goal.slice_bounds-reconstruct_stretch-end
slice_bounds-reconstruct_stretch-end c =
    let p = c.passed_on-n in
    sym (length-take-le p.result c.args.iv.now p.ensures.1)

pub give-requires : goal.give-requires
give-requires c =
    let p = c.passed_on-n in
    stretch-sized _ _ _ _ _ _ _ _ _ c.args.count.now _ p.result p.ensures.0 c.reconstruct_stretch-a.ensures

pub returns : goal.returns
returns c =
    let p = c.passed_on-n in
    rw c.give.ensures.0
    (stretch-host _ _ _ _ _ _ _ _ _ _ _ p.result p.ensures.0 c.reconstruct_stretch-a.ensures _ c.give.ensures.1)
