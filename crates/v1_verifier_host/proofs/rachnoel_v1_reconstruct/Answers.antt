-- The two laws of reconstruct in `Reconstruct`.
use mathlib.Core.Path.{sym}
use lib.Seq.{length-take-le}
use borrow.Author.Rules.{rules}
use Rattle.v1_verifier_host.proofs.Reconstruct.{reconstruct-sized, reconstruct-host}
use Rattle.v1_verifier_host.proofs.rachnoel_v1_reconstruct.Goals as goal

pub slice_bounds-reconstruct-end : goal.slice_bounds-reconstruct-end
slice_bounds-reconstruct-end c =
    let p = c.passed_on-n in
    sym (length-take-le p.result c.args.iv.now p.ensures.1)

pub give-requires : goal.give-requires
give-requires c =
    let p = c.passed_on-n in
    reconstruct-sized _ _ _ _ _ _ _ _ c.args.count.now _ p.result p.ensures.0 c.reconstruct-a.ensures

pub returns : goal.returns
returns c =
    let p = c.passed_on-n in
    rw c.give.ensures.0
    (reconstruct-host _ _ _ _ _ _ _ _ _ _ p.result p.ensures.0 c.reconstruct-a.ensures _ c.give.ensures.1)
