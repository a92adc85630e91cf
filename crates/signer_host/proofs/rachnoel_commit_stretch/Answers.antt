-- The two laws of commit_stretch in `CommitStretch`.
use mathlib.Core.Path.{sym}
use lib.Seq.{length-take-le}
use borrow.Author.Rules.{rules}
use Rattle.signer_host.proofs.CommitStretch.{stretch-sized, stretch-host}
use Rattle.signer_host.proofs.rachnoel_commit_stretch.Goals as goal

pub slice_bounds-commit_stretch-end : goal.slice_bounds-commit_stretch-end
slice_bounds-commit_stretch-end c =
    let p = c.passed_on-n in
    sym (length-take-le p.result c.args.root.now p.ensures.1)

pub give-requires : goal.give-requires
give-requires c =
    let p = c.passed_on-n in
    stretch-sized _ _ _ _ _ _ _ c.args.count.now _ p.result p.ensures.0 c.commit_stretch-a.ensures

pub returns : goal.returns
returns c =
    let p = c.passed_on-n in
    rw c.give.ensures.0
    (stretch-host _ _ _ _ _ _ _ _ _ p.result p.ensures.0 c.commit_stretch-a.ensures _ c.give.ensures.1)
