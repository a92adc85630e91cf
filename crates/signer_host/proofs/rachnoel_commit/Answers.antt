-- The two laws of commit in `Commit`.
use mathlib.Core.Path.{sym}
use lib.Seq.{length-take-le}
use borrow.Author.Rules.{rules}
use Rattle.signer_host.proofs.Commit.{commit-sized, commit-host}
use Rattle.signer_host.proofs.rachnoel_commit.Goals as goal

pub slice_bounds-commit-end : goal.slice_bounds-commit-end
slice_bounds-commit-end c =
    let p = c.passed_on-n in
    sym (length-take-le p.result c.args.root.now p.ensures.1)

pub give-requires : goal.give-requires
give-requires c =
    let p = c.passed_on-n in
    commit-sized _ _ _ _ _ _ c.args.count.now _ p.result p.ensures.0 c.commit-a.ensures

pub returns : goal.returns
returns c =
    let p = c.passed_on-n in
    rw c.give.ensures.0
    (commit-host _ _ _ _ _ _ _ _ p.result p.ensures.0 c.commit-a.ensures _ c.give.ensures.1)
