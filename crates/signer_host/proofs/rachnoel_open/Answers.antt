-- The two laws of open in `Open`.
use mathlib.Core.Path.{sym}
use lib.Seq.{length-take-le}
use borrow.Author.Rules.{rules}
use Rattle.signer_host.proofs.Open.{open-sized, open-host}
use Rattle.signer_host.proofs.rachnoel_open.Goals as goal

pub slice_bounds-open-end : goal.slice_bounds-open-end
slice_bounds-open-end c =
    let p = c.passed_on-n in
    sym (length-take-le p.result c.args.challenge.now p.ensures.1)

pub give-requires : goal.give-requires
give-requires c =
    let p = c.passed_on-n in
    open-sized _ _ _ _ _ _ c.args.count.now _ p.result p.ensures.0 c.open-a.ensures

pub returns : goal.returns
returns c =
    let p = c.passed_on-n in
    rw c.give.ensures.0
    (open-host _ _ _ _ _ _ _ _ p.result p.ensures.0 c.open-a.ensures _ c.give.ensures.1)
