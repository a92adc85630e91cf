-- Each way out of the call is one law of `Answers`, by the tests that led there.
use mathlib.Core.Path.{refl}
use Rattle.laws.proofs.Tests.{failed, passed}
use Rattle.record_check.proofs.Answers.{check-work, check-eleven, check-accepted}
use Rattle.record_check.proofs.compared.Goals as goal

pub returns-then-r-ne0 : goal.returns-then-r-ne0
returns-then-r-ne0 c rec ok is =
    let pre = c.requires in
    check-work _ _ _ pre _ c.reconstruct-r.ensures rec ok is c.if-r-ne0.true

pub returns-then-not-same_bytes : goal.returns-then-not-same_bytes
returns-then-not-same_bytes c rec ok is =
    let pre = c.requires in
    check-eleven _ _ _ pre _ c.reconstruct-r.ensures rec ok is c.if-r-ne0.false _ (failed c.same_bytes.ensures c.if-not-same_bytes.true) (refl, refl)

pub returns : goal.returns
returns c rec ok is =
    let pre = c.requires in
    check-accepted _ _ _ pre _ c.reconstruct-r.ensures rec ok is c.if-r-ne0.false (passed c.same_bytes.ensures c.if-not-same_bytes.false)
