-- Where the shape and the lengths are passed the challenge decides.
use mathlib.Core.Path.{refl}
use Rattle.refusals.proofs.Numbers.{sizes-passed, plan-stops, challenge-decides}
use Rattle.refusals.proofs.Outcomes.{numbered, passed-on}
use Rattle.plan_refusals.proofs.test_plan.Goals as goal

pub returns-in_err-test_list : goal.returns-in_err-test_list
returns-in_err-test_list c = rw (passed-on _ _ c.from_residual.ensures) (plan-stops _ _ _ _ c.in_err-test_list.ensures, λ z room. absurd (numbered _ z))

pub test_challenge-requires : goal.test_challenge-requires
test_challenge-requires c = (let q = sizes-passed _ _ _ c.in_ok-test_list.ensures refl in (q.0, q.1.0))

pub returns : goal.returns
returns c =
    let answer = c.test_challenge.ensures in
    (challenge-decides _ _ _ c.in_ok-test_list.ensures _ _ refl answer.0, answer.1)
