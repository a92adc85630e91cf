-- Where the shape and the lengths are passed the challenge decides.
use mathlib.Core.Path.{refl, sym, ◌∙◌}
use Rattle.refusals.proofs.Numbers.{sizes-passed, plan-stops, challenge-decides}
use Rattle.refusals.proofs.Outcomes.{numbered, passed-on}
use Rattle.signer_refusals.proofs.test_open.Goals as goal

pub returns-in_err-test_sizes : goal.returns-in_err-test_sizes
returns-in_err-test_sizes c = rw (passed-on _ _ c.from_residual.ensures) (plan-stops _ _ _ _ c.in_err-test_sizes.ensures, λ z room. absurd (numbered _ z))

pub test_challenge-requires : goal.test_challenge-requires
test_challenge-requires c =
    let q = sizes-passed _ _ _ c.in_ok-test_sizes.ensures refl in
    (q.0, sym c.requires ∙ q.1.0)

pub returns : goal.returns
returns c =
    let answer = c.test_challenge.ensures in
    (challenge-decides _ _ _ c.in_ok-test_sizes.ensures _ _ refl answer.0, answer.1)
