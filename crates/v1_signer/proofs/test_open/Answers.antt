-- Where the shape is allowed the lengths decide.
use mathlib.Core.Path.{refl, sym, ◌∙◌}
use Rattle.spec.specs.Version1Calls.{open1_number}
use Rattle.refusals.specs.Refusal.{number_of}
use Rattle.refusals.proofs.Outcomes.{test-passed, test-failed, last-test, passed-on}
use Rattle.v1_rules.proofs.Numbers.{shape-parts}
use Rattle.v1_signer.proofs.test_open.Goals as goal

pub returns-in_err-test : goal.returns-in_err-test
unfolding number_of open1_number
returns-in_err-test c =
    let q = test-failed _ _ _ c.in_err-test.ensures in
    rw (passed-on _ _ c.from_residual.ensures, q.1, ← c.is_shape.ensures, q.0) refl

pub open_fits-requires : goal.open_fits-requires
open_fits-requires c = (shape-parts _ (sym c.is_shape.ensures ∙ test-passed _ _ c.in_ok-test.ensures)).0

pub returns : goal.returns
unfolding number_of open1_number
returns c = rw (← c.is_shape.ensures, test-passed _ _ c.in_ok-test.ensures) (rw c.open_fits.ensures at (last-test _ _ _ c.test-2.ensures))
