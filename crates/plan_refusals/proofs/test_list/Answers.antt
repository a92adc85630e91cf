-- Where the shape is allowed the lengths decide.
use mathlib.Core.Path.{sym, ◌∙◌}
use Rattle.refusals.specs.Refusal.{number_of}
use Rattle.refusals.proofs.Numbers.{shape-stops, sizes-decide}
use Rattle.refusals.proofs.Outcomes.{test-passed, test-failed, last-test, passed-on}
use Rattle.plan_refusals.proofs.test_list.Goals as goal

pub returns-in_err-test : goal.returns-in_err-test
unfolding number_of
returns-in_err-test c =
    let q = test-failed _ _ _ c.in_err-test.ensures in
    rw (passed-on _ _ c.from_residual.ensures, q.1) (shape-stops _ _ (sym c.is_shape.ensures ∙ q.0))

pub list_fits-requires : goal.list_fits-requires
list_fits-requires c = sym c.is_shape.ensures ∙ test-passed _ _ c.in_ok-test.ensures

pub returns : goal.returns
unfolding number_of
returns c =
    sizes-decide _ _ _ (sym c.is_shape.ensures ∙ test-passed _ _ c.in_ok-test.ensures) (rw c.list_fits.ensures at (last-test _ _ _ c.test-2.ensures))
