-- Where the front and the lengths are passed the opening decides.
use mathlib.Core.Path.{refl, sym, ◌∙◌}
use Rattle.refusals.proofs.Numbers.{lengths-passed, reconstruct-stops, opening-decides}
use Rattle.refusals.proofs.Outcomes.{passed-on}
use Rattle.verifier_refusals.proofs.test_reconstruct.Goals as goal

pub returns-in_err-test_sizes : goal.returns-in_err-test_sizes
returns-in_err-test_sizes c = rw (passed-on _ _ c.from_residual.ensures) (reconstruct-stops _ _ _ _ _ _ _ c.in_err-test_sizes.ensures)

pub test_opening-requires : goal.test_opening-requires
test_opening-requires c =
    let q = lengths-passed _ _ _ _ _ c.in_ok-test_sizes.ensures refl in
    let p = c.requires in
    (q.0, sym p.0 ∙ q.2.1.0, sym p.1 ∙ q.2.1.1.1.0)

pub returns : goal.returns
returns c = opening-decides _ _ _ _ _ c.in_ok-test_sizes.ensures _ _ _ refl c.test_opening.ensures
