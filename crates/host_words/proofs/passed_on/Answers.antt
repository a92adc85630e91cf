-- By the test of the length.
use native.Mathlib.Omega.{arith}
use mathlib.Core.Path.{refl}
use borrow.Author.Tests.{eq-eqb, ne_eqb}
use Rattle.host_words.proofs.passed_on.Goals as goal

pub returns-then-count-eq4 : goal.returns-then-count-eq4
returns-then-count-eq4 c = (rw (eq-eqb _ _ c.if-count-eq4.true) refl, omega arith)

pub returns : goal.returns
returns c = (rw (ne_eqb _ _ c.if-count-eq4.false) refl, omega arith)
