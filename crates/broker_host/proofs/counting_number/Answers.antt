-- By the test.
use mathlib.Core.Path.{refl, sym}
use borrow.Author.Tests.{ne_eqb}
use Rattle.broker_host.proofs.counting_number.Goals as goal

pub returns-then-number-eq11 : goal.returns-then-number-eq11
returns-then-number-eq11 c = sym (rw c.if-number-eq11.true refl)

pub returns : goal.returns
returns c = sym (rw (ne_eqb _ 11 c.if-number-eq11.false) refl)
