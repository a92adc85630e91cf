-- By the test.
use mathlib.Core.Path.{refl}
use native.Mathlib.Omega.{arith}
use borrow.Author.Tests.{le-leb, lt-leb}
use Rattle.enumeration.proofs.one_within.Goals as goal

pub returns-then-count-t : goal.returns-then-count-t
returns-then-count-t c = (let a = c.args in rw (le-leb a.count a.t (omega (arith, c.if-count-t.true))) (refl, omega arith))

pub returns-else-count-t : goal.returns-else-count-t
returns-else-count-t c = (let a = c.args in rw (lt-leb a.count a.t (omega (arith, c.if-count-t.false))) (refl, omega arith))
