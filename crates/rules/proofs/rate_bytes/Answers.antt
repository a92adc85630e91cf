-- By the same test as the definition.
use native.Mathlib.Omega.{arith}
use borrow.Author.Tests.{eq-eqb, ne_eqb}
use Rattle.spec.specs.Shapes.{level, rate}
use Rattle.rules.proofs.rate_bytes.Goals as goal

pub returns-then-s-eq128 : goal.returns-then-s-eq128
unfolding rate level
returns-then-s-eq128 c = (simp (eq-eqb _ 128 c.if-s-eq128.true), omega arith, omega arith)

pub returns-else-s-eq128 : goal.returns-else-s-eq128
unfolding rate level
returns-else-s-eq128 c = (simp (ne_eqb _ 128 c.if-s-eq128.false), omega arith, omega arith)
