-- Each way out is the first test that fails.
use Prim.Native.Nat.{◌≤◌}
use mathlib.Core.Path.{refl}
use native.Mathlib.Omega.{arith}
use borrow.Author.Tests.{le-leb, lt-leb}
use Rattle.laws.proofs.Tests.{failed, passed}
use Rattle.planning_laws.proofs.ShapeFacts.{shape-facts, by_level}
use Rattle.enumeration_text.specs.Listed.{open_bits}
use Rattle.enumeration.proofs.Readings.{open_is}
use Rattle.enumeration.proofs.shape_number.Goals as goal

pub returns-then-not-is_shape : goal.returns-then-not-is_shape
returns-then-not-is_shape c = rw (failed c.is_shape.ensures c.if-not-is_shape.true) refl

pub overflow_sub-s : goal.overflow_sub-s
overflow_sub-s c =
    let s = c.args.s in
    let f = shape-facts s (passed c.is_shape.ensures c.if-not-is_shape.false) in
    omega (arith, f.w-max, by_level (λ n. 128 ≤ n) (omega arith) (omega arith) (omega arith) s.level f.level-is)

pub returns-then-s-gt16 : goal.returns-then-s-gt16
returns-then-s-gt16 c =
    let s = c.args.s in
    rw (passed c.is_shape.ensures c.if-not-is_shape.false, lt-leb (open_bits s) 16 (omega (arith, open_is s, c.if-s-gt16.true))) refl

pub returns : goal.returns
returns c =
    let s = c.args.s in
    rw (passed c.is_shape.ensures c.if-not-is_shape.false, le-leb (open_bits s) 16 (omega (arith, open_is s, c.if-s-gt16.false))) refl
