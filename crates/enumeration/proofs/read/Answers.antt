-- An input that is no line gives 7, any other what the tests of its shape give.
use mathlib.Core.Path.{sym, ap, ◌∙◌}
use native.Mathlib.Omega.{arith}
use Rattle.spec.specs.Shapes.{resolved}
use Rattle.laws.proofs.Tests.{failed, passed}
use Rattle.listing_line.proofs.Lines.{shape-line-numbers}
use Rattle.enumeration.proofs.Readings.{shape_number, unreadable, read_number, readable}
use Rattle.enumeration.proofs.read.Goals as goal

pub returns-then-not-shape_line_ok : goal.returns-then-not-shape_line_ok
returns-then-not-shape_line_ok c =
    let input = c.args.input.now in (
      record { small = omega arith; shape = λ z. absurd (omega arith) },
      record { number = sym (unreadable input (failed c.shape_line_ok.ensures c.if-not-shape_line_ok.true)); shape = λ z. absurd (omega arith) },
    )

pub shape_of-requires : goal.shape_of-requires
shape_of-requires c = shape-line-numbers _ (passed c.shape_line_ok.ensures c.if-not-shape_line_ok.false)

pub returns : goal.returns
returns c =
    let input = c.args.input.now in
    let shape = c.resolve-s.ensures ∙ ap resolved c.shape_of.ensures in
    let number = c.shape_number-number.ensures in (
      readable _ number,
      record {
        number = number ∙ ap shape_number shape ∙ sym (read_number input (passed c.shape_line_ok.ensures c.if-not-shape_line_ok.false));
        shape = λ z. shape;
      },
    )
