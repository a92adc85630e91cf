-- Each way out by the tests that led there.
use mathlib.Core.Path.{◌≡◌, refl, ap, ap₂, ◌∙◌}
use mathlib.Core.Bool.{false, ◌&&◌}
use Prim.Native.Nat.{ℕ}
use Rattle.spec.specs.Shapes.{shape_ok}
use Rattle.laws.proofs.Tests.{failed, passed}
use Rattle.record.specs.Record.{kind_fits}
use Rattle.record_fields.specs.Versions.{byte_of}
use Rattle.record_reading.specs.Front.{number_of}
use Rattle.record_reading.proofs.test_said.Goals as goal

pub returns-then-not-is_shape-kind_fits : goal.returns-then-not-is_shape-kind_fits
unfolding number_of
returns-then-not-is_shape-kind_fits c =
    let a = c.args in
    let s : (shape_ok a.resolved && kind_fits (byte_of a.version) a.kind) ≡ false = failed (ap₂ ◌&&◌ c.is_shape.ensures (c.kind_fits.ensures ∙ ap (λ (b : ℕ). kind_fits b c.args.kind) c.byte.ensures)) c.if-not-is_shape-kind_fits.true in
    rw s refl

pub returns-then-not-is_row_length : goal.returns-then-not-is_row_length
unfolding number_of
returns-then-not-is_row_length c =
    rw (passed (ap₂ ◌&&◌ c.is_shape.ensures (c.kind_fits.ensures ∙ ap (λ (b : ℕ). kind_fits b c.args.kind) c.byte.ensures)) c.if-not-is_shape-kind_fits.false, failed c.is_row_length.ensures c.if-not-is_row_length.true) refl

pub returns : goal.returns
returns c =
    rw (passed (ap₂ ◌&&◌ c.is_shape.ensures (c.kind_fits.ensures ∙ ap (λ (b : ℕ). kind_fits b c.args.kind) c.byte.ensures)) c.if-not-is_shape-kind_fits.false, passed c.is_row_length.ensures c.if-not-is_row_length.false) refl
