-- The head says the shape, by the version, and the row length; the number is that of both.
use mathlib.Core.Path.{refl}
use Rattle.std.proofs.lemmas.Result.{err_from_is_err_and}
use Rattle.record_fields.proofs.Versions.{nine}
use Rattle.record_reading.specs.Front.{said_number}
use Rattle.record_reading.proofs.front_in.Goals as goal

pub row_in-row-requires : goal.row_in-row-requires
row_in-row-requires c = rw c.requires (nine c.args.version)

pub returns-in_err-test_said : goal.returns-in_err-test_said
unfolding said_number
returns-in_err-test_said c =
    let p = err_from_is_err_and c.from_residual.result c.from_residual.ensures.1 in
    let n = c.in_err-test_said.ensures in
    rw (p.1, p.2) (record { number = rw (c.resolve-resolved.ensures, c.row_in-row.ensures, c.shape_in-shape.ensures) at n; says = tt })

pub returns : goal.returns
unfolding said_number
returns c =
    let n = c.in_ok-test_said.ensures in
    record {
      number = rw (c.resolve-resolved.ensures, c.row_in-row.ensures, c.shape_in-shape.ensures) at n;
      says = rw (c.resolve-resolved.ensures, c.row_in-row.ensures, c.shape_in-shape.ensures) refl;
    }
