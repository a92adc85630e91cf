-- Where the shape and the row length are passed the lengths decide.
use Prim.Native.Nat.{◌/◌}
use mathlib.Core.Path.{refl}
use Rattle.rules.proofs.RowLength.{row-max}
use Rattle.refusals.specs.Refusal.{number_of}
use Rattle.refusals.proofs.Lists.{passed-all}
use Rattle.refusals.proofs.Outcomes.{numbered, last-test, passed-on}
use Rattle.record_writer.specs.Tests.{row_tests, write_sizes}
use Rattle.record_writer.proofs.Answers.{rows-stop, lengths-decide}
use Rattle.record_writer.proofs.test_write.Goals as goal

pub returns-in_err-test_rows : goal.returns-in_err-test_rows
returns-in_err-test_rows c =
    let a = c.args in
    rw (passed-on _ _ c.from_residual.ensures) (rows-stop a.s a.row_bits (write_sizes a.s (a.row_bits / 8) a.x) _ c.in_err-test_rows.ensures (numbered _))

pub write_fits-requires : goal.write_fits-requires
write_fits-requires c = (let q = passed-all (row_tests _ _) (refl, (refl, tt)) _ c.in_ok-test_rows.ensures refl in (q.0, row-max _ q.1.0))

pub returns : goal.returns
unfolding number_of
returns c =
    let a = c.args in
    lengths-decide a.s a.row_bits (write_sizes a.s (a.row_bits / 8) a.x) _ c.in_ok-test_rows.ensures _ refl (rw c.write_fits.ensures at (last-test _ _ _ c.test.ensures))
