-- What is read is the reading of the bytes that are there, and no byte behind the 64th changes a reading.
use mathlib.Core.Path.{◌≡◌, sym}
use native.Mathlib.Omega.{arith}
use lib.ListN.{length}
use lib.Seq.{length-take-le}
use borrow.Author.Rules.{rules}
use Rattle.enumeration.proofs.Readings.{first-64}
use Rattle.enumeration.proofs.read_start.Goals as goal

pub slice_bounds-read-end : goal.slice_bounds-read-end
slice_bounds-read-end c =
    let a = c.args in
    let long : length a.start ≡ 64 = search rules in
    sym (length-take-le a.n a.start (omega arith))

pub returns : goal.returns
returns c = (c.read.ensures.0, λ input e. first-64 input _ (rw e c.read.ensures.1))
