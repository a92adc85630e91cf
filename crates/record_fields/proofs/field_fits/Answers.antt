-- Each way out by the length: the field is there, or its end lies behind the record's.
use native.Mathlib.Omega.{arith}
use borrow.Author.Tests.{le-leb, lt-leb}
use mathlib.Core.Path.{refl}
use Prim.Native.Nat.{◌+◌}
use lib.ListN.{length}
use Rattle.record.specs.Fields.{field_ok}
use Rattle.record_fields.proofs.field_fits.Goals as goal

pub returns-then-bytes-at : goal.returns-then-bytes-at
unfolding field_ok
returns-then-bytes-at c =
    let g = c.args in
    simp (lt-leb (g.at + 4 + g.n) (length g.bytes.now) (omega arith))

pub returns-then-left-lt4 : goal.returns-then-left-lt4
unfolding field_ok
returns-then-left-lt4 c =
    let g = c.args in
    simp (lt-leb (g.at + 4 + g.n) (length g.bytes.now) (omega arith))

pub returns-then-left-n : goal.returns-then-left-n
unfolding field_ok
returns-then-left-n c =
    let g = c.args in
    simp (lt-leb (g.at + 4 + g.n) (length g.bytes.now) (omega arith))

pub returns : goal.returns
unfolding field_ok
returns c =
    let g = c.args in
    rw (le-leb (g.at + 4 + g.n) (length g.bytes.now) (omega arith), c.number4.ensures) refl
