-- The largest row, and the end of a stretch, by the tests that bound them.
use Prim.Native.Nat.{ℕ, ◌+◌, ◌/◌, ◌%◌, ◌≤◌}
use mathlib.Core.Path.{◌≡◌}
use mathlib.Core.Bool.{true}
use native.Mathlib.Omega.{arith}
use lib.Dec.{eqb, leb}
use borrow.Author.Tests.{leb-true}
use Rattle.spec.specs.declared.Stretch.{Stretch}
use Rattle.spec.specs.Calls.{row_ok, stretch_ok}
use Rattle.laws.proofs.Calls.{stretch-within}
use Rattle.laws.proofs.Conjunctions.{both_true}

-- a row has at most 8,192 bytes
pub row-max : (n : ℕ) → row_ok n ≡ true → n / 8 ≤ 8192
unfolding row_ok
row-max n h =
    let q = both_true (eqb (n % 8) 0) _ h in
    let l = leb-true n 65536 (both_true (leb 8 n) (leb n 65536) q.1).1 in
    omega arith

pub stretch-max : (n : ℕ) (z : Stretch) → row_ok n ≡ true → stretch_ok (n / 8) z ≡ true → z.first + z.width ≤ 8192
stretch-max n z r h = (let a = row-max n r in let b = stretch-within (n / 8) z h in omega arith)
