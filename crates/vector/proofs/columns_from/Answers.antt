-- A row has at most 8,192 bytes, and there are at most 256 columns.
use Prim.Native.Nat.{ℕ, ◌*◌, ◌≤◌}
use mathlib.Core.Path.{ap}
use native.Mathlib.Nat.{mul-le-mul}
use native.Mathlib.Omega.{arith}
use Rattle.vector.proofs.columns_from.Goals as goal

pub overflow_mul-result : goal.overflow_mul-result
overflow_mul-result c =
    let m : c.args.b * c.first_bit.result ≤ 8192 * 256 = mul-le-mul c.requires.2 c.first_bit.ensures.2 in
    omega arith

pub returns : goal.returns
returns c = ap (λ (n : ℕ). c.args.b * n) c.first_bit.ensures.0
