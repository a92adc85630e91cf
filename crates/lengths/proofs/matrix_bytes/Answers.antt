-- As many columns as the level has bits, at most 256.
use Prim.Native.Nat.{ℕ, ◌*◌}
use mathlib.Core.Path.{ap}
use native.Mathlib.Omega.{arith}
use Rattle.spec.specs.Shapes.{matrix_bytes}
use Rattle.laws.proofs.Concat.{mul-limit}
use Rattle.lengths.proofs.matrix_bytes.Goals as goal

pub overflow_mul-result : goal.overflow_mul-result
overflow_mul-result c = (let m = mul-limit c.args.b c.level_bits.result 8192 256 c.requires.1 c.level_bits.ensures.1 in omega arith)

pub returns : goal.returns
unfolding matrix_bytes
returns c =
    let m = mul-limit c.args.b c.level_bits.result 8192 256 c.requires.1 c.level_bits.ensures.1 in
    (ap (λ (n : ℕ). c.args.b * n) c.level_bits.ensures.0, omega arith)
