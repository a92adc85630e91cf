-- What `multiply` and `write` ensure, put together.
use mathlib.Core.Path.{◌≡◌, ap₂, ◌∙◌}
use mathlib.Core.List.{List}
use Prim.Native.Nat.{ℕ, ◌*◌, ◌/◌, ◌%◌, ◌^◌, ◌-◌}
use native.Mathlib.Omega.{arith}
use lib.Bits.{bit_xor}
use lib.ListN.{take, drop, length, length-drop}
use lib.Seq.{take_all}
use Rattle.spec.specs.Bytes.{number, tabulate}
use Rattle.spec.specs.LeafHash.{leaf_hash, leaf_hash_byte}
use Rattle.field.proofs.leaf_hash.Goals as goal

pub returns : goal.returns
unfolding leaf_hash leaf_hash_byte
returns g c =
    let s = c.args.stretched.now in
    let k = 8 * g.row.N / 3 in
    let rest : take (length s - k) (drop k s) ≡ drop k s = take_all (length s - k) (drop k s) (rw length-drop (omega arith)) in
    λ u m. c.write.ensures
    ∙ ap₂ (λ (n : ℕ) (l : List ℕ). tabulate (8 * g.row.N) (λ p. bit_xor n (number 8 l) / 2 ^ (8 * p) % 2 ^ 8)) (c.multiply-product.ensures (number 8 u) m) rest
