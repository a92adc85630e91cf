-- The local arrays have room for every level.
use mathlib.Core.Path.{ap, ap₂, ◌∙◌}
use Prim.Native.Nat.{ℕ, ◌+◌, ◌-◌}
use native.Mathlib.Nat.{sub-zero}
use native.Mathlib.Omega.{arith}
use lib.ListN.{replicate}
use Rattle.laws.proofs.Lists.{length_part}
use Rattle.leaf.proofs.hash_leaf_in_place.Goals as goal

pub hash_leaf-requires : goal.hash_leaf-requires
hash_leaf-requires c =
    let n = c.node_bytes-n in
    let l = c.commitment_bytes in
    let p = c.requires in
    let a = n.result + 16 in
    let b = n.result + l.result in (
      p.0,
      p.1,
      p.2,
      length_part (replicate 48 0) 0 (a - 0) (omega (arith, n.ensures.2)) ∙ sub-zero a ∙ ap (λ (k : ℕ). k + 16) n.ensures.0,
      length_part (replicate 128 0) 0 (b - 0) (omega (arith, n.ensures.2, l.ensures.1)) ∙ sub-zero b ∙ ap₂ ◌+◌ n.ensures.0 l.ensures.0,
      p.3,
      p.4,
    )
