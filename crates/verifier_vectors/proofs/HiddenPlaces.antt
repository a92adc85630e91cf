-- The hidden leaf commitment of a vector lies within an opening, of either version.
use Prim.Native.Nat.{ℕ, ◌+◌, ◌*◌, ◌≤◌, ◌<◌}
use mathlib.Core.Path.{◌≡◌}
use native.Mathlib.Nat.{mul-add, mul-le-mul, le_refl}
use native.Mathlib.Omega.{arith}
use Rattle.spec.specs.declared.Shape.{Shape}
use Rattle.spec.specs.Shapes.{level, node_bytes, leaf_commitment_bytes, depth_of, first_bit, opening_bytes}
use Rattle.spec.specs.Version1.{leaf_commitment_bytes1, decommitment_from, opening1_bytes}
use Rattle.job.specs.declared.Version.{Version}
use Rattle.job.specs.declared.Version.TheVariants.{One, Two}
use Rattle.job.specs.Versions.{KindFits, opening_length, hidden_from}
use Rattle.laws.proofs.Concat.{mul-within}
use Rattle.laws.proofs.Segments.{segment-before}
use Rattle.planning_laws.proofs.Depths.{bit-next}
use Rattle.planning_laws.proofs.ShapeFacts.{ShapeFacts, bit-all}
use Rattle.leaf.proofs.Hashed.{width_one}

module _ (v : Version) (s : Shape) (f : ShapeFacts s) (k : KindFits v s) (i r : ℕ) (h : i < s.tau) where
  abbrev Within : Type 0
  Within = (r ≡ hidden_from v s i) × (r + leaf_commitment_bytes s ≤ opening_length v s)

  pub within-one : v ≡ One → r ≡ decommitment_from s i + node_bytes s * depth_of s i → Within
  unfolding hidden_from opening_length decommitment_from opening1_bytes leaf_commitment_bytes1
  within-one e p =
      let n = node_bytes s in
      let a = segment-before (first_bit s) (depth_of s) s.tau i (λ m l. bit-next s m) h in
      let b = bit-all s f in
      let w = width_one s (k e) in
      let x = mul-add n (first_bit s i + 2 * i) (depth_of s i) in
      let y = mul-add n (first_bit s i + 2 * i + depth_of s i) 2 in
      let m : n * (first_bit s i + 2 * i + depth_of s i + 2) ≤ n * (level s + 2 * s.tau) = mul-le-mul (le_refl n) (omega arith) in
      rw e (p, omega arith)

  pub within-two : v ≡ Two → r ≡ leaf_commitment_bytes s * i → Within
  unfolding hidden_from opening_length opening_bytes
  within-two e p = (let m = mul-within (leaf_commitment_bytes s) i s.tau h in rw e (p, omega arith))
