-- The nodes that a list has at its front are those of the plan: each stands in the tree, and written behind the hidden leaf commitments, with zeros in the unused
-- slots, they make the opening.
use Prim.Native.Nat.{ℕ, ◌-◌, ◌*◌, ◌<◌}
use mathlib.Core.Path.{◌≡◌, sym, ap, ap₂, ◌∙◌}
use mathlib.Core.Bool.{true}
use mathlib.Core.List.{List, ◌++◌}
use native.Mathlib.Omega.{arith}
use lib.ListN.{get_or, take}
use lib.Seq.{get_or-take}
use Rattle.spec.specs.declared.Shape.{Shape}
use Rattle.spec.specs.Bytes.{concat, zeros}
use Rattle.spec.specs.Shapes.{node_bytes, leaves, shape_ok, hidden_index, hidden_leaves, planned, planned_count}
use Rattle.spec.specs.Leaves.{node_at}
use Rattle.spec.specs.Signer.{leaf_commitment_at, opening_of}
use Rattle.laws.proofs.Concat.{concat-same}
use Rattle.planning_laws.proofs.Revealed.{revealed-low}
use Rattle.planning_laws.proofs.ShapeFacts.{shape-facts, leaves-pos}

module _ (s : Shape) (ch nodes : List ℕ) (n : ℕ) (count : n ≡ planned_count s ch) (front : take n nodes ≡ planned s ch) where
  listed : (m : ℕ) → m < n → get_or nodes m 0 ≡ get_or (planned s ch) m 0
  listed m h = sym (get_or-take n nodes m 0 h) ∙ ap (λ (l : List ℕ). get_or l m 0) front

  pub in_tree : shape_ok s ≡ true → (m : ℕ) → m < n → get_or nodes m 0 < 2 * leaves s - 1
  unfolding planned planned_count
  in_tree ok m h =
      let pos = leaves-pos s (shape-facts s ok) in
      let low = revealed-low (leaves s) (hidden_leaves s ch) m pos (omega arith) in
      let same = listed m h in
      omega arith

  pub opening_of_lem : (tree lcs hidden : List ℕ) → hidden ≡ concat s.tau (λ i. leaf_commitment_at s lcs i (hidden_index s ch i))
      → (hidden ++ concat n (λ m. node_at s tree (get_or nodes m 0))) ++ zeros (node_bytes s * (s.t - n)) ≡ opening_of s ch tree lcs
  unfolding opening_of
  opening_of_lem tree lcs hidden e =
      let written = concat-same (λ m. node_at s tree (get_or nodes m 0)) (λ m. node_at s tree (get_or (planned s ch) m 0)) n (λ m h. ap (node_at s tree) (listed m h)) in
      ap₂ (λ (x y : List ℕ). (x ++ y) ++ zeros (node_bytes s * (s.t - n))) e written
      ∙ ap (λ (x : ℕ). (concat s.tau (λ i. leaf_commitment_at s lcs i (hidden_index s ch i)) ++ concat x (λ m. node_at s tree (get_or (planned s ch) m 0))) ++ zeros (node_bytes s * (s.t - x))) count
