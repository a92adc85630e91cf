-- The tree by the list of the covered nodes is the reconstructed one: the slot that a node reads is the place, in the plan, of the child that it reveals. With the plan within T
-- the covered nodes are at most 575.
use Prim.Native.Nat.{ℕ, suc, ◌+◌, ◌-◌, ◌*◌, ◌≤◌, ◌<◌}
use mathlib.Core.Path.{◌≡◌, refl, sym, ap, ap₂, ◌∙◌}
use mathlib.Core.Bool.{Bool, true, false, ◌||◌, cond, true≢false}
use mathlib.Core.List.{List, [], ◌∷◌, ◌++◌}
use native.Mathlib.Omega.{arith}
use lib.ListN.{length, take, drop, length-drop}
use lib.Seq.{sets, take_all, drop-drop}
use Rattle.spec.specs.declared.Shape.{Shape}
use Rattle.spec.specs.Bytes.{part, zeros, index_of}
use Rattle.spec.specs.Tree.{covered, sibling_to_reveal, revealed_from, revealed, node_count, expand_tree}
use Rattle.spec.specs.Shapes.{node_bytes, leaf_commitment_bytes, leaves, hidden_leaves, planned, planned_count}
use Rattle.spec.specs.Primitives.{faest}
use Rattle.spec.specs.Leaves.{children}
use Rattle.spec.specs.Verifier.{slot, given_node, reconstructed_children, reconstructed_tree}
use Rattle.laws.proofs.Lists.{length-zeros}
use Rattle.planning_laws.specs.Lists.{Descending, covered_count, covered_nodes}
use Rattle.planning_laws.proofs.Covered.{covered-inner, root-hidden}
use Rattle.planning_laws.proofs.Count.{count-covered}
use Rattle.planning_laws.proofs.Passing.{passing-length, passing-descends, passing-member}
use Rattle.planning_laws.proofs.Rising.{revealed-same}
use Rattle.planning_laws.proofs.Revealed.{revealed-place}
use Rattle.planning_laws.proofs.ShapeFacts.{ShapeFacts, leaves-pos}
use Rattle.planning_laws.proofs.HiddenLeaves.{hidden-count, hidden-leaves, hidden-distinct}
use Rattle.planning_laws.proofs.ExpandTree.{expand-same}
use Rattle.planning.proofs.Planned.{stored-front}
use Rattle.verifier_tree.specs.ByNodes.{listed, ByChildren, read_before, node_by, children_by}

module _ (s : Shape) (pos : 1 ≤ leaves s) (ch nodes : List ℕ) (same : (x : ℕ) → x < 2 * leaves s - 1 → listed nodes x ≡ covered (hidden_leaves s ch) x) where
  abbrev Hides : ℕ → Bool
  Hides x = covered (hidden_leaves s ch) x

  inner : (a : ℕ) → a < leaves s - 1 → Hides a ≡ (Hides (2 * a + 1) || Hides (2 * a + 2))
  inner a h = covered-inner (leaves s) a (hidden_leaves s ch) (hidden-leaves s ch) (omega arith)

  pub by-children : ByChildren (listed nodes) (leaves s - 1)
  by-children a h =
      same a (omega arith) ∙ inner a h ∙ sym (ap₂ ◌||◌ (same (2 * a + 1) (omega arith)) (same (2 * a + 2) (omega arith)))

  read_is : (a : ℕ) → a ≤ leaves s - 1 → read_before nodes a ≡ length (revealed_from Hides a)
  unfolding read_before
  read_is a h = ap length (revealed-same (listed nodes) Hides a (λ x l. same x (omega arith)))

  pub all_read : read_before nodes (leaves s - 1) ≡ planned_count s ch
  unfolding planned_count node_count revealed
  all_read = read_is (leaves s - 1) (omega arith)

  module _ (opening : List ℕ) where
    abbrev Slots : List ℕ
    Slots = drop (leaf_commitment_bytes s * s.tau) opening

    -- the slot read for a child that node a reveals
    slot_is : (a x : ℕ) → a < leaves s - 1 → sibling_to_reveal (Hides (2 * a + 1)) (Hides (2 * a + 2)) a ≡ x ∷ []
        → part Slots (node_bytes s * (planned_count s ch - (read_before nodes a + 1))) (node_bytes s) ≡ slot s opening (index_of x (planned s ch))
    unfolding planned planned_count node_count revealed revealed_from slot
    slot_is a x h e =
        let place = revealed-place Hides (leaves s - 1) a x h e in
        let more : length (revealed_from Hides (suc a)) ≡ suc (length (revealed_from Hides a)) = ap (λ (l : List ℕ). length (l ++ revealed_from Hides a)) e in
        let read = read_is a (omega arith) in
        let k : planned_count s ch - (read_before nodes a + 1) ≡ index_of x (planned s ch) = omega arith in
        ap (λ (m : ℕ). take (node_bytes s) (drop (node_bytes s * m) Slots)) k
        ∙ ap (take (node_bytes s)) (drop-drop (node_bytes s * index_of x (planned s ch)) (leaf_commitment_bytes s * s.tau) opening)

    node-is : (a x : ℕ) → a < leaves s - 1 → x < 2 * leaves s - 1 → (Hides x ≡ false → sibling_to_reveal (Hides (2 * a + 1)) (Hides (2 * a + 2)) a ≡ x ∷ [])
        → node_by (node_bytes s) nodes Slots (planned_count s ch) (read_before nodes a) x ≡ given_node s ch opening x
    unfolding node_by given_node
    node-is a x h l shown = ap (λ (b : Bool). cond b (zeros (node_bytes s)) Read) (same x l) ∙ go (Hides x) refl
      where
        Read : List ℕ
        Read = part Slots (node_bytes s * (planned_count s ch - (read_before nodes a + 1))) (node_bytes s)

        go : (b : Bool) → Hides x ≡ b → cond b (zeros (node_bytes s)) Read ≡ cond b (zeros (node_bytes s)) (slot s opening (index_of x (planned s ch)))
        go true e = refl
        go false e = slot_is a x h (shown e)

    left-shown : (p q : Bool) (a : ℕ) → (p || q) ≡ true → p ≡ false → sibling_to_reveal p q a ≡ (2 * a + 1) ∷ []
    unfolding sibling_to_reveal
    left-shown true q a h e = absurd (true≢false e)
    left-shown false false a h e = absurd (true≢false (sym h))
    left-shown false true a h e = refl

    right-shown : (p q : Bool) (a : ℕ) → (p || q) ≡ true → q ≡ false → sibling_to_reveal p q a ≡ (2 * a + 2) ∷ []
    unfolding sibling_to_reveal
    right-shown p true a h e = absurd (true≢false e)
    right-shown false false a h e = absurd (true≢false (sym h))
    right-shown true false a h e = refl

    children-is : (iv : List ℕ) (a : ℕ) → a < leaves s - 1 → (x : List ℕ)
        → children_by (node_bytes s) nodes Slots (planned_count s ch) s iv a x ≡ reconstructed_children faest s iv ch opening a x
    unfolding children_by reconstructed_children
    children-is iv a h x = ap (λ (b : Bool). cond b Pair (children faest s iv a x)) (same a (omega arith)) ∙ go (Hides a) refl
      where
        Pair : List ℕ
        Pair = node_by (node_bytes s) nodes Slots (planned_count s ch) (read_before nodes a) (2 * a + 1) ++ node_by (node_bytes s) nodes Slots (planned_count s ch) (read_before nodes a) (2 * a + 2)

        go : (b : Bool) → Hides a ≡ b → cond b Pair (children faest s iv a x) ≡ cond b (given_node s ch opening (2 * a + 1) ++ given_node s ch opening (2 * a + 2)) (children faest s iv a x)
        go true e =
            ap₂ ◌++◌ (node-is a (2 * a + 1) h (omega arith) (left-shown (Hides (2 * a + 1)) (Hides (2 * a + 2)) a (sym (inner a h) ∙ e)))
            (node-is a (2 * a + 2) h (omega arith) (right-shown (Hides (2 * a + 1)) (Hides (2 * a + 2)) a (sym (inner a h) ∙ e)))
        go false e = refl

    pub tree_is : (iv : List ℕ) → expand_tree (node_bytes s) (zeros (node_bytes s)) (children_by (node_bytes s) nodes Slots (planned_count s ch) s iv) (leaves s - 1) ≡ reconstructed_tree faest s iv ch opening
    unfolding reconstructed_tree
    tree_is iv = expand-same (node_bytes s) (zeros (node_bytes s)) (children_by (node_bytes s) nodes Slots (planned_count s ch) s iv) (reconstructed_children faest s iv ch opening) (leaves s - 1) (children-is iv)

-- ---- the list of the covered nodes

module _ (s : Shape) (f : ShapeFacts s) (ch : List ℕ) where
  abbrev Nodes : List ℕ
  Nodes = covered_nodes (leaves s) (hidden_leaves s ch)

  listed-covered : (x : ℕ) → x < 2 * leaves s - 1 → listed Nodes x ≡ covered (hidden_leaves s ch) x
  unfolding listed covered_nodes
  listed-covered x h = passing-member (covered (hidden_leaves s ch)) (2 * leaves s - 1) x h

  nodes-descend : Descending Nodes
  unfolding covered_nodes
  nodes-descend = passing-descends (covered (hidden_leaves s ch)) (2 * leaves s - 1)

  root-listed : listed Nodes 0 ≡ true
  root-listed =
      let h = hidden-count s ch in
      let l = leaves-pos s f in
      listed-covered 0 (omega arith) ∙ root-hidden (hidden_leaves s ch) (omega (arith, f.tau-pos))

  pub few-nodes : (n : ℕ) → n ≡ planned_count s ch → n ≤ s.t → length Nodes ≤ 575
  unfolding covered_nodes covered_count planned_count
  few-nodes n c l =
      let h = hidden-count s ch in
      let count = count-covered (leaves s) (hidden_leaves s ch) (hidden-leaves s ch) (hidden-distinct s ch) (omega (arith, f.tau-pos)) in
      let long = passing-length (covered (hidden_leaves s ch)) (2 * leaves s - 1) in
      omega (arith, f.tau-max, f.t-max)

  -- as the code has it: the nodes are the front of a longer list, and the slots are what stands behind the leaf commitments
  module _ (l n m : ℕ) (list : List ℕ) (e : l ≡ leaves s) (c : n ≡ planned_count s ch) (fits : n ≤ s.t) (count : m ≡ length Nodes) (stored : list ≡ sets (zeros 576) 0 Nodes) where
    abbrev Front : List ℕ
    Front = take (m - 0) list

    front-is : Front ≡ Nodes
    front-is =
        ap (take (m - 0)) stored
        ∙ stored-front Nodes (zeros 576) (m - 0) (omega arith) (let k = few-nodes n c fits in let z = length-zeros 576 in omega arith)

    pub front-ready : Descending Front × (listed Front 0 ≡ true) × ByChildren (listed Front) (l - 1) × (n ≡ read_before Front (l - 1))
    front-ready =
        rw (front-is, e)
        (nodes-descend, root-listed, by-children s (leaves-pos s f) ch Nodes listed-covered, c ∙ sym (all_read s (leaves-pos s f) ch Nodes listed-covered))

    -- w is a node's length, and the slots begin at byte `first`
    pub front-tree : (w first : ℕ) (opening iv tree : List ℕ) → w ≡ node_bytes s → first ≡ leaf_commitment_bytes s * s.tau
        → tree ≡ expand_tree w (zeros w) (children_by w Front (part opening first (length opening - first)) n s iv) (l - 1)
        → tree ≡ reconstructed_tree faest s iv ch opening
    front-tree w first opening iv tree ew ef h =
        let slots : part opening first (length opening - first) ≡ drop (leaf_commitment_bytes s * s.tau) opening =
        take_all (length opening - first) (drop first opening) (simp length-drop (omega arith)) ∙ ap (λ (k : ℕ). drop k opening) ef
        in
        h
        ∙ ap (λ (v : ℕ). expand_tree v (zeros v) (children_by v Front (part opening first (length opening - first)) n s iv) (l - 1)) ew
        ∙ ap₂ (λ (y q : List ℕ). expand_tree (node_bytes s) (zeros (node_bytes s)) (children_by (node_bytes s) y q n s iv) (l - 1)) front-is slots
        ∙ ap₂ (λ (k i : ℕ). expand_tree (node_bytes s) (zeros (node_bytes s)) (children_by (node_bytes s) Nodes (drop (leaf_commitment_bytes s * s.tau) opening) k s iv) (i - 1)) c e
        ∙ tree_is s (leaves-pos s f) ch Nodes listed-covered opening iv
