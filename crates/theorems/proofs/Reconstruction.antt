-- The verifier, lent what the opener made of the signer's tree and leaf commitments, finds the signer's nodes where they are not covered, all leaf
-- commitments, and rows but for the hidden ones. The trees by induction on the nodes expanded: the children of a covered node are revealed or covered, those
-- of any other node come from it in both trees.
use Prim.Native.Nat.{ℕ, zero, suc, ◌+◌, ◌-◌, ◌*◌, ◌^◌, ◌≤◌, ◌<◌}
use mathlib.Core.Path.{◌≡◌, refl, sym, ap, ◌∙◌, subst}
use mathlib.Core.Bool.{Bool, true, false, ◌||◌, cond, or-true}
use mathlib.Core.List.{List, ◌++◌}
use native.Mathlib.Omega.{arith}
use native.Mathlib.Nat.{mul-zero}
use native.Mathlib.Decide.{dec_lt, ℕ_discrete}
use lib.Dec.{eqb}
use lib.ListN.{length, length-append}
use borrow.Author.Tests.{eq-eqb, ne_eqb}
use Rattle.spec.specs.declared.Shape.{Shape}
use Rattle.spec.specs.declared.Stretch.{Stretch}
use Rattle.spec.specs.Bytes.{part, zeros, index_of}
use Rattle.spec.specs.Tree.{covered, node_count, expand_tree}
use Rattle.spec.specs.Shapes.{node_bytes, leaf_commitment_bytes, entries_of, leaves, leaf_of, hidden_index, hidden_leaves, planned, planned_count, tree_bytes, leaf_commitments_bytes}
use Rattle.spec.specs.Primitives.{Primitives, prg}
use Rattle.spec.specs.Leaves.{node_at, leaf_key, children, leaf_seed, leaf_commitment, vector_commitments, leaf_commitments, vector_hash, commitment_of}
use Rattle.spec.specs.Rows.{row_byte, stretch_byte}
use Rattle.spec.specs.Signer.{signer_tree, signer_leaf_commitment, opening_of}
use Rattle.spec.specs.Verifier.{hidden_leaf_commitment, slot, given_node, reconstructed_children, reconstructed_tree, verifier_leaf_commitment}
use Rattle.laws.proofs.Conjunctions.{contrary}
use Rattle.laws.proofs.Lists.{length-tabulate, length_part, length-zeros}
use Rattle.laws.proofs.Concat.{part-front, part-after, part-whole, concat-same, mul-within}
use Rattle.planning_laws.proofs.Members.{In, absent}
use Rattle.planning_laws.proofs.Covered.{covered-leaf, covered-inner, root-hidden}
use Rattle.planning_laws.proofs.Revealed.{left-revealed, right-revealed}
use Rattle.planning_laws.proofs.HiddenLeaves.{hidden-count, hidden-leaves}
use Rattle.planning_laws.proofs.ExpandTree.{expand-length, expand-front, expand-left, expand-right}
use Rattle.planning_laws.proofs.LeafKindFacts.{commitment-length}
use Rattle.planning_laws.proofs.ShapeLaws.{ShapeLaws, hidden_at}
use Rattle.theorems.proofs.Buffers.{commitments-length, commitments-at, opening-hidden, opening-slot}

prg-long : (P : Primitives) (s : Shape) (key iv : List ℕ) (tweak n : ℕ) → length (prg P s key iv tweak n) ≡ n
unfolding prg
prg-long P s key iv tweak n = length-tabulate n (P.prg_byte s key iv tweak)

-- a leaf that is not hidden is not covered
pub leaf-uncovered : (s : Shape) → ShapeLaws s → (ch : List ℕ) (i j : ℕ) → i < s.tau → j < entries_of s i → (j ≡ hidden_index s ch i → ⊥)
    → covered (hidden_leaves s ch) (leaf_of s i j) ≡ false
leaf-uncovered s f ch i j h l d =
    covered-leaf (leaves s) (leaf_of s i j) (hidden_leaves s ch) (hidden-leaves s ch) (f.leaf-low i j h l)
    ∙ absent (leaf_of s i j) (hidden_leaves s ch)
    (λ m k e.
    let g : m < s.tau = (let z = hidden-count s ch in omega arith) in
    let q = f.leaf-one i j m (hidden_index s ch m) h l g (f.hidden-in ch m) (e ∙ hidden_at s ch m g) in
    d (q.1 ∙ ap (hidden_index s ch) (sym q.0)))

module _ (P : Primitives) (s : Shape) (f : ShapeLaws s) (root iv : List ℕ) (root-long : length root ≡ node_bytes s) where
  abbrev Tree : List ℕ
  Tree = signer_tree P s root iv

  abbrev SignerCommitments : List ℕ
  SignerCommitments = leaf_commitments s (signer_leaf_commitment P s iv (signer_tree P s root iv))

  kids-long : (a : ℕ) → a < leaves s - 1 → (x : List ℕ) → length (children P s iv a x) ≡ 2 * node_bytes s
  unfolding children
  kids-long a h x = prg-long P s x iv a (2 * node_bytes s)

  pub tree-length : length Tree ≡ tree_bytes s
  unfolding signer_tree tree_bytes
  tree-length =
      expand-length (node_bytes s) root (children P s iv) (leaves s - 1) root-long kids-long (leaves s - 1) (omega arith)
      ∙ ap (λ (n : ℕ). node_bytes s * n) (let p = f.leaves-pos in let z : 2 * (leaves s - 1) + 1 ≡ 2 * leaves s - 1 = omega arith in z)

  commitment-long : (i : ℕ) (key : List ℕ) → length (leaf_commitment P s iv i key) ≡ leaf_commitment_bytes s
  commitment-long = commitment-length P s iv

  signer-long : (i j : ℕ) → i < s.tau → j < entries_of s i → length (signer_leaf_commitment P s iv Tree i j) ≡ leaf_commitment_bytes s
  unfolding signer_leaf_commitment
  signer-long i j h l = commitment-long i (leaf_key s Tree i j)

  pub signer-commitments-length : length SignerCommitments ≡ leaf_commitments_bytes s
  signer-commitments-length = commitments-length s f (signer_leaf_commitment P s iv Tree) signer-long

  -- ---- with a challenge
  module _ (ch : List ℕ) where
    abbrev Opened : List ℕ
    Opened = opening_of s ch (signer_tree P s root iv) (leaf_commitments s (signer_leaf_commitment P s iv (signer_tree P s root iv)))

    abbrev CheckedTree : List ℕ
    CheckedTree = reconstructed_tree P s iv ch Opened

    abbrev Hides : ℕ → Bool
    Hides a = covered (hidden_leaves s ch) a

    abbrev CheckedChildren : ℕ → List ℕ → List ℕ
    CheckedChildren = reconstructed_children P s iv ch Opened

    root-hides : Hides 0 ≡ true
    root-hides = root-hidden (hidden_leaves s ch) (let a = hidden-count s ch in let b = f.tau-pos in omega arith)

    -- a revealed node's slot holds the signer's node
    slot_is : (c : ℕ) → In c (planned s ch) → slot s Opened (index_of c (planned s ch)) ≡ node_at s Tree c
    unfolding planned planned_count node_count
    slot_is c m =
        opening-slot s f ch Tree SignerCommitments tree-length signer-commitments-length (index_of c (planned s ch)) m.here ∙ ap (node_at s Tree) m.same

    in_left : (a : ℕ) → a + 1 < leaves s → Hides a ≡ true → Hides (2 * a + 1) ≡ false → In (2 * a + 1) (planned s ch)
    unfolding planned
    in_left a h p q = left-revealed (leaves s) a (hidden_leaves s ch) (hidden-leaves s ch) h p q

    in_right : (a : ℕ) → a + 1 < leaves s → Hides a ≡ true → Hides (2 * a + 2) ≡ false → In (2 * a + 2) (planned s ch)
    unfolding planned
    in_right a h p q = right-revealed (leaves s) a (hidden_leaves s ch) (hidden-leaves s ch) h p q

    node-long : (c : ℕ) → c < 2 * leaves s - 1 → length (node_at s Tree c) ≡ node_bytes s
    unfolding node_at tree_bytes
    node-long c h =
        let a = tree-length in
        let b = mul-within (node_bytes s) c (2 * leaves s - 1) h in
        length_part Tree (node_bytes s * c) (node_bytes s) (omega arith)

    -- what a child of a covered node is given has the length of a node
    given-long : (c : ℕ) → c < 2 * leaves s - 1 → (Hides c ≡ false → In c (planned s ch)) → length (given_node s ch Opened c) ≡ node_bytes s
    unfolding given_node
    given-long c h m = go (Hides c) refl
      where
        go : (b : Bool) → Hides c ≡ b → length (cond b (zeros (node_bytes s)) (slot s Opened (index_of c (planned s ch)))) ≡ node_bytes s
        go true e = length-zeros (node_bytes s)
        go false e = ap length (slot_is c (m e)) ∙ node-long c h

    given_is : (c : ℕ) → Hides c ≡ false → In c (planned s ch) → given_node s ch Opened c ≡ node_at s Tree c
    unfolding given_node
    given_is c e m = ap (λ (b : Bool). cond b (zeros (node_bytes s)) (slot s Opened (index_of c (planned s ch)))) e ∙ slot_is c m

    again-long : (a : ℕ) → a < leaves s - 1 → (x : List ℕ) → length (CheckedChildren a x) ≡ 2 * node_bytes s
    unfolding reconstructed_children
    again-long a h x = go (Hides a) refl
      where
        go : (b : Bool) → Hides a ≡ b → length (cond b (given_node s ch Opened (2 * a + 1) ++ given_node s ch Opened (2 * a + 2)) (children P s iv a x)) ≡ 2 * node_bytes s
        go true e =
            let p = given-long (2 * a + 1) (omega arith) (in_left a (omega arith) e) in
            let q = given-long (2 * a + 2) (omega arith) (in_right a (omega arith) e) in
            simp length-append (omega arith)
        go false e = kids-long a h x

    -- the signer's tree and the reconstructed one, once the nodes before n have their children
    abbrev Signed : ℕ → List ℕ
    Signed n = expand_tree (node_bytes s) root (children P s iv) n

    abbrev Checked : ℕ → List ℕ
    Checked n = expand_tree (node_bytes s) (zeros (node_bytes s)) (reconstructed_children P s iv ch Opened) n

    abbrev Node : List ℕ → ℕ → List ℕ
    Node t c = part t (node_bytes s * c) (node_bytes s)

    signed-front : (n m c : ℕ) → n ≤ m → m ≤ leaves s - 1 → c < 2 * n + 1 → Node (Signed m) c ≡ Node (Signed n) c
    signed-front = expand-front (node_bytes s) root (children P s iv) (leaves s - 1) root-long kids-long

    checked-front : (n m c : ℕ) → n ≤ m → m ≤ leaves s - 1 → c < 2 * n + 1 → Node (Checked m) c ≡ Node (Checked n) c
    checked-front = expand-front (node_bytes s) (zeros (node_bytes s)) CheckedChildren (leaves s - 1) (length-zeros (node_bytes s)) again-long

    tree-node : (n c : ℕ) → n ≤ leaves s - 1 → c < 2 * n + 1 → node_at s Tree c ≡ Node (Signed n) c
    unfolding node_at signer_tree
    tree-node n c h l = signed-front n (leaves s - 1) c h (omega arith) l

    -- the children of a node that is covered
    covered-left : (n : ℕ) (x : List ℕ) → n < leaves s - 1 → Hides n ≡ true → Hides (2 * n + 1) ≡ false → part (CheckedChildren n x) 0 (node_bytes s) ≡ node_at s Tree (2 * n + 1)
    unfolding reconstructed_children
    covered-left n x h e d =
        let p = given-long (2 * n + 1) (omega arith) (in_left n (omega arith) e) in
        ap (λ (b : Bool). part (cond b (given_node s ch Opened (2 * n + 1) ++ given_node s ch Opened (2 * n + 2)) (children P s iv n x)) 0 (node_bytes s)) e
        ∙ part-front (given_node s ch Opened (2 * n + 1)) (given_node s ch Opened (2 * n + 2)) 0 (node_bytes s) (omega arith)
        ∙ part-whole (given_node s ch Opened (2 * n + 1)) (node_bytes s) p
        ∙ given_is (2 * n + 1) d (in_left n (omega arith) e d)

    covered-right : (n : ℕ) (x : List ℕ) → n < leaves s - 1 → Hides n ≡ true → Hides (2 * n + 2) ≡ false → part (CheckedChildren n x) (node_bytes s) (node_bytes s) ≡ node_at s Tree (2 * n + 2)
    unfolding reconstructed_children
    covered-right n x h e d =
        let p = given-long (2 * n + 1) (omega arith) (in_left n (omega arith) e) in
        let q = given-long (2 * n + 2) (omega arith) (in_right n (omega arith) e) in
        ap (λ (b : Bool). part (cond b (given_node s ch Opened (2 * n + 1) ++ given_node s ch Opened (2 * n + 2)) (children P s iv n x)) (node_bytes s) (node_bytes s)) e
        ∙ part-after (given_node s ch Opened (2 * n + 1)) (given_node s ch Opened (2 * n + 2)) (node_bytes s) 0 (node_bytes s) (omega arith)
        ∙ part-whole (given_node s ch Opened (2 * n + 2)) (node_bytes s) q
        ∙ given_is (2 * n + 2) d (in_right n (omega arith) e d)

    bare : (n : ℕ) (x : List ℕ) → Hides n ≡ false → CheckedChildren n x ≡ children P s iv n x
    unfolding reconstructed_children
    bare n x e = ap (λ (b : Bool). cond b (given_node s ch Opened (2 * n + 1) ++ given_node s ch Opened (2 * n + 2)) (children P s iv n x)) e

    left-same : (n : ℕ) → n < leaves s - 1 → (Hides n ≡ false → Node (Checked n) n ≡ Node (Signed n) n) → Hides (2 * n + 1) ≡ false
        → Node (Checked (suc n)) (2 * n + 1) ≡ Node (Signed (suc n)) (2 * n + 1)
    left-same n h ih d =
        expand-left (node_bytes s) (zeros (node_bytes s)) CheckedChildren (leaves s - 1) (length-zeros (node_bytes s)) again-long n (omega arith) ∙ go (Hides n) refl
      where
        go : (b : Bool) → Hides n ≡ b → part (CheckedChildren n (Node (Checked n) n)) 0 (node_bytes s) ≡ Node (Signed (suc n)) (2 * n + 1)
        go true e = covered-left n (Node (Checked n) n) h e d ∙ tree-node (suc n) (2 * n + 1) h (omega arith)
        go false e =
            ap (λ (l : List ℕ). part l 0 (node_bytes s)) (bare n (Node (Checked n) n) e ∙ ap (children P s iv n) (ih e))
            ∙ sym (expand-left (node_bytes s) root (children P s iv) (leaves s - 1) root-long kids-long n (omega arith))

    right-same : (n : ℕ) → n < leaves s - 1 → (Hides n ≡ false → Node (Checked n) n ≡ Node (Signed n) n) → Hides (2 * n + 2) ≡ false
        → Node (Checked (suc n)) (2 * n + 2) ≡ Node (Signed (suc n)) (2 * n + 2)
    right-same n h ih d =
        expand-right (node_bytes s) (zeros (node_bytes s)) CheckedChildren (leaves s - 1) (length-zeros (node_bytes s)) again-long n (omega arith) ∙ go (Hides n) refl
      where
        go : (b : Bool) → Hides n ≡ b → part (CheckedChildren n (Node (Checked n) n)) (node_bytes s) (node_bytes s) ≡ Node (Signed (suc n)) (2 * n + 2)
        go true e = covered-right n (Node (Checked n) n) h e d ∙ tree-node (suc n) (2 * n + 2) h (omega arith)
        go false e =
            ap (λ (l : List ℕ). part l (node_bytes s) (node_bytes s)) (bare n (Node (Checked n) n) e ∙ ap (children P s iv n) (ih e))
            ∙ sym (expand-right (node_bytes s) root (children P s iv) (leaves s - 1) root-long kids-long n (omega arith))

    -- every node that is not covered is the signer's
    nodes-same : (n : ℕ) → n ≤ leaves s - 1 → (c : ℕ) → c < 2 * n + 1 → Hides c ≡ false → Node (Checked n) c ≡ Node (Signed n) c
    nodes-same zero h c l d = contrary root-hides (ap Hides (let z : 0 ≡ c = omega arith in z) ∙ d)
    nodes-same (suc n) h c l d = go (dec_lt c (2 * n + 1)) (ℕ_discrete c (2 * n + 1)) (nodes-same n (omega arith))
      where
        go : Dec (c < 2 * n + 1) → Dec (c ≡ 2 * n + 1) → ((c : ℕ) → c < 2 * n + 1 → Hides c ≡ false → Node (Checked n) c ≡ Node (Signed n) c)
            → Node (Checked (suc n)) c ≡ Node (Signed (suc n)) c
        go (yes k) e ih = checked-front n (suc n) c (omega arith) h k ∙ ih c k d ∙ sym (signed-front n (suc n) c (omega arith) h k)
        go (no k) (yes e) ih =
            subst (λ (m : ℕ). Node (Checked (suc n)) m ≡ Node (Signed (suc n)) m) (sym e) (left-same n h (ih n (omega arith)) (ap Hides (sym e) ∙ d))
        go (no k) (no e) ih =
            let g : c ≡ 2 * n + 2 = omega arith in
            subst (λ (m : ℕ). Node (Checked (suc n)) m ≡ Node (Signed (suc n)) m) (sym g) (right-same n h (ih n (omega arith)) (ap Hides (sym g) ∙ d))

    pub node-same : (c : ℕ) → c < 2 * leaves s - 1 → Hides c ≡ false → node_at s CheckedTree c ≡ node_at s Tree c
    unfolding node_at signer_tree reconstructed_tree
    node-same c h d = nodes-same (leaves s - 1) (omega arith) c (omega arith) d

    -- ---- covered nodes are zeros

    given-zero : (c : ℕ) → Hides c ≡ true → given_node s ch Opened c ≡ zeros (node_bytes s)
    unfolding given_node
    given-zero c e = ap (λ (b : Bool). cond b (zeros (node_bytes s)) (slot s Opened (index_of c (planned s ch)))) e

    above-left : (n : ℕ) → n + 1 < leaves s → Hides (2 * n + 1) ≡ true → Hides n ≡ true
    above-left n h e = covered-inner (leaves s) n (hidden_leaves s ch) (hidden-leaves s ch) h ∙ ap (λ (b : Bool). b || Hides (2 * n + 2)) e

    above-right : (n : ℕ) → n + 1 < leaves s → Hides (2 * n + 2) ≡ true → Hides n ≡ true
    above-right n h e =
        covered-inner (leaves s) n (hidden_leaves s ch) (hidden-leaves s ch) h ∙ ap (λ (b : Bool). Hides (2 * n + 1) || b) e ∙ or-true (Hides (2 * n + 1))

    left-zero : (n : ℕ) → n < leaves s - 1 → Hides (2 * n + 1) ≡ true → Node (Checked (suc n)) (2 * n + 1) ≡ zeros (node_bytes s)
    unfolding reconstructed_children
    left-zero n h d =
        let e = above-left n (omega arith) d in
        let p = given-long (2 * n + 1) (omega arith) (in_left n (omega arith) e) in
        expand-left (node_bytes s) (zeros (node_bytes s)) CheckedChildren (leaves s - 1) (length-zeros (node_bytes s)) again-long n (omega arith)
        ∙ ap (λ (b : Bool). part (cond b (given_node s ch Opened (2 * n + 1) ++ given_node s ch Opened (2 * n + 2)) (children P s iv n (Node (Checked n) n))) 0 (node_bytes s)) e
        ∙ part-front (given_node s ch Opened (2 * n + 1)) (given_node s ch Opened (2 * n + 2)) 0 (node_bytes s) (omega arith)
        ∙ part-whole (given_node s ch Opened (2 * n + 1)) (node_bytes s) p
        ∙ given-zero (2 * n + 1) d

    right_zero : (n : ℕ) → n < leaves s - 1 → Hides (2 * n + 2) ≡ true → Node (Checked (suc n)) (2 * n + 2) ≡ zeros (node_bytes s)
    unfolding reconstructed_children
    right_zero n h d =
        let e = above-right n (omega arith) d in
        let p = given-long (2 * n + 1) (omega arith) (in_left n (omega arith) e) in
        let q = given-long (2 * n + 2) (omega arith) (in_right n (omega arith) e) in
        expand-right (node_bytes s) (zeros (node_bytes s)) CheckedChildren (leaves s - 1) (length-zeros (node_bytes s)) again-long n (omega arith)
        ∙ ap (λ (b : Bool). part (cond b (given_node s ch Opened (2 * n + 1) ++ given_node s ch Opened (2 * n + 2)) (children P s iv n (Node (Checked n) n))) (node_bytes s) (node_bytes s)) e
        ∙ part-after (given_node s ch Opened (2 * n + 1)) (given_node s ch Opened (2 * n + 2)) (node_bytes s) 0 (node_bytes s) (omega arith)
        ∙ part-whole (given_node s ch Opened (2 * n + 2)) (node_bytes s) q
        ∙ given-zero (2 * n + 2) d

    nodes-zero : (n : ℕ) → n ≤ leaves s - 1 → (c : ℕ) → c < 2 * n + 1 → Hides c ≡ true → Node (Checked n) c ≡ zeros (node_bytes s)
    unfolding expand_tree
    nodes-zero zero h c l d =
        ap (λ (a : ℕ). part (zeros (node_bytes s)) (node_bytes s * a) (node_bytes s)) (let z : c ≡ 0 = omega arith in z)
        ∙ ap (λ (a : ℕ). part (zeros (node_bytes s)) a (node_bytes s)) (mul-zero (node_bytes s))
        ∙ part-whole (zeros (node_bytes s)) (node_bytes s) (length-zeros (node_bytes s))
    nodes-zero (suc n) h c l d = go (dec_lt c (2 * n + 1)) (ℕ_discrete c (2 * n + 1)) (nodes-zero n (omega arith))
      where
        go : Dec (c < 2 * n + 1) → Dec (c ≡ 2 * n + 1) → ((c : ℕ) → c < 2 * n + 1 → Hides c ≡ true → Node (Checked n) c ≡ zeros (node_bytes s))
            → Node (Checked (suc n)) c ≡ zeros (node_bytes s)
        go (yes k) e ih = checked-front n (suc n) c (omega arith) h k ∙ ih c k d
        go (no k) (yes e) ih = subst (λ (m : ℕ). Node (Checked (suc n)) m ≡ zeros (node_bytes s)) (sym e) (left-zero n h (ap Hides (sym e) ∙ d))
        go (no k) (no e) ih =
            let g : c ≡ 2 * n + 2 = omega arith in
            subst (λ (m : ℕ). Node (Checked (suc n)) m ≡ zeros (node_bytes s)) (sym g) (right_zero n h (ap Hides (sym g) ∙ d))

    pub node-zero : (c : ℕ) → c < 2 * leaves s - 1 → Hides c ≡ true → node_at s CheckedTree c ≡ zeros (node_bytes s)
    unfolding node_at reconstructed_tree
    node-zero c h d = nodes-zero (leaves s - 1) (omega arith) c (omega arith) d

    -- ---- leaves

    pub key-same : (i j : ℕ) → i < s.tau → j < entries_of s i → (j ≡ hidden_index s ch i → ⊥) → leaf_key s CheckedTree i j ≡ leaf_key s Tree i j
    unfolding leaf_key
    key-same i j h l d = (let k = f.leaf-high i j h l in node-same (leaf_of s i j) (omega arith) (leaf-uncovered s f ch i j h l d))

    pub commitment-of-leaf : (i j : ℕ) → i < s.tau → j < entries_of s i → verifier_leaf_commitment P s iv ch Opened CheckedTree i j ≡ signer_leaf_commitment P s iv Tree i j
    unfolding verifier_leaf_commitment signer_leaf_commitment
    commitment-of-leaf i j h l = go (ℕ_discrete j (hidden_index s ch i))
      where
        go : Dec (j ≡ hidden_index s ch i)
            → cond (eqb j (hidden_index s ch i)) (hidden_leaf_commitment s Opened i) (leaf_commitment P s iv i (leaf_key s CheckedTree i j)) ≡ leaf_commitment P s iv i (leaf_key s Tree i j)
        go (yes e) =
            ap (λ (b : Bool). cond b (hidden_leaf_commitment s Opened i) (leaf_commitment P s iv i (leaf_key s CheckedTree i j))) (eq-eqb j (hidden_index s ch i) e)
            ∙ opening-hidden s f ch Tree SignerCommitments tree-length signer-commitments-length i h
            ∙ commitments-at s f (signer_leaf_commitment P s iv Tree) signer-long i (hidden_index s ch i) h (f.hidden-in ch i)
            ∙ ap (signer_leaf_commitment P s iv Tree i) (sym e)
        go (no d) =
            ap (λ (b : Bool). cond b (hidden_leaf_commitment s Opened i) (leaf_commitment P s iv i (leaf_key s CheckedTree i j))) (ne_eqb j (hidden_index s ch i) d)
            ∙ ap (leaf_commitment P s iv i) (key-same i j h l d)

    vector-same : (i : ℕ) → i < s.tau → vector_commitments s (verifier_leaf_commitment P s iv ch Opened CheckedTree) i ≡ vector_commitments s (signer_leaf_commitment P s iv Tree) i
    unfolding vector_commitments
    vector-same i h = concat-same (verifier_leaf_commitment P s iv ch Opened CheckedTree i) (signer_leaf_commitment P s iv Tree i) (entries_of s i) (λ j l. commitment-of-leaf i j h l)

    pub commitment-same : commitment_of P s (verifier_leaf_commitment P s iv ch Opened CheckedTree) ≡ commitment_of P s (signer_leaf_commitment P s iv Tree)
    unfolding commitment_of vector_hash
    commitment-same =
        ap (P.h1 s) (concat-same (λ i. P.h1 s (vector_commitments s (verifier_leaf_commitment P s iv ch Opened CheckedTree) i)) (λ i. P.h1 s (vector_commitments s (signer_leaf_commitment P s iv Tree) i)) s.tau
        (λ i h. ap (P.h1 s) (vector-same i h)))

    pub leaf-commitments-same : leaf_commitments s (verifier_leaf_commitment P s iv ch Opened CheckedTree) ≡ SignerCommitments
    unfolding leaf_commitments
    leaf-commitments-same = concat-same (vector_commitments s (verifier_leaf_commitment P s iv ch Opened CheckedTree)) (vector_commitments s (signer_leaf_commitment P s iv Tree)) s.tau vector-same

    -- ---- rows

    pub row_same : (z : Stretch) (i e p : ℕ) → i < s.tau → e < entries_of s i → (e ≡ hidden_index s ch i → ⊥) → stretch_byte P s z iv CheckedTree i e p ≡ stretch_byte P s z iv Tree i e p
    unfolding row_byte stretch_byte
    row_same z i e p h l d = ap (λ (k : List ℕ). P.prg_byte s (leaf_seed P s iv i k) iv (i + 2 ^ 31) (z.first + p)) (key-same i e h l d)
