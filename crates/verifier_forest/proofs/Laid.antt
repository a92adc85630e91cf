-- Where the tree of vector i stands among all trees, and its slots in the opening. From the places of the vectors' nodes and bits.
use Prim.Native.Nat.{ℕ, ◌+◌, ◌-◌, ◌*◌, ◌^◌, ◌≤◌, ◌<◌}
use mathlib.Core.Path.{◌≡◌, sym, ap, ap₂, ◌∙◌}
use mathlib.Core.Bool.{true}
use mathlib.Core.List.{List, [], ◌++◌}
use native.Mathlib.Nat.{mul-add}
use native.Mathlib.Numerals.{add-one}
use native.Mathlib.Omega.{arith}
use lib.ListN.{length, take}
use lib.Seq.{take_all}
use Rattle.spec.specs.declared.Shape.{Shape}
use Rattle.spec.specs.Bytes.{part, concat}
use Rattle.spec.specs.Shapes.{level, node_bytes, depth_of, entries_of, first_bit, leaves, shape_ok, hidden_index}
use Rattle.spec.specs.Version1.{first_node, decommitment_from, slot1, trees1_bytes, opening1_bytes}
use Rattle.laws.proofs.Lists.{length_part, part-part}
use Rattle.laws.proofs.Concat.{mul-limit, mul-within}
use Rattle.laws.proofs.Putting.{put_next}
use Rattle.laws.proofs.Segments.{segment-before}
use Rattle.planning_laws.proofs.HiddenLeaves.{hidden-index-lt}
use Rattle.planning_laws.proofs.ShapeFacts.{shape-facts, vector-bits}
use Rattle.planning_laws.proofs.Forest.{node-next, node-all}
use Rattle.verifier_forest.specs.ByWay.{VectorOf}

module _ (s : Shape) (ok : shape_ok s ≡ true) (w i : ℕ) (e : w ≡ node_bytes s) where
  -- the trees before vector i have x nodes, and with its own y
  module _ (x y : ℕ) (ex : x ≡ first_node s i) (ey : y ≡ first_node s (i + 1)) where
    tree-size : w * y ≡ w * x + w * (2 * entries_of s i - 1)
    tree-size =
        let n = ey ∙ ap (first_node s) (add-one i) ∙ node-next s (shape-facts s ok) i in
        let z : y ≡ x + (2 * entries_of s i - 1) = omega arith in
        ap (λ (m : ℕ). w * m) z ∙ mul-add w x (2 * entries_of s i - 1)

    tree-within : i < s.tau → w * y ≤ trees1_bytes s
    unfolding trees1_bytes
    tree-within h =
        let f = shape-facts s ok in
        let n = ey ∙ ap (first_node s) (add-one i) ∙ node-next s f i in
        let a = segment-before (first_node s) (λ i. 2 * entries_of s i - 1) s.tau i (λ m q. node-next s f m) h in
        let t = node-all s f in
        mul-limit w y (node_bytes s) (2 * leaves s - s.tau) (omega arith) (omega arith)

    -- the part of the trees that is lent
    tree_lent : (trees : List ℕ) → w * y ≤ length trees → length (part trees (w * x) (w * y - w * x)) ≡ w * (2 * entries_of s i - 1)
    tree_lent trees h =
        let t = tree-size in
        let z : w * y - w * x ≡ w * (2 * entries_of s i - 1) = omega arith in
        ap (λ (m : ℕ). length (part trees (w * x) m)) z ∙ length_part trees (w * x) (w * (2 * entries_of s i - 1)) (omega arith)

    -- tree i put behind those before
    tree-put : (f : ℕ → List ℕ) (d z y' : List ℕ) → w * y ≤ length d → length y' ≡ w * (2 * entries_of s i - 1) → y' ≡ f i → take (w * first_node s i) d ≡ concat i f
        → take (w * first_node s (i + 1)) (take (w * x) d ++ (y' ++ z)) ≡ concat (i + 1) f
    tree-put f d z y' h l m g =
        let t = tree-size in
        ap (λ (n : ℕ). take (w * n) (take (w * x) d ++ (y' ++ z))) (sym ey)
        ∙ ap (λ (n : ℕ). take n (take (w * x) d ++ (y' ++ z))) t
        ∙ put_next f [] (w * (2 * entries_of s i - 1)) i (w * x) d (take (w * x) d ++ (y' ++ z)) z (omega arith) (sym (ap length m) ∙ l) (ap (λ (n : ℕ). take (w * n) d) ex ∙ g)
        (ap (λ (v : List ℕ). take (w * x) d ++ (v ++ z)) m)

  -- the decommitment of vector i begins at byte `from`
  module _ (h : i < s.tau) (from : ℕ) (ef : from ≡ decommitment_from s i) (opening : List ℕ) (long : length opening ≡ opening1_bytes s) where
    slots-within : from + w * depth_of s i ≤ length opening
    unfolding decommitment_from opening1_bytes
    slots-within =
        let b = vector-bits s i (shape-facts s ok) h in
        let v = ef ∙ ap (λ (n : ℕ). n * (first_bit s i + 2 * i)) (sym e) in
        let a = mul-add w (first_bit s i + 2 * i) (depth_of s i) in
        let m = mul-limit w (first_bit s i + 2 * i + depth_of s i) (node_bytes s) (level s + 2 * s.tau) (omega arith) (omega arith) in
        omega arith

    from-within : from ≤ length opening
    from-within = (let z = slots-within in omega arith)

    slots-long : (d : ℕ) → d ≡ depth_of s i → w * d ≤ length (part opening from (length opening - from))
    slots-long d ed =
        let z = slots-within in
        let n = length_part opening from (length opening - from) (omega arith) in
        let m = ap (λ (m : ℕ). w * m) ed in
        omega arith

    vector-of : (d j : ℕ) (ch : List ℕ) → d ≡ depth_of s i → j ≡ hidden_index s ch i → VectorOf w d j (part opening from (length opening - from)) s ch opening i
    unfolding slot1
    vector-of d j ch ed ej =
        record {
          shape = ok;
          width = e;
          depth = ed;
          index = ej;
          given = λ l k.
              let z = slots-within in
              let m = mul-within w l (depth_of s i) (omega arith) in
              part-part opening from (length opening - from) (w * l) w (omega arith) (omega arith)
              ∙ ap₂ (λ (a n : ℕ). part opening (a + n * l) n) ef e;
        }

  -- the trees of all vectors
  pub all-stand : (trees : List ℕ) (f : ℕ → List ℕ) → i ≡ s.tau → length trees ≡ trees1_bytes s → take (w * first_node s i) trees ≡ concat i f → trees ≡ concat s.tau f
  unfolding trees1_bytes
  all-stand trees f last long g =
      let t : w * first_node s i ≡ node_bytes s * (2 * leaves s - s.tau) = ap₂ ◌*◌ e (ap (first_node s) last ∙ node-all s (shape-facts s ok)) in
      sym (take_all (w * first_node s i) trees (omega arith)) ∙ g ∙ ap (λ (n : ℕ). concat n f) last

-- ---- what is lent for vector i

pub record Lent (s : Shape) (w i d j from x y : ℕ) (ch opening trees : List ℕ) : Type 0 where
  pub start : from ≤ length opening
  pub order : w * x ≤ w * y
  pub end : w * y ≤ length trees
  pub index : j < 2 ^ d
  pub slots : w * d ≤ length (part opening from (length opening - from))
  pub tree : length (part trees (w * x) (w * y - w * x)) ≡ w * (2 * 2 ^ d - 1)
  pub vector : VectorOf w d j (part opening from (length opening - from)) s ch opening i
  pub put : (f : ℕ → List ℕ) (z t : List ℕ) → length t ≡ w * (2 * 2 ^ d - 1) → t ≡ f i → take (w * first_node s i) trees ≡ concat i f
      → take (w * first_node s (i + 1)) (take (w * x) trees ++ (t ++ z)) ≡ concat (i + 1) f

pub lent : (s : Shape) (w i d j from x y : ℕ) (ch opening trees : List ℕ) → shape_ok s ≡ true → w ≡ node_bytes s → i < s.tau → d ≡ depth_of s i → j ≡ hidden_index s ch i
    → from ≡ decommitment_from s i → x ≡ first_node s i → y ≡ first_node s (i + 1) → length opening ≡ opening1_bytes s → length trees ≡ trees1_bytes s → Lent s w i d j from x y ch opening trees
unfolding entries_of
lent s w i d j from x y ch opening trees ok e h ed ej ef ex ey lo lt =
    let t = tree-size s ok w i e x y ex ey in
    let n = tree-within s ok w i e x y ex ey h in
    let size : w * (2 * entries_of s i - 1) ≡ w * (2 * 2 ^ d - 1) = ap (λ (m : ℕ). w * (2 * 2 ^ m - 1)) (sym ed) in
    let room : w * y ≤ length trees = omega arith in
    record {
      start = from-within s ok w i e h from ef opening lo;
      order = omega arith;
      end = room;
      index = (let q = hidden-index-lt s ch i in let p = ap (λ (m : ℕ). 2 ^ m) ed in omega arith);
      slots = slots-long s ok w i e h from ef opening lo d ed;
      tree = tree_lent s ok w i e x y ex ey trees room ∙ size;
      vector = vector-of s ok w i e h from ef opening lo d j ch ed ej;
      put = λ f z t l m g. tree-put s ok w i e x y ex ey f trees z t room (l ∙ sym size) m g;
    }
