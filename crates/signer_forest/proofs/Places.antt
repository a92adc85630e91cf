-- Where the tree of a vector and its root stand, and a tree put behind those before it. By the laws of strings laid one after another.
use Prim.Native.Nat.{ℕ, ◌+◌, ◌-◌, ◌*◌, ◌≤◌, ◌<◌}
use mathlib.Core.Path.{◌≡◌, sym, ap, ap₂, ◌∙◌}
use mathlib.Core.Bool.{true}
use mathlib.Core.List.{List, [], ◌++◌}
use native.Mathlib.Nat.{mul-add, mul-le-mul, le_refl}
use native.Mathlib.Numerals.{add-one}
use native.Mathlib.Omega.{arith}
use lib.ListN.{length, take}
use lib.Pow.{pow_pos}
use Rattle.spec.specs.declared.Shape.{Shape}
use Rattle.spec.specs.Bytes.{part, concat}
use Rattle.spec.specs.Shapes.{node_bytes, depth_of, entries_of, leaves, shape_ok}
use Rattle.spec.specs.Version1.{first_node, trees1_bytes}
use Rattle.laws.proofs.Concat.{mul-within, mul-limit}
use Rattle.laws.proofs.Lists.{length_part}
use Rattle.laws.proofs.Putting.{put_next}
use Rattle.laws.proofs.Segments.{segment-before}
use Rattle.planning_laws.proofs.ShapeFacts.{shape-facts, widths, leaves-max}
use Rattle.planning_laws.proofs.Forest.{node-next, node-all}

-- vector i, with nodes of n bytes, e entries and f nodes before its tree: its tree in d bytes of trees, and its root in r bytes of roots
pub record Placed (s : Shape) (i n e f d r : ℕ) : Type 0 where
  pub next : n * f + n * (2 * (e - 1) + 1) ≡ node_bytes s * first_node s (i + 1)
  pub room : n * f + n * (2 * (e - 1) + 1) ≤ d
  pub small : d ≤ 5505024
  pub root : n * i + n ≤ r
  pub few : r ≤ 1024

pub placed : (s : Shape) (i n e f d r : ℕ) → shape_ok s ≡ true → i < s.tau → n ≡ node_bytes s → e ≡ entries_of s i → f ≡ first_node s i → d ≡ trees1_bytes s → r ≡ node_bytes s * s.tau → Placed s i n e f d r
unfolding trees1_bytes entries_of
placed s i n e f d r ok h en ee ef ed er =
    let facts = shape-facts s ok in
    let w = widths s facts in
    let all = node-all s facts in
    let most = leaves-max s facts in
    let pos = pow_pos (depth_of s i) in
    let before = segment-before (first_node s) (λ i. 2 * entries_of s i - 1) s.tau i (λ m q. node-next s facts m) h in
    let here = ap (first_node s) (add-one i) ∙ node-next s facts i in
    let size : f + (2 * (e - 1) + 1) ≡ first_node s (i + 1) = omega arith in
    let end : n * f + n * (2 * (e - 1) + 1) ≡ node_bytes s * first_node s (i + 1) = sym (mul-add n f (2 * (e - 1) + 1)) ∙ ap₂ ◌*◌ en size in
    let inside : node_bytes s * first_node s (i + 1) ≤ node_bytes s * (2 * leaves s - s.tau) = mul-le-mul (le_refl (node_bytes s)) (omega arith) in
    let bytes = mul-limit (node_bytes s) (2 * leaves s - s.tau) 32 172032 w.node-max (omega arith) in
    let own = mul-within (node_bytes s) i s.tau h in
    let at : n * i ≡ node_bytes s * i = ap (λ (m : ℕ). m * i) en in
    let roots = mul-limit (node_bytes s) s.tau 32 32 w.node-max facts.tau-max in
    record { next = end; room = omega arith; small = omega arith; root = omega arith; few = omega arith }

-- a part of n bytes, lent from v to w
pub lent : (v w n : ℕ) (l : List ℕ) → w ≡ v + n → w ≤ length l → length (part l v (w - v)) ≡ n
lent v w n l e h =
    let z : w - v ≡ n = omega arith in
    ap (λ (m : ℕ). length (part l v m)) z ∙ length_part l v n (omega arith)

-- string i, of w bytes, put behind the i before it, which end at p, in a part lent from v on; it ends at q
pub put-behind : (f : ℕ → List ℕ) (v p w q i : ℕ) (d y z : List ℕ) → v ≡ p → v + w ≡ q → v + w ≤ length d → length y ≡ w → y ≡ f i → take p d ≡ concat i f
    → take q (take v d ++ (y ++ z)) ≡ concat (i + 1) f
put-behind f v p w q i d y z ev eq hd hy e r =
    let a : take v d ++ (y ++ z) ≡ take p d ++ (f i ++ z) = ap₂ (λ (n : ℕ) (x : List ℕ). take n d ++ (x ++ z)) ev e in
    let end : q ≡ p + w = omega arith in
    ap (λ (n : ℕ). take n (take v d ++ (y ++ z))) end
    ∙ put_next f [] w i p d (take v d ++ (y ++ z)) z (omega arith) (sym (ap length e) ∙ hy) r a
