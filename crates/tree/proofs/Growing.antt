-- A tree whose first nodes stand, with the next two children put behind them. By the laws of `take` and `++`.
use Prim.Native.Nat.{ℕ, ◌+◌, ◌*◌, ◌≤◌}
use mathlib.Core.Path.{◌≡◌, sym, ap, ap₂, ◌∙◌}
use mathlib.Core.List.{List, ◌++◌}
use native.Mathlib.Nat.{mul-add}
use native.Mathlib.Omega.{arith}
use native.Mathlib.Numerals.{add-one}
use lib.ListN.{length, take, drop, take-append-drop}
use lib.Seq.{length-take-le}
use Rattle.spec.specs.declared.Shape.{Shape}
use Rattle.spec.specs.Bytes.{part}
use Rattle.spec.specs.Tree.{expand_tree}
use Rattle.spec.specs.Shapes.{node_bytes}
use Rattle.spec.specs.Primitives.{Primitives, prg}
use Rattle.spec.specs.Leaves.{children}
use Rattle.laws.proofs.Lists.{length-tabulate}
use Rattle.laws.proofs.Concat.{part-front}
use Rattle.laws.proofs.Putting.{put-take}

-- where node 2 a + k begins, in nodes of w bytes
pub node-place : (w a k : ℕ) → w * (2 * a + k) ≡ w * a + w * a + w * k
node-place w a k =
    ap (λ (n : ℕ). w * (n + k)) (let e : 2 * a ≡ a + a = omega arith in e)
    ∙ mul-add w (a + a) k
    ∙ ap (λ (n : ℕ). n + w * k) (mul-add w a a)

pub length-children : (P : Primitives) (s : Shape) (iv : List ℕ) (a : ℕ) (x : List ℕ) → length (children P s iv a x) ≡ 2 * node_bytes s
unfolding prg children
length-children P s iv a x = length-tabulate (2 * node_bytes s) (P.prg_byte s x iv a)

module _ (w : ℕ) (first : List ℕ) (ch : ℕ → List ℕ → List ℕ) where
  pub grown-more : (a : ℕ) (x : List ℕ) → w * (2 * a + 1) ≤ length x → length (ch a (part x (w * a) w)) ≡ 2 * w → take (w * (2 * a + 1)) x ≡ expand_tree w first ch a
      → take (w * (2 * (a + 1) + 1)) (take (w * (2 * a + 1)) x ++ (ch a (part x (w * a) w) ++ drop (w * (2 * a + 3)) x)) ≡ expand_tree w first ch (a + 1)
  unfolding expand_tree
  grown-more a x h two e =
      let n = w * (2 * a + 1) in
      let c = ch a (part x (w * a) w) in
      let one = node-place w a 1 in
      let three = node-place w a 3 in
      let inside : w * a + w ≤ n = omega arith in
      let p : part x (w * a) w ≡ part (expand_tree w first ch a) (w * a) w =
      ap (λ (y : List ℕ). part y (w * a) w) (sym (take-append-drop n x))
      ∙ part-front (take n x) (drop n x) (w * a) w (let l = length-take-le n x h in omega arith)
      ∙ ap (λ (y : List ℕ). part y (w * a) w) e
      in
      let next : w * (2 * (a + 1) + 1) ≡ n + 2 * w = ap (λ (m : ℕ). w * m) (let z : 2 * (a + 1) + 1 ≡ 2 * a + 3 = omega arith in z) ∙ omega arith in
      ap (λ (m : ℕ). take m (take n x ++ (c ++ drop (w * (2 * a + 3)) x))) next
      ∙ put-take n (2 * w) x c (drop (w * (2 * a + 3)) x) h two
      ∙ ap₂ (λ (y z : List ℕ). y ++ ch a z) e p
      ∙ ap (expand_tree w first ch) (sym (add-one a))
