-- The bytes of a tree that is expanded node after node: its length, and that a node's bytes never change once they stand. By induction on the nodes
-- expanded; w bytes a node, the children of nodes below N being 2 w bytes.
use Prim.Native.Nat.{ℕ, zero, suc, ◌+◌, ◌*◌, ◌≤◌, ◌<◌}
use mathlib.Core.Path.{◌≡◌, refl, ap, ◌∙◌}
use mathlib.Core.List.{List, ◌++◌}
use native.Mathlib.Omega.{arith}
use native.Mathlib.Nat.{mul-zero}
use native.Mathlib.Decide.{dec_lt}
use lib.ListN.{length, length-append}
use Rattle.spec.specs.Bytes.{part}
use Rattle.spec.specs.Tree.{expand_tree}
use Rattle.laws.proofs.Concat.{part-front, part-after, mul_next, mul-within}

module _ (w : ℕ) (first : List ℕ) (children : ℕ → List ℕ → List ℕ) (N : ℕ) (one : length first ≡ w) (two : (a : ℕ) → a < N → (x : List ℕ) → length (children a x) ≡ 2 * w) where
  pub expand-length : (n : ℕ) → n ≤ N → length (expand_tree w first children n) ≡ w * (2 * n + 1)
  unfolding expand_tree
  expand-length zero h = (let m = mul_next w 0 in let z = mul-zero w in omega arith)
  expand-length (suc n) h =
      let a = expand-length n (omega arith) in
      let b = two n h (part (expand_tree w first children n) (w * n) w) in
      let p = mul_next w (2 * n + 1) in
      let q = mul_next w (2 * n + 2) in
      let e : w * (2 * suc n + 1) ≡ w * (2 * n + 2 + 1) = ap (λ (m : ℕ). w * m) (let z : 2 * suc n + 1 ≡ 2 * n + 2 + 1 = omega arith in z) in
      let g : w * (2 * n + 1 + 1) ≡ w * (2 * n + 2) = ap (λ (m : ℕ). w * m) (let z : 2 * n + 1 + 1 ≡ 2 * n + 2 = omega arith in z) in
      simp length-append (omega arith)

  pub expand-front : (n m c : ℕ) → n ≤ m → m ≤ N → c < 2 * n + 1 → part (expand_tree w first children m) (w * c) w ≡ part (expand_tree w first children n) (w * c) w
  unfolding expand_tree
  expand-front n zero c h k l = ap (λ (x : ℕ). part (expand_tree w first children x) (w * c) w) (let z : 0 ≡ n = omega arith in z)
  expand-front n (suc m) c h k l = go (dec_lt m n) (λ d. expand-front n m c d (omega arith) l)
    where
      go : Dec (m < n) → (n ≤ m → part (expand_tree w first children m) (w * c) w ≡ part (expand_tree w first children n) (w * c) w)
          → part (expand_tree w first children m ++ children m (part (expand_tree w first children m) (w * m) w)) (w * c) w ≡ part (expand_tree w first children n) (w * c) w
      go (yes d) ih = ap (λ (x : ℕ). part (expand_tree w first children x) (w * c) w) (let z : suc m ≡ n = omega arith in z)
      go (no d) ih =
          let a = expand-length m (omega arith) in
          let b = mul-within w c (2 * m + 1) (omega arith) in
          part-front (expand_tree w first children m) (children m (part (expand_tree w first children m) (w * m) w)) (w * c) w (omega arith) ∙ ih (omega arith)

  pub expand-left : (n : ℕ) → n ≤ N → part (expand_tree w first children (suc n)) (w * (2 * n + 1)) w ≡ part (children n (part (expand_tree w first children n) (w * n) w)) 0 w
  unfolding expand_tree
  expand-left n h =
      let a = expand-length n h in
      part-after (expand_tree w first children n) (children n (part (expand_tree w first children n) (w * n) w)) (w * (2 * n + 1)) 0 w (omega arith)

  pub expand-right : (n : ℕ) → n ≤ N → part (expand_tree w first children (suc n)) (w * (2 * n + 2)) w ≡ part (children n (part (expand_tree w first children n) (w * n) w)) w w
  unfolding expand_tree
  expand-right n h =
      let a = expand-length n h in
      let p = mul_next w (2 * n + 1) in
      let g : w * (2 * n + 1 + 1) ≡ w * (2 * n + 2) = ap (λ (m : ℕ). w * m) (let z : 2 * n + 1 + 1 ≡ 2 * n + 2 = omega arith in z) in
      part-after (expand_tree w first children n) (children n (part (expand_tree w first children n) (w * n) w)) (w * (2 * n + 2)) w w (omega arith)

-- rules for the children that agree give the same tree
pub expand-same : (w : ℕ) (first : List ℕ) (f g : ℕ → List ℕ → List ℕ) (n : ℕ) → ((a : ℕ) → a < n → (x : List ℕ) → f a x ≡ g a x)
    → expand_tree w first f n ≡ expand_tree w first g n
unfolding expand_tree
expand-same w first f g zero h = refl
expand-same w first f g (suc n) h =
    ap (λ (t : List ℕ). t ++ f n (part t (w * n) w)) (expand-same w first f g n (λ a l. h a (omega arith)))
    ∙ ap (λ (y : List ℕ). expand_tree w first g n ++ y) (h n (omega arith) (part (expand_tree w first g n) (w * n) w))
