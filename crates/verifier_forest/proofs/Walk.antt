-- The way from the root to leaf j of a tree of depth d, walked down while the nodes are passed in order. By the laws of the way up.
use Prim.Native.Nat.{ℕ, suc, ◌+◌, ◌-◌, ◌*◌, ◌/◌, ◌%◌, ◌^◌, ◌≤◌, ◌<◌}
use mathlib.Core.Path.{◌≡◌, refl, sym, ap, ap₂, ◌∙◌, subst}
use mathlib.Core.Bool.{false}
use native.Mathlib.Nat.{two-pow-succ, div-eq_of_lt}
use native.Mathlib.Numerals.{add-one}
use native.Mathlib.Decide.{dec_lt}
use native.Mathlib.Omega.{arith}
use lib.Pow.{pow_pos, pow_mono, shr-shr, shr_lt}
use lib.Bits.{bit_xor, differ, xor_step, xor_zero_r, xor_lt}
use Rattle.spec.specs.Bytes.{tabulate, index_of}
use Rattle.spec.specs.Tree.{is_ancestor}
use Rattle.spec.specs.Version1.{sibling_at}
use Rattle.laws.proofs.Xor.{digit-cases}
use Rattle.planning_laws.proofs.Path.{up_from, below, leaf-is, between, sibling-off, index-of}

-- the other number of a pair
flip : (q : ℕ) → bit_xor q 1 ≡ q / 2 * 2 + (1 - q % 2)
flip q = xor_step q 1 ∙ ap₂ (λ (a b : ℕ). a * 2 + b) (xor_zero_r (q / 2)) (digit-cases (λ x. differ x 1 ≡ 1 - x) refl refl (q % 2) (omega arith))

-- the nodes before a are passed, and `path`, at level l, is the next of the way: none from a to it lies above the leaf
pub record Walk (d j a path l : ℕ) : Type 0 where
  pub level : l ≤ d
  pub node : path ≡ up_from d j (d - l)
  pub reached : a ≤ path
  pub off : (b : ℕ) → a ≤ b → b < path → is_ancestor b (up_from d j 0) ≡ false

module _ (d j : ℕ) where
  pub walk_start : j < 2 ^ d → Walk d j 0 0 0
  walk_start small =
      let q : j / 2 ^ d ≡ 0 = div-eq_of_lt small in
      let z : up_from d j (d - 0) ≡ 0 = ap₂ (λ (m n : ℕ). 2 ^ m - 1 + j / 2 ^ n) (let e : d - (d - 0) ≡ 0 = omega arith in e) (let e : d - 0 ≡ d = omega arith in e) ∙ omega arith in
      record { level = omega arith; node = sym z; reached = omega arith; off = λ b h k. absurd (omega arith) }

  pub walk-past : (a path l : ℕ) → Walk d j a path l → (a ≡ path → ⊥) → Walk d j (a + 1) path l
  walk-past a path l k n = (let r = k.reached in let z : a < path = lt a path r n in record { level = k.level; node = k.node; reached = omega arith; off = λ b h g. k.off b (omega arith) g })
    where
      lt : (a b : ℕ) → a ≤ b → (a ≡ b → ⊥) → a < b
      lt a b h n = go (dec_lt a b)
        where
          go : Dec (a < b) → a < b
          go (yes l) = l
          go (no l) = absurd (n (omega arith))

  -- the node that is passed does not lie above the leaf
  pub walk-off : (a path l : ℕ) → Walk d j a path l → (a ≡ path → ⊥) → is_ancestor a (up_from d j 0) ≡ false
  walk-off a path l k n = (let z = (walk-past a path l k n).reached in k.off a (omega arith) (omega arith))

  -- a node of the way that is no leaf
  pub walk_inside : (a path l : ℕ) → Walk d j a path l → a ≡ path → a < 2 ^ d - 1 → l < d
  walk_inside a path l k e h = go (dec_lt l d)
    where
      go : Dec (l < d) → l < d
      go (yes p) = p
      go (no p) = absurd (let z : path ≡ up_from d j 0 = k.node ∙ ap (up_from d j) (let v = k.level in let y : d - l ≡ 0 = omega arith in y) in let y = leaf-is d j in omega arith)

  -- the node m steps up is a child of the one above it
  child : (m : ℕ) → m < d → up_from d j m ≡ 2 * up_from d j (suc m) + 1 + j / 2 ^ m % 2
  child m h =
      let a : j / 2 ^ suc m ≡ j / 2 ^ m / 2 = ap (λ (n : ℕ). j / 2 ^ n) (let e : suc m ≡ m + 1 = omega arith in e) ∙ sym (shr-shr j m 1) in
      let b : 2 ^ (d - m) ≡ 2 ^ (d - suc m) + 2 ^ (d - suc m) = ap (λ (n : ℕ). 2 ^ n) (let e : d - m ≡ suc (d - suc m) = omega arith in e) ∙ two-pow-succ (d - suc m) in
      let p = pow_pos (d - suc m) in
      omega arith

  -- the children of the node at level l: that of the way, and its sibling
  module _ (a l : ℕ) (h : l < d) (e : a ≡ up_from d j (d - l)) where
    abbrev m : ℕ
    m = d - 1 - l

    up : a ≡ up_from d j (suc m)
    up = e ∙ ap (up_from d j) (let z : d - l ≡ suc (d - 1 - l) = omega arith in z)

    pub child-on : 2 * a + 1 + j / 2 ^ (d - 1 - l) % 2 ≡ up_from d j (d - 1 - l)
    child-on = (let c = child m (omega arith) in let u = up in omega arith)

    sibling-as : sibling_at d j (l + 1) ≡ 2 ^ (d - m) - 1 + bit_xor (j / 2 ^ m) 1
    unfolding sibling_at
    sibling-as = ap₂ (λ (x y : ℕ). 2 ^ x - 1 + bit_xor (j / 2 ^ y) 1) (let z : l + 1 ≡ d - (d - 1 - l) = omega arith in z) (let z : d - (l + 1) ≡ d - 1 - l = omega arith in z)

    pub child-off : 2 * a + 2 - j / 2 ^ (d - 1 - l) % 2 ≡ sibling_at d j (l + 1)
    child-off = (let c = child m (omega arith) in let u = up in let f = flip (j / 2 ^ m) in let b = below d j m (omega arith) in let s = sibling-as in omega arith)

    pub off-way : is_ancestor (sibling_at d j (l + 1)) (up_from d j 0) ≡ false
    off-way = ap (λ (n : ℕ). is_ancestor n (up_from d j 0)) sibling-as ∙ sibling-off d j m (omega arith)

    pub walk-down : Walk d j (a + 1) (2 * a + 1 + j / 2 ^ (d - 1 - l) % 2) (l + 1)
    walk-down =
        let c = child-on in
        let u = up in
        let b = below d j m (omega arith) in
        record {
          level = omega arith;
          node = c ∙ ap (up_from d j) (let z : d - 1 - l ≡ d - (l + 1) = omega arith in z);
          reached = omega arith;
          off = λ n g k. between d j m n (omega arith) (omega arith) (omega arith);
        }

  -- ---- the siblings of two levels differ, since each lies on its own

  low : (l : ℕ) → 2 ^ (l + 1) - 1 ≤ sibling_at d j (l + 1)
  unfolding sibling_at
  low l = omega arith

  high : (l : ℕ) → j < 2 ^ d → l < d → sibling_at d j (l + 1) < 2 ^ (l + 1) + 2 ^ (l + 1) - 1
  unfolding sibling_at
  high l h k =
      let r = d - (l + 1) in
      let whole : d ≡ l + 1 + r = omega arith in
      let q : j / 2 ^ r < 2 ^ (l + 1) = shr_lt (l + 1) r (subst (λ (n : ℕ). j < 2 ^ n) whole h) in
      let one : 1 < 2 ^ (l + 1) = (let a = ap (λ (n : ℕ). 2 ^ n) (add-one l) ∙ two-pow-succ l in let p = pow_pos l in omega arith) in
      let x = xor_lt (l + 1) (j / 2 ^ r) 1 q one in
      omega arith

  twice-le : (m l : ℕ) → m < l → 2 ^ (m + 1) + 2 ^ (m + 1) ≤ 2 ^ (l + 1)
  twice-le m l h = (let a = ap (λ (n : ℕ). 2 ^ n) (add-one (m + 1)) ∙ two-pow-succ (m + 1) in let b = pow_mono {i = m + 1 + 1} {j = l + 1} (omega arith) in omega arith)

  -- so the sibling of level l + 1 is found at place l
  pub sibling-place : (l : ℕ) → j < 2 ^ d → l < d → index_of (sibling_at d j (l + 1)) (tabulate d (λ l. sibling_at d j (l + 1))) ≡ l
  sibling-place l small k =
      index-of d (λ l. sibling_at d j (l + 1)) l k (λ m n q. (let a = high m small (omega arith) in let b = low l in let z = twice-le m l n in omega arith))
