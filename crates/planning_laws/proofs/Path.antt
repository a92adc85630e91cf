-- The way from leaf j up to the root in a tree of depth d. The node m steps up is `up_from d j m`; it lies above the leaf, and no node between it and the one before does. By the laws of ancestors.
use Prim.Native.Nat.{ℕ, zero, suc, ◌+◌, ◌-◌, ◌*◌, ◌/◌, ◌%◌, ◌^◌, ◌≤◌, ◌<◌}
use mathlib.Core.Path.{◌≡◌, refl, sym, ap, ap₂, ◌∙◌}
use mathlib.Core.Bool.{true, false}
use native.Mathlib.Nat.{two-pow-succ, div-one, div-eq_of_lt}
use native.Mathlib.Decide.{dec_lt, ℕ_discrete}
use native.Mathlib.Omega.{arith}
use lib.Pow.{pow_pos, shr-shr}
use lib.Bits.{bit_xor, differ, xor_step, xor_zero_r}
use borrow.Author.Tests.{eq-eqb, ne_eqb}
use Rattle.spec.specs.Bytes.{tabulate, index_of}
use Rattle.spec.specs.Tree.{parent, is_ancestor}
use Rattle.laws.proofs.Conjunctions.{contrary}
use Rattle.laws.proofs.Xor.{digit-cases}
use Rattle.planning_laws.proofs.Ancestors.{ancestor-parent, ancestor-self, ancestor-past, ancestor-through}

abbrev pub up_from : ℕ → ℕ → ℕ → ℕ
up_from d j m = 2 ^ (d - m) - 1 + j / 2 ^ m

-- the other number of a pair
flip : (q : ℕ) → bit_xor q 1 ≡ q / 2 * 2 + (1 - q % 2)
flip q = xor_step q 1 ∙ ap₂ (λ (a b : ℕ). a * 2 + b) (xor_zero_r (q / 2)) (digit-cases (λ x. differ x 1 ≡ 1 - x) refl refl (q % 2) (omega arith))

module _ (d j : ℕ) where
  -- j / 2^(m + 1) is half of j / 2^m, and there are half as many nodes a level up
  half : (m : ℕ) → j / 2 ^ suc m ≡ j / 2 ^ m / 2
  half m = ap (λ (n : ℕ). j / 2 ^ n) (let e : suc m ≡ m + 1 = omega arith in e) ∙ sym (shr-shr j m 1)

  level-up : (m : ℕ) → m < d → 2 ^ (d - m) ≡ 2 ^ (d - suc m) + 2 ^ (d - suc m)
  level-up m h = ap (λ (n : ℕ). 2 ^ n) (let e : d - m ≡ suc (d - suc m) = omega arith in e) ∙ two-pow-succ (d - suc m)

  pub parent_of : (m : ℕ) → m < d → parent (up_from d j m) ≡ up_from d j (suc m)
  unfolding parent
  parent_of m h =
      let a = half m in
      let b = level-up m h in
      let p = pow_pos (d - suc m) in
      omega arith

  pub below : (m : ℕ) → m < d → up_from d j (suc m) < up_from d j m
  below m h =
      let a = half m in
      let b = level-up m h in
      let p = pow_pos (d - suc m) in
      omega arith

  pub leaf-is : up_from d j 0 ≡ 2 ^ d - 1 + j
  leaf-is = ap₂ (λ (n q : ℕ). 2 ^ n - 1 + q) (let e : d - 0 ≡ d = omega arith in e) (div-one j)

  -- each node of the way lies above the leaf
  pub above : (m : ℕ) → m ≤ d → is_ancestor (up_from d j m) (up_from d j 0) ≡ true
  above zero h = ancestor-self (up_from d j 0)
  above (suc m) h =
      let l = below m (omega arith) in
      ancestor-through (up_from d j (suc m)) (up_from d j m) (up_from d j 0) (omega arith) (above m (omega arith))
      ∙ ancestor-parent (up_from d j (suc m)) (up_from d j m) l
      ∙ ap (is_ancestor (up_from d j (suc m))) (parent_of m (omega arith))
      ∙ ancestor-self (up_from d j (suc m))

  -- and none between two of them
  pub between : (m a : ℕ) → m < d → up_from d j (suc m) < a → a < up_from d j m → is_ancestor a (up_from d j 0) ≡ false
  between m a h lo hi =
      ancestor-through a (up_from d j m) (up_from d j 0) (omega arith) (above m (omega arith))
      ∙ ancestor-parent a (up_from d j m) hi
      ∙ ap (is_ancestor a) (parent_of m h)
      ∙ ancestor-past a (up_from d j (suc m)) lo

  -- ---- the sibling of a node of the way does not lie above the leaf

  -- the node m steps up is a child of the one above it
  child : (m : ℕ) → m < d → up_from d j m ≡ 2 * up_from d j (suc m) + 1 + j / 2 ^ m % 2
  child m h =
      let a = half m in
      let b = level-up m h in
      let p = pow_pos (d - suc m) in
      omega arith

  pub sibling-off : (m : ℕ) → m < d → is_ancestor (2 ^ (d - m) - 1 + bit_xor (j / 2 ^ m) 1) (up_from d j 0) ≡ false
  sibling-off m h = go m h (j / 2 ^ m % 2) refl (flip (j / 2 ^ m))
    where
      go : (m : ℕ) → m < d → (b : ℕ) → j / 2 ^ m % 2 ≡ b → bit_xor (j / 2 ^ m) 1 ≡ j / 2 ^ m / 2 * 2 + (1 - j / 2 ^ m % 2) → is_ancestor (2 ^ (d - m) - 1 + bit_xor (j / 2 ^ m) 1) (up_from d j 0) ≡ false
      go m h (suc b) e f = (let c = child m h in between m (2 ^ (d - m) - 1 + bit_xor (j / 2 ^ m) 1) h (omega arith) (omega arith))
      go zero h zero e f = ancestor-past (2 ^ (d - 0) - 1 + bit_xor (j / 2 ^ 0) 1) (up_from d j 0) (omega arith)
      go (suc m) h zero e f =
          let c = child m (omega arith) in
          let p = pow_pos (d - suc (suc m)) in
          let b = level-up (suc m) h in
          between m (2 ^ (d - suc m) - 1 + bit_xor (j / 2 ^ suc m) 1) (omega arith) (omega arith) (omega arith)

  -- ---- the nodes above the leaf are those of the way, and of the children of one the other is the sibling

  top : up_from d j d ≡ j / 2 ^ d
  top = ap (λ (n : ℕ). 2 ^ n - 1 + j / 2 ^ d) (let e : d - d ≡ 0 = omega arith in e) ∙ omega arith

  pub way : j < 2 ^ d → (k m a : ℕ) → m + k ≡ d → a ≤ up_from d j m → is_ancestor a (up_from d j 0) ≡ true → (n : ℕ) × (n ≤ d) × (a ≡ up_from d j n)
  way small zero m a e h t =
      let z : m ≡ d = omega arith in
      let q : j / 2 ^ d ≡ 0 = div-eq_of_lt small in
      let u : up_from d j m ≡ 0 = ap (up_from d j) z ∙ top ∙ q in
      (m, omega arith, omega arith)
  way small (suc k) m a e h t = go (ℕ_discrete a (up_from d j m)) (dec_lt (up_from d j (suc m)) a) (λ l. way small k (suc m) a (omega arith) l t)
    where
      go : Dec (a ≡ up_from d j m) → Dec (up_from d j (suc m) < a) → (a ≤ up_from d j (suc m) → (n : ℕ) × (n ≤ d) × (a ≡ up_from d j n)) → (n : ℕ) × (n ≤ d) × (a ≡ up_from d j n)
      go (yes s) l r = (m, omega arith, s)
      go (no s) (yes l) r = contrary t (between m a (omega arith) l (omega arith))
      go (no s) (no l) r = r (omega arith)

  pub left-sibling : (m : ℕ) → m < d → is_ancestor (2 * up_from d j (suc m) + 1) (up_from d j 0) ≡ false → 2 * up_from d j (suc m) + 1 ≡ 2 ^ (d - m) - 1 + bit_xor (j / 2 ^ m) 1
  left-sibling m h o = go (j / 2 ^ m % 2) refl
    where
      go : (b : ℕ) → j / 2 ^ m % 2 ≡ b → 2 * up_from d j (suc m) + 1 ≡ 2 ^ (d - m) - 1 + bit_xor (j / 2 ^ m) 1
      go zero e = contrary (ap (λ (n : ℕ). is_ancestor n (up_from d j 0)) (let c = child m h in let z : 2 * up_from d j (suc m) + 1 ≡ up_from d j m = omega arith in z) ∙ above m (omega arith)) o
      go (suc b) e = (let c = child m h in let f = flip (j / 2 ^ m) in omega arith)

  pub right-sibling : (m : ℕ) → m < d → is_ancestor (2 * up_from d j (suc m) + 2) (up_from d j 0) ≡ false → 2 * up_from d j (suc m) + 2 ≡ 2 ^ (d - m) - 1 + bit_xor (j / 2 ^ m) 1
  right-sibling m h o = go (j / 2 ^ m % 2) refl
    where
      go : (b : ℕ) → j / 2 ^ m % 2 ≡ b → 2 * up_from d j (suc m) + 2 ≡ 2 ^ (d - m) - 1 + bit_xor (j / 2 ^ m) 1
      go zero e = (let c = child m h in let f = flip (j / 2 ^ m) in omega arith)
      go (suc b) e =
          contrary
          (ap (λ (n : ℕ). is_ancestor n (up_from d j 0)) (let c = child m h in let z : 2 * up_from d j (suc m) + 2 ≡ up_from d j m = omega arith in z) ∙ above m (omega arith)) o

-- the first place of an entry of a list given by a rule, where no entry before it is the same
pub index-of : (n : ℕ) (f : ℕ → ℕ) (l : ℕ) → l < n → ((i : ℕ) → i < l → f l ≡ f i → ⊥) → index_of (f l) (tabulate n f) ≡ l
unfolding tabulate index_of
index-of zero f l h u = absurd (omega arith)
index-of (suc n) f zero h u = rw (eq-eqb (f 0) (f 0) refl) refl
index-of (suc n) f (suc l) h u = rw (ne_eqb (f (suc l)) (f 0) (u 0 (omega arith))) (ap suc (index-of n (λ i. f (suc i)) l (omega arith) (λ i k. u (suc i) (omega arith))))
