-- A node is above x exactly if it is x or one of its children is above x; nothing but itself is beneath a leaf; the root is above every node; the nodes above x are a chain.
-- By induction on the steps up.
use Prim.Native.Nat.{ℕ, zero, suc, ◌+◌, ◌-◌, ◌*◌, ◌≤◌, ◌<◌}
use mathlib.Core.Path.{◌≡◌, refl, sym, ap, ap₂, ◌∙◌}
use mathlib.Core.Bool.{Bool, true, false, ◌||◌, or-true}
use native.Mathlib.Omega.{arith}
use native.Mathlib.Decide.{dec_lt}
use lib.Dec.{eqb}
use borrow.Author.Tests.{le-ltb, lt-ltb, eq-eqb, ne_eqb}
use Rattle.spec.specs.Tree.{parent, is_ancestor_within, is_ancestor}
use Rattle.laws.proofs.Conjunctions.{contrary}

-- ---- within n steps

up : (n a x : ℕ) → a < x → is_ancestor_within (suc n) a x ≡ is_ancestor_within n a (parent x)
unfolding is_ancestor_within
up n a x h = rw (lt-ltb a x h, is_ancestor_within) refl

stop : (n a x : ℕ) → x ≤ a → is_ancestor_within n a x ≡ eqb a x
unfolding is_ancestor_within
stop zero a x h = refl
stop (suc n) a x h = rw (le-ltb a x h, is_ancestor_within) refl

-- more steps than the number of the node change nothing
more : (n a x : ℕ) → x ≤ n → is_ancestor_within (suc n) a x ≡ is_ancestor_within n a x
unfolding parent
more zero a x h = stop 1 a x (omega arith) ∙ sym (stop 0 a x (omega arith))
more (suc n) a x h = go (dec_lt a x) (λ l. more n a (parent x) l)
  where
    go : Dec (a < x) → (parent x ≤ n → is_ancestor_within (suc n) a (parent x) ≡ is_ancestor_within n a (parent x))
        → is_ancestor_within (suc (suc n)) a x ≡ is_ancestor_within (suc n) a x
    go (yes l) ih = up (suc n) a x l ∙ ih (omega arith) ∙ sym (up n a x l)
    go (no g) ih = stop (suc (suc n)) a x (omega arith) ∙ sym (stop (suc n) a x (omega arith))

enough : (a y d : ℕ) → is_ancestor_within (d + y) a y ≡ is_ancestor_within y a y
enough a y zero = ap (λ (n : ℕ). is_ancestor_within n a y) (let z : 0 + y ≡ y = omega arith in z)
enough a y (suc d) =
    ap (λ (n : ℕ). is_ancestor_within n a y) (let z : suc d + y ≡ suc (d + y) = omega arith in z)
    ∙ more (d + y) a y (omega arith)
    ∙ enough a y d

-- where the parent of x is not past a: x is a child of a, or a is not above x
near : (n a x : ℕ) → a < x → parent x ≤ a
    → is_ancestor_within n a (parent x) ≡ (is_ancestor_within n (2 * a + 1) x || is_ancestor_within n (2 * a + 2) x)
unfolding parent
near n a x h l = go (dec_lt (parent x) a) (dec_lt x (2 * a + 2))
  where
    go : Dec (parent x < a) → Dec (x < 2 * a + 2)
        → is_ancestor_within n a (parent x) ≡ (is_ancestor_within n (2 * a + 1) x || is_ancestor_within n (2 * a + 2) x)
    go (yes p) d =
        stop n a (parent x) l
        ∙ ne_eqb a (parent x) (λ e. omega arith)
        ∙ sym (ap₂ ◌||◌ (stop n (2 * a + 1) x (omega arith) ∙ ne_eqb (2 * a + 1) x (λ e. omega arith))
        (stop n (2 * a + 2) x (omega arith) ∙ ne_eqb (2 * a + 2) x (λ e. omega arith)))
    go (no p) (yes d) =
        stop n a (parent x) l
        ∙ eq-eqb a (parent x) (omega arith)
        ∙ ap (λ (b : Bool). b || is_ancestor_within n (2 * a + 2) x) (sym (stop n (2 * a + 1) x (omega arith) ∙ eq-eqb (2 * a + 1) x (omega arith)))
    go (no p) (no d) =
        stop n a (parent x) l
        ∙ eq-eqb a (parent x) (omega arith)
        ∙ sym (or-true (is_ancestor_within n (2 * a + 1) x))
        ∙ ap (λ (b : Bool). is_ancestor_within n (2 * a + 1) x || b) (sym (stop n (2 * a + 2) x (omega arith) ∙ eq-eqb (2 * a + 2) x (omega arith)))

none : (a x : ℕ) → (a ≡ x → ⊥) → is_ancestor_within zero a x ≡ false
unfolding is_ancestor_within
none a x h = ne_eqb a x h

split-within : (n a x : ℕ) → a < x → is_ancestor_within (suc n) a x ≡ (is_ancestor_within n (2 * a + 1) x || is_ancestor_within n (2 * a + 2) x)
unfolding parent
split-within zero a x h = up zero a x h ∙ go (dec_lt a (parent x))
  where
    go : Dec (a < parent x) → is_ancestor_within zero a (parent x) ≡ (is_ancestor_within zero (2 * a + 1) x || is_ancestor_within zero (2 * a + 2) x)
    go (no p) = near zero a x h (omega arith)
    go (yes p) =
        none a (parent x) (λ e. omega arith)
        ∙ sym (ap₂ ◌||◌ (none (2 * a + 1) x (λ e. omega arith)) (none (2 * a + 2) x (λ e. omega arith)))
split-within (suc m) a x h = up (suc m) a x h ∙ go (dec_lt a (parent x)) (λ p. split-within m a (parent x) p)
  where
    go : Dec (a < parent x)
        → (a < parent x
        → is_ancestor_within (suc m) a (parent x) ≡ (is_ancestor_within m (2 * a + 1) (parent x) || is_ancestor_within m (2 * a + 2) (parent x)))
        → is_ancestor_within (suc m) a (parent x) ≡ (is_ancestor_within (suc m) (2 * a + 1) x || is_ancestor_within (suc m) (2 * a + 2) x)
    go (no p) ih = near (suc m) a x h (omega arith)
    go (yes p) ih = ih p ∙ sym (ap₂ ◌||◌ (up m (2 * a + 1) x (omega arith)) (up m (2 * a + 2) x (omega arith)))

-- ---- ancestors

-- a node before x is above it exactly if one of its children is
pub ancestor-split : (a x : ℕ) → a < x → is_ancestor a x ≡ (is_ancestor (2 * a + 1) x || is_ancestor (2 * a + 2) x)
unfolding is_ancestor
ancestor-split a x h = split-within x a x h ∙ sym (ap₂ ◌||◌ (more x (2 * a + 1) x (omega arith)) (more x (2 * a + 2) x (omega arith)))

-- a node before x is above x exactly if it is above the parent of x
pub ancestor-parent : (a x : ℕ) → a < x → is_ancestor a x ≡ is_ancestor a (parent x)
unfolding is_ancestor parent
ancestor-parent a x h =
    up x a x h
    ∙ ap (λ (n : ℕ). is_ancestor_within n a (parent x)) (let z : x ≡ (x - parent x) + parent x = omega arith in z)
    ∙ enough a (parent x) (x - parent x)
    ∙ sym (more (parent x) a (parent x) (omega arith))

pub ancestor-self : (x : ℕ) → is_ancestor x x ≡ true
unfolding is_ancestor
ancestor-self x = stop (suc x) x x (omega arith) ∙ eq-eqb x x refl

-- no node is above one with a smaller number
pub ancestor-past : (a x : ℕ) → x < a → is_ancestor a x ≡ false
unfolding is_ancestor
ancestor-past a x h = stop (suc x) a x (omega arith) ∙ ne_eqb a x (λ e. omega arith)

-- nothing but itself is beneath a leaf of the tree with L leaves
pub ancestor-leaf : (L a x : ℕ) → L ≤ a + 1 → x + 1 < 2 * L → is_ancestor a x ≡ eqb a x
unfolding is_ancestor parent
ancestor-leaf L a x h l = go (dec_lt a x)
  where
    go : Dec (a < x) → is_ancestor_within (suc x) a x ≡ eqb a x
    go (no p) = stop (suc x) a x (omega arith)
    go (yes p) =
        up x a x p
        ∙ stop x a (parent x) (omega arith)
        ∙ ne_eqb a (parent x) (λ e. omega arith)
        ∙ sym (ne_eqb a x (λ e. omega arith))

-- the root is above every node up to d
pub ancestor-root : (d x : ℕ) → x ≤ d → is_ancestor 0 x ≡ true
unfolding parent
ancestor-root zero x h = ap (is_ancestor 0) (let z : x ≡ 0 = omega arith in z) ∙ ancestor-self 0
ancestor-root (suc d) x h = go (dec_lt 0 x) (λ l. ancestor-root d (parent x) l)
  where
    go : Dec (0 < x) → (parent x ≤ d → is_ancestor 0 (parent x) ≡ true) → is_ancestor 0 x ≡ true
    go (yes l) ih = ancestor-parent 0 x l ∙ ih (omega arith)
    go (no l) ih = ap (is_ancestor 0) (let z : x ≡ 0 = omega arith in z) ∙ ancestor-self 0

pub ancestor-le : (a x : ℕ) → is_ancestor a x ≡ true → a ≤ x
ancestor-le a x h = go (dec_lt x a)
  where
    go : Dec (x < a) → a ≤ x
    go (yes l) = contrary h (ancestor-past a x l)
    go (no l) = omega arith

through : (d a b x : ℕ) → x ≤ d → a ≤ b → is_ancestor b x ≡ true → is_ancestor a x ≡ is_ancestor a b
unfolding parent
through zero a b x h l t = ap (is_ancestor a) (let q = ancestor-le b x t in let z : x ≡ b = omega arith in z)
through (suc d) a b x h l t = go (dec_lt b x) (λ m. through d a b (parent x) m l)
  where
    go : Dec (b < x) → (parent x ≤ d → is_ancestor b (parent x) ≡ true → is_ancestor a (parent x) ≡ is_ancestor a b) → is_ancestor a x ≡ is_ancestor a b
    go (yes m) ih = ancestor-parent a x (omega arith) ∙ ih (omega arith) (sym (ancestor-parent b x m) ∙ t)
    go (no m) ih = ap (is_ancestor a) (let q = ancestor-le b x t in let z : x ≡ b = omega arith in z)

-- b is above x: a node up to b is above x exactly if it is above b
pub ancestor-through : (a b x : ℕ) → a ≤ b → is_ancestor b x ≡ true → is_ancestor a x ≡ is_ancestor a b
ancestor-through a b x l t = through x a b x (omega arith) l t
