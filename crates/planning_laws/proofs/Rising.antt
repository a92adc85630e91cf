-- Planning one node at a time. A tree whose last inner node is p, with p in place of the children of p, is a tree with one leaf less; up to node
-- 2 p the same nodes are covered. So what the nodes up to p reveal is what p reveals and what the smaller tree reveals, and the covered nodes are the children of p in the list
-- and those of the smaller tree. By induction on the list.
use Prim.Native.Nat.{ℕ, zero, suc, ◌+◌, ◌-◌, ◌*◌, ◌/◌, ◌≤◌, ◌<◌}
use mathlib.Core.Path.{◌≡◌, refl, sym, ap, ap₂, ◌∙◌}
use mathlib.Core.Bool.{Bool, true, false, ◌||◌, cond}
use mathlib.Core.List.{List, [], ◌∷◌, ◌++◌}
use native.Mathlib.Omega.{arith}
use native.Mathlib.Decide.{dec_lt}
use lib.Dec.{eqb, ltb}
use borrow.Author.Tests.{le-ltb, lt-ltb}
use Rattle.spec.specs.Tree.{parent, is_ancestor, some, covered, sibling_to_reveal, revealed_from}
use Rattle.planning_laws.specs.Lists.{Leaves, Below, passing}
use Rattle.planning_laws.proofs.Ancestors.{ancestor-parent, ancestor-past}
use Rattle.planning_laws.proofs.Covered.{covered-leaf}
use Rattle.planning_laws.proofs.Passing.{passing-same, passing-none}

-- tests that agree below 2 n + 1 reveal the same
pub revealed-same : (c d : ℕ → Bool) (n : ℕ) → ((x : ℕ) → x < 2 * n + 1 → c x ≡ d x) → revealed_from c n ≡ revealed_from d n
unfolding revealed_from
revealed-same c d zero e = refl
revealed-same c d (suc a) e =
    ap₂ ◌++◌ (ap₂ (λ (x y : Bool). sibling_to_reveal x y a) (e (2 * a + 1) (omega arith)) (e (2 * a + 2) (omega arith)))
    (revealed-same c d a (λ x h. e x (omega arith)))

-- ---- the children of p replaced by p

-- a node past 2 p goes to p
unfoldable pub raised : ℕ → ℕ → ℕ
raised p x = cond (ltb (2 * p) x) p x

unfoldable pub raised_all : ℕ → List ℕ → List ℕ
raised_all p [] = []
raised_all p (x ∷ xs) = raised p x ∷ raised_all p xs

pub raised-low : (p x : ℕ) → x ≤ 2 * p → raised p x ≡ x
unfolding raised
raised-low p x h = rw (le-ltb (2 * p) x h) refl

pub raised-high : (p x : ℕ) → 2 * p < x → raised p x ≡ p
unfolding raised
raised-high p x h = rw (lt-ltb (2 * p) x h) refl

ancestor-raised : (p x y : ℕ) → x ≤ 2 * p → y ≤ 2 * p + 2 → is_ancestor x (raised p y) ≡ is_ancestor x y
unfolding parent
ancestor-raised p x y h l = go (dec_lt (2 * p) y)
  where
    go : Dec (2 * p < y) → is_ancestor x (raised p y) ≡ is_ancestor x y
    go (yes q) =
        ap (is_ancestor x) (raised-high p y q ∙ (let z : p ≡ parent y = omega arith in z)) ∙ sym (ancestor-parent x y (omega arith))
    go (no q) = ap (is_ancestor x) (raised-low p y (omega arith))

covered-raised : (p x : ℕ) (cur : List ℕ) → Leaves (suc (suc p)) cur → x ≤ 2 * p → covered (raised_all p cur) x ≡ covered cur x
unfolding covered some raised_all
covered-raised p x [] ls h = refl
covered-raised p x (y ∷ ys) ls h = ap₂ ◌||◌ (ancestor-raised p x y h (omega arith)) (covered-raised p x ys ls.2 h)

-- node p reveals what its children in the list say; the rest is the smaller tree's
revealed-raised : (p : ℕ) (cur : List ℕ) → Leaves (suc (suc p)) cur
    → revealed_from (covered cur) (suc p)
    ≡ sibling_to_reveal (some (eqb (2 * p + 1)) cur) (some (eqb (2 * p + 2)) cur) p ++ revealed_from (covered (raised_all p cur)) p
unfolding revealed_from
revealed-raised p cur ls =
    ap₂ ◌++◌
    (ap₂ (λ (l r : Bool). sibling_to_reveal l r p) (covered-leaf (suc (suc p)) (2 * p + 1) cur ls (omega arith))
    (covered-leaf (suc (suc p)) (2 * p + 2) cur ls (omega arith)))
    (revealed-same (covered cur) (covered (raised_all p cur)) p (λ x h. sym (covered-raised p x cur ls (omega arith))))

-- the children of p that are covered, by whether the left and the right one are
unfoldable pub covered_children : Bool → Bool → ℕ → List ℕ
covered_children l r p = cond r ((2 * p + 2) ∷ []) [] ++ cond l ((2 * p + 1) ∷ []) []

passing-two : (c : ℕ → Bool) (p : ℕ) → passing c (2 * p + 3) ≡ covered_children (c (2 * p + 1)) (c (2 * p + 2)) p ++ passing c (2 * p + 1)
unfolding passing covered_children
passing-two c p =
    let s : 2 * p + 3 ≡ suc (suc (2 * p + 1)) = omega arith in
    let r : suc (2 * p + 1) ≡ 2 * p + 2 = omega arith in
    ap (passing c) s
    ∙ ap (λ (m : ℕ). cond (c m) (m ∷ Low) Low) r
    ∙ go (c (2 * p + 1)) (c (2 * p + 2)) (passing c (2 * p + 1))
  where
    Low : List ℕ
    Low = cond (c (2 * p + 1)) ((2 * p + 1) ∷ passing c (2 * p + 1)) (passing c (2 * p + 1))

    go : (x y : Bool) (l : List ℕ) → cond y ((2 * p + 2) ∷ cond x ((2 * p + 1) ∷ l) l) (cond x ((2 * p + 1) ∷ l) l) ≡ (cond y ((2 * p + 2) ∷ []) [] ++ cond x ((2 * p + 1) ∷ []) []) ++ l
    go true true l = refl
    go true false l = refl
    go false true l = refl
    go false false l = refl

-- of the covered nodes the children of p are those in the list; the rest is the smaller tree's
covered-nodes-raised : (p : ℕ) (cur : List ℕ) → Leaves (suc (suc p)) cur
    → passing (covered cur) (2 * p + 3) ≡ covered_children (some (eqb (2 * p + 1)) cur) (some (eqb (2 * p + 2)) cur) p ++ passing (covered (raised_all p cur)) (2 * p + 1)
covered-nodes-raised p cur ls =
    passing-two (covered cur) p
    ∙ ap₂ ◌++◌
    (ap₂ (λ (l r : Bool). covered_children l r p) (covered-leaf (suc (suc p)) (2 * p + 1) cur ls (omega arith))
    (covered-leaf (suc (suc p)) (2 * p + 2) cur ls (omega arith)))
    (passing-same (covered cur) (covered (raised_all p cur)) (2 * p + 1) (λ x h. sym (covered-raised p x cur ls (omega arith))))

-- ---- straight to the parent of the largest node

pub below_more : (b c : ℕ) (xs : List ℕ) → b ≤ c → Below b xs → Below c xs
below_more b c [] h u = tt
below_more b c (x ∷ xs) h u = (omega arith, below_more b c xs h u.1)

covered-past : (x b : ℕ) (cur : List ℕ) → b ≤ x → Below b cur → covered cur x ≡ false
unfolding covered some
covered-past x b [] h u = refl
covered-past x b (y ∷ ys) h u = ap₂ ◌||◌ (ancestor-past x y (omega arith)) (covered-past x b ys h u.1)

-- nodes past the parent of the largest reveal nothing
skip : (d p : ℕ) (cur : List ℕ) → Below (2 * p + 3) cur → revealed_from (covered cur) (d + suc p) ≡ revealed_from (covered cur) (suc p)
unfolding revealed_from sibling_to_reveal
skip zero p cur u = ap (revealed_from (covered cur)) (let z : 0 + suc p ≡ suc p = omega arith in z)
skip (suc d) p cur u =
    ap (revealed_from (covered cur)) (let z : suc d + suc p ≡ suc (d + suc p) = omega arith in z)
    ∙ ap₂ ◌++◌
    (ap₂ (λ (l r : Bool). sibling_to_reveal l r (d + suc p)) (covered-past (2 * (d + suc p) + 1) (2 * p + 3) cur (omega arith) u)
    (covered-past (2 * (d + suc p) + 2) (2 * p + 3) cur (omega arith) u))
    (skip d p cur u)

leaves-down : (a p : ℕ) (cur : List ℕ) → p < a → Below (2 * p + 3) cur → Leaves (suc a) cur → Leaves (suc (suc p)) cur
leaves-down a p [] h u ls = tt
leaves-down a p (x ∷ xs) h u ls = (omega arith, omega arith, leaves-down a p xs h u.1 ls.2)

-- one turn: from the nodes below a to the nodes below p, the parent of the largest node x
pub record Turn (a p x : ℕ) (cur : List ℕ) : Type 0 where
  pub less : p < a
  pub low : 2 * p < x
  pub high : x ≤ 2 * p + 2
  pub gives :
      revealed_from (covered cur) a
      ≡ sibling_to_reveal (some (eqb (2 * p + 1)) cur) (some (eqb (2 * p + 2)) cur) p ++ revealed_from (covered (raised_all p cur)) p
  pub takes :
      passing (covered cur) (2 * a + 1)
      ≡ covered_children (some (eqb (2 * p + 1)) cur) (some (eqb (2 * p + 2)) cur) p ++ passing (covered (raised_all p cur)) (2 * p + 1)

pub turn : (a x : ℕ) (xs : List ℕ) → 0 < a → Leaves (suc a) (x ∷ xs) → Below x xs → Turn a ((x - 1) / 2) x (x ∷ xs)
turn a x xs h ls f =
    let p : ℕ = (x - 1) / 2 in
    let u : Below (2 * p + 3) (x ∷ xs) = (omega arith, below_more x (2 * p + 3) xs (omega arith) f) in
    record {
      less = omega arith;
      low = omega arith;
      high = omega arith;
      gives =
          ap (revealed_from (covered (x ∷ xs))) (let z : a ≡ a - suc p + suc p = omega arith in z)
          ∙ skip (a - suc p) p (x ∷ xs) u
          ∙ revealed-raised p (x ∷ xs) (leaves-down a p (x ∷ xs) (omega arith) u ls);
      takes =
          ap (passing (covered (x ∷ xs))) (let z : 2 * a + 1 ≡ 2 * (a - suc p) + (2 * p + 3) = omega arith in z)
          ∙ passing-none (covered (x ∷ xs)) (2 * (a - suc p)) (2 * p + 3) (λ y l. covered-past y (2 * p + 3) (x ∷ xs) l u)
          ∙ covered-nodes-raised p (x ∷ xs) (leaves-down a p (x ∷ xs) (omega arith) u ls);
    }
