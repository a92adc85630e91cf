-- Places in a descending list: of the numbers at or after x, x itself, if it is in the list, is the last. So it is looked for at one place alone, and one number more is
-- passed exactly if it is there. By induction on the list.
use Prim.Native.Nat.{ℕ, zero, suc, ◌+◌, ◌-◌, ◌*◌, ◌≤◌, ◌<◌}
use mathlib.Core.Path.{◌≡◌, refl, sym, ap, ap₂, ◌∙◌}
use mathlib.Core.Bool.{Bool, true, false, ◌||◌, cond}
use mathlib.Core.List.{List, [], ◌∷◌}
use native.Mathlib.Omega.{arith}
use native.Mathlib.Decide.{dec_lt, ℕ_discrete}
use lib.Dec.{eqb, leb}
use lib.ListN.{length, get_or}
use borrow.Author.Tests.{eq-eqb, ne_eqb, le-leb, lt-leb}
use Rattle.spec.specs.Tree.{some}
use Rattle.planning_laws.specs.Lists.{Below, Descending}
use Rattle.planning_laws.proofs.Members.{or-none}
use Rattle.planning_laws.proofs.Rising.{below_more}
use Rattle.verifier_tree.specs.ByNodes.{listed, at_or_after}

abbrev one : Bool → ℕ
one b = cond b 1 0

-- numbers below x
none_after : (x : ℕ) (l : List ℕ) → Below x l → at_or_after l x ≡ 0
unfolding at_or_after
none_after x [] u = refl
none_after x (y ∷ ys) u = ap₂ ◌+◌ (ap one (lt-leb x y u.0)) (none_after x ys u.1)

pub all_after : (l : List ℕ) → at_or_after l 0 ≡ length l
unfolding at_or_after
all_after [] = refl
all_after (y ∷ ys) = (let e = ap one (le-leb 0 y (omega arith)) in let ih = all_after ys in omega arith)

pub after-most : (l : List ℕ) (x : ℕ) → at_or_after l x ≤ length l
unfolding at_or_after
after-most [] x = omega arith
after-most (y ∷ ys) x = go (leb x y) (after-most ys x)
  where
    go : (b : Bool) → at_or_after ys x ≤ length ys → cond b 1 0 + at_or_after ys x ≤ length (y ∷ ys)
    go true ih = omega arith
    go false ih = omega arith

-- one is passed where x is in the list
pub after-step : (l : List ℕ) (x : ℕ) → Descending l → at_or_after l x ≡ cond (listed l x) 1 0 + at_or_after l (x + 1)
unfolding listed some at_or_after
after-step [] x f = refl
after-step (y ∷ ys) x f = go (dec_lt y x) (ℕ_discrete x y) (after-step ys x f.1)
  where
    go : Dec (y < x) → Dec (x ≡ y) → at_or_after ys x ≡ cond (some (eqb x) ys) 1 0 + at_or_after ys (x + 1)
        → cond (leb x y) 1 0 + at_or_after ys x ≡ cond (eqb x y || some (eqb x) ys) 1 0 + (cond (leb (x + 1) y) 1 0 + at_or_after ys (x + 1))
    go (yes l) d ih =
        let a = ap one (lt-leb x y l) in
        let b = ap one (lt-leb (x + 1) y (omega arith)) in
        let c = ap one (ap (λ (z : Bool). z || some (eqb x) ys) (ne_eqb x y (λ e. omega arith))) in
        omega arith
    go (no l) (yes d) ih =
        let a = ap one (le-leb x y (omega arith)) in
        let b = ap one (lt-leb (x + 1) y (omega arith)) in
        let c = ap one (ap (λ (z : Bool). z || some (eqb x) ys) (eq-eqb x y d)) in
        let e = none_after x ys (below_more y x ys (omega arith) f.0) in
        let g = none_after (x + 1) ys (below_more y (x + 1) ys (omega arith) f.0) in
        omega arith
    go (no l) (no d) ih =
        let a = ap one (le-leb x y (omega arith)) in
        let b = ap one (le-leb (x + 1) y (omega arith)) in
        let c = ap one (ap (λ (z : Bool). z || some (eqb x) ys) (ne_eqb x y d)) in
        omega arith

pub after_none : (l : List ℕ) (x : ℕ) → Descending l → at_or_after l x ≡ 0 → listed l x ≡ false
after_none l x f e = go (listed l x) (after-step l x f)
  where
    go : (b : Bool) → at_or_after l x ≡ cond b 1 0 + at_or_after l (x + 1) → b ≡ false
    go true h = absurd (omega arith)
    go false h = refl

-- the last of those at or after x is x, or x is not in the list
pub after_last : (l : List ℕ) (x : ℕ) → Descending l → 0 < at_or_after l x → eqb (get_or l (at_or_after l x - 1) 0) x ≡ listed l x
unfolding listed some at_or_after
after_last [] x f h = absurd (omega arith)
after_last (y ∷ ys) x f h = go (dec_lt y x) (λ p. after_last ys x f.1 p)
  where
    go : Dec (y < x) → (0 < at_or_after ys x → eqb (get_or ys (at_or_after ys x - 1) 0) x ≡ some (eqb x) ys)
        → eqb (get_or (y ∷ ys) (cond (leb x y) 1 0 + at_or_after ys x - 1) 0) x ≡ (eqb x y || some (eqb x) ys)
    go (yes l) ih = absurd (let a = ap one (lt-leb x y l) in let b = none_after x ys (below_more y x ys (omega arith) f.0) in omega arith)
    go (no l) ih =
        let p : cond (leb x y) 1 0 + at_or_after ys x - 1 ≡ at_or_after ys x = (let a = ap one (le-leb x y (omega arith)) in omega arith) in
        ap (λ (i : ℕ). eqb (get_or (y ∷ ys) i 0) x) p ∙ at (at_or_after ys x) refl (ℕ_discrete x y)
      where
        at : (k : ℕ) → at_or_after ys x ≡ k → Dec (x ≡ y) → eqb (get_or (y ∷ ys) k 0) x ≡ (eqb x y || some (eqb x) ys)
        at zero e (yes d) = eq-eqb y x (sym d) ∙ sym (ap (λ (b : Bool). b || some (eqb x) ys) (eq-eqb x y d))
        at zero e (no d) = ne_eqb y x (λ z. d (sym z)) ∙ sym (ap₂ ◌||◌ (ne_eqb x y d) (after_none ys x f.1 e))
        at (suc k) e (yes d) = absurd (let z = none_after x ys (below_more y x ys (omega arith) f.0) in omega arith)
        at (suc k) e (no d) =
            ap (λ (j : ℕ). eqb (get_or ys j 0) x) (let z : k ≡ at_or_after ys x - 1 = omega arith in z)
            ∙ ih (omega arith)
            ∙ sym (ap (λ (b : Bool). b || some (eqb x) ys) (ne_eqb x y d))

-- ---- from node a to the next

module _ (nodes : List ℕ) (a : ℕ) (f : Descending nodes) where
  pub node-passed : listed nodes a ≡ true → at_or_after nodes a ≡ 1 + at_or_after nodes (a + 1)
  node-passed e = (let s = after-step nodes a f in let z = ap one e in omega arith)

  pub node_kept : listed nodes a ≡ false → at_or_after nodes a ≡ at_or_after nodes (a + 1)
  node_kept e = (let s = after-step nodes a f in let z = ap one e in omega arith)

-- a node that is not listed has no listed children
pub children-kept : (nodes : List ℕ) (a : ℕ) → Descending nodes → listed nodes a ≡ (listed nodes (2 * a + 1) || listed nodes (2 * a + 2)) → listed nodes a ≡ false
    → at_or_after nodes (2 * a + 1) ≡ at_or_after nodes (2 * (a + 1) + 1)
children-kept nodes a f by e =
    let n = or-none (listed nodes (2 * a + 1)) (listed nodes (2 * a + 2)) (sym by ∙ e) in
    node_kept nodes (2 * a + 1) f n.0
    ∙ ap (at_or_after nodes) (let z : 2 * a + 1 + 1 ≡ 2 * a + 2 = omega arith in z)
    ∙ node_kept nodes (2 * a + 2) f n.1
    ∙ ap (at_or_after nodes) (let z : 2 * a + 2 + 1 ≡ 2 * (a + 1) + 1 = omega arith in z)
