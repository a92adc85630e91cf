-- The numbers below n that pass a test, largest first: they descend, their members are those that pass, and their count is the tally. By induction on n.
use Prim.Native.Nat.{ℕ, zero, suc, ◌+◌, ◌≤◌, ◌<◌}
use mathlib.Core.Path.{◌≡◌, refl, sym, ap, ap₂, ◌∙◌}
use mathlib.Core.Bool.{Bool, true, false, ◌||◌, cond}
use mathlib.Core.List.{List, ◌∷◌}
use native.Mathlib.Omega.{arith}
use native.Mathlib.Decide.{ℕ_discrete}
use lib.Dec.{eqb}
use lib.ListN.{length}
use borrow.Author.Tests.{eq-eqb, ne_eqb}
use Rattle.spec.specs.Tree.{some}
use Rattle.planning_laws.specs.Lists.{Below, Descending, tally, passing}
use Rattle.planning_laws.proofs.Members.{absent-below}

pub passing-length : (c : ℕ → Bool) (n : ℕ) → length (passing c n) ≡ tally c n
unfolding passing tally
passing-length c zero = refl
passing-length c (suc n) = go (c n) (passing-length c n)
  where
    go : (b : Bool) → length (passing c n) ≡ tally c n → length (cond b (n ∷ passing c n) (passing c n)) ≡ cond b 1 0 + tally c n
    go true ih = omega arith
    go false ih = omega arith

pub passing-below : (c : ℕ → Bool) (n b : ℕ) → n ≤ b → Below b (passing c n)
unfolding passing
passing-below c zero b h = tt
passing-below c (suc n) b h = go (c n) (passing-below c n b (omega arith))
  where
    go : (x : Bool) → Below b (passing c n) → Below b (cond x (n ∷ passing c n) (passing c n))
    go true ih = (omega arith, ih)
    go false ih = ih

pub passing-descends : (c : ℕ → Bool) (n : ℕ) → Descending (passing c n)
unfolding passing
passing-descends c zero = tt
passing-descends c (suc n) = go (c n) (passing-descends c n)
  where
    go : (x : Bool) → Descending (passing c n) → Descending (cond x (n ∷ passing c n) (passing c n))
    go true ih = (passing-below c n n (omega arith), ih)
    go false ih = ih

pub passing-member : (c : ℕ → Bool) (n x : ℕ) → x < n → some (eqb x) (passing c n) ≡ c x
unfolding passing some
passing-member c zero x h = absurd (omega arith)
passing-member c (suc n) x h = go (c n) refl (ℕ_discrete x n) (λ l. passing-member c n x l)
  where
    go : (b : Bool) → c n ≡ b → Dec (x ≡ n) → (x < n → some (eqb x) (passing c n) ≡ c x) → some (eqb x) (cond b (n ∷ passing c n) (passing c n)) ≡ c x
    go true e (yes d) ih = ap (λ (y : Bool). y || some (eqb x) (passing c n)) (eq-eqb x n d) ∙ sym (ap c d ∙ e)
    go false e (yes d) ih = absent-below x n (passing c n) (omega arith) (passing-below c n n (omega arith)) ∙ sym (ap c d ∙ e)
    go true e (no d) ih = ap (λ (y : Bool). y || some (eqb x) (passing c n)) (ne_eqb x n d) ∙ ih (omega arith)
    go false e (no d) ih = ih (omega arith)

-- tests that agree below n pass the same numbers
pub passing-same : (c d : ℕ → Bool) (n : ℕ) → ((x : ℕ) → x < n → c x ≡ d x) → passing c n ≡ passing d n
unfolding passing
passing-same c d zero e = refl
passing-same c d (suc n) e =
    ap₂ (λ (b : Bool) (l : List ℕ). cond b (n ∷ l) l) (e n (omega arith)) (passing-same c d n (λ x h. e x (omega arith)))

-- none passes from b on
pub passing-none : (c : ℕ → Bool) (d b : ℕ) → ((x : ℕ) → b ≤ x → c x ≡ false) → passing c (d + b) ≡ passing c b
unfolding passing
passing-none c zero b e = ap (passing c) (let z : 0 + b ≡ b = omega arith in z)
passing-none c (suc d) b e =
    ap (passing c) (let z : suc d + b ≡ suc (d + b) = omega arith in z)
    ∙ ap (λ (x : Bool). cond x ((d + b) ∷ passing c (d + b)) (passing c (d + b))) (e (d + b) (omega arith))
    ∙ passing-none c d b e
