-- A leaf is covered exactly if it is hidden, an inner node exactly if one of its children is covered; the root is covered where anything is hidden, and so is what is above
-- a covered node. By induction on the list of hidden leaves.
use Prim.Native.Nat.{ℕ, ◌+◌, ◌*◌, ◌≤◌, ◌<◌}
use mathlib.Core.Path.{◌≡◌, refl, ap, ap₂, ◌∙◌}
use mathlib.Core.Bool.{Bool, true, false, ◌||◌}
use mathlib.Core.List.{List, [], ◌∷◌}
use native.Mathlib.Omega.{arith}
use lib.Dec.{eqb}
use lib.ListN.{length}
use Rattle.spec.specs.Tree.{is_ancestor, some, covered}
use Rattle.planning_laws.specs.Lists.{Leaves}
use Rattle.planning_laws.proofs.Members.{some_in, some-member}
use Rattle.planning_laws.proofs.Ancestors.{ancestor-split, ancestor-leaf, ancestor-root, ancestor-le, ancestor-through}

or_swap : (a b c d : Bool) → ((a || b) || (c || d)) ≡ ((a || c) || (b || d))
or_swap true b c d = refl
or_swap false true true d = refl
or_swap false true false d = refl
or_swap false false c d = refl

pub covered-leaf : (L a : ℕ) (hs : List ℕ) → Leaves L hs → L ≤ a + 1 → covered hs a ≡ some (eqb a) hs
unfolding covered some
covered-leaf L a [] ls h = refl
covered-leaf L a (x ∷ xs) ls h = ap₂ ◌||◌ (ancestor-leaf L a x h ls.1) (covered-leaf L a xs ls.2 h)

pub covered-inner : (L a : ℕ) (hs : List ℕ) → Leaves L hs → a + 1 < L → covered hs a ≡ (covered hs (2 * a + 1) || covered hs (2 * a + 2))
unfolding covered some
covered-inner L a [] ls h = refl
covered-inner L a (x ∷ xs) ls h =
    ap₂ ◌||◌ (ancestor-split a x (omega arith)) (covered-inner L a xs ls.2 h)
    ∙ or_swap (is_ancestor (2 * a + 1) x) (is_ancestor (2 * a + 2) x) (some (is_ancestor (2 * a + 1)) xs) (some (is_ancestor (2 * a + 2)) xs)

pub root-covered : (x : ℕ) (hs : List ℕ) → covered (x ∷ hs) 0 ≡ true
unfolding covered some
root-covered x hs = ap (λ (b : Bool). b || some (is_ancestor 0) hs) (ancestor-root x x (omega arith))

pub root-hidden : (hs : List ℕ) → 1 ≤ length hs → covered hs 0 ≡ true
root-hidden [] h = absurd (omega arith)
root-hidden (x ∷ hs) h = root-covered x hs

-- what is above a covered node is covered
pub covered-up : (hs : List ℕ) (a b : ℕ) → is_ancestor a b ≡ true → covered hs b ≡ true → covered hs a ≡ true
unfolding covered
covered-up hs a b p h =
    let r = some-member (is_ancestor b) hs h in
    some_in (is_ancestor a) hs r.0 r.1 (ancestor-through a b r.0 (ancestor-le a b p) r.2 ∙ p)
