-- E9. Going up from a leaf that is not hidden, the last node that is not covered has a covered parent, so it is revealed; and what is above a hidden leaf is covered, so it
-- is not revealed. Of other nodes with the same leaves beneath them, each revealed node has one beneath itself, since what is above it is covered; and no node is beneath
-- two revealed ones.
use Prim.Native.Nat.{ℕ, zero, suc, ◌+◌, ◌*◌, ◌≤◌, ◌<◌}
use mathlib.Core.Path.{◌≡◌, refl, sym, ap, ◌∙◌, subst}
use mathlib.Core.Bool.{Bool, true, false, ◌||◌, not}
use mathlib.Core.List.{List, [], ◌∷◌}
use native.Mathlib.Omega.{arith}
use native.Mathlib.Decide.{dec_lt, ℕ_discrete}
use lib.Dec.{eqb}
use lib.ListN.{length}
use borrow.Author.Tests.{eq-eqb}
use Rattle.spec.specs.Bytes.{index_of}
use Rattle.spec.specs.Tree.{parent, is_ancestor, some, covered, revealed, node_count}
use Rattle.spec.specs.Shapes.{resolved, leaves, hidden_leaves, planned}
use Rattle.laws.proofs.Conjunctions.{refuted, contrary}
use Rattle.planning_laws.specs.Lists.{Leaves}
use Rattle.planning_laws.proofs.Members.{In, in-leaves, some_in, some-member, no_longer}
use Rattle.planning_laws.proofs.Ancestors.{ancestor-split, ancestor-parent, ancestor-self, ancestor-le, ancestor-through}
use Rattle.planning_laws.proofs.Covered.{covered-leaf, root-hidden, covered-up}
use Rattle.planning_laws.proofs.Revealed.{left-revealed, right-revealed, revealed-low, revealed-uncovered, revealed-distinct}
use Rattle.planning_laws.proofs.HiddenLeaves.{hidden-count, hidden-leaves}
use Rattle.planning_laws.proofs.ShapeLaws.{shape-laws}
use Rattle.theorems.specs.Planning.{Reveals, Fewest, NoSmallerOpening}

-- every node has a leaf beneath it
leaf-beneath : (L d r : ℕ) → 2 * L ≤ r + 1 + d → r + 1 < 2 * L → (y : ℕ) × (L ≤ y + 1) × (y + 1 < 2 * L) × (is_ancestor r y ≡ true)
leaf-beneath L zero r h l = absurd (omega arith)
leaf-beneath L (suc d) r h l = go (dec_lt (r + 1) L) (leaf-beneath L d (2 * r + 1))
  where
    go : Dec (r + 1 < L)
        → (2 * L ≤ 2 * r + 1 + 1 + d → 2 * r + 1 + 1 < 2 * L → (y : ℕ) × (L ≤ y + 1) × (y + 1 < 2 * L) × (is_ancestor (2 * r + 1) y ≡ true))
        → (y : ℕ) × (L ≤ y + 1) × (y + 1 < 2 * L) × (is_ancestor r y ≡ true)
    go (yes q) ih =
        let t = ih (omega arith) (omega arith) in
        let p = ancestor-le (2 * r + 1) t.0 t.3 in
        (t.0, t.1, t.2, ancestor-split r t.0 (omega arith) ∙ ap (λ (b : Bool). b || is_ancestor (2 * r + 2) t.0) t.3)
    go (no q) ih = (r, omega arith, l, ancestor-self r)

leaves-pos : (L : ℕ) (hs : List ℕ) → Leaves L hs → 1 ≤ length hs → 1 ≤ L
leaves-pos L [] ls h = absurd (omega arith)
leaves-pos L (x ∷ hs) ls h = omega arith

module _ (L : ℕ) (hs : List ℕ) (ls : Leaves L hs) (some-hidden : 1 ≤ length hs) where
  -- ---- the leaves beneath the revealed nodes

  -- a node that is not covered, of a covered parent, is revealed
  revealed-child : (y : ℕ) → 0 < y → y + 1 < 2 * L → covered hs (parent y) ≡ true → covered hs y ≡ false → In y (revealed L hs)
  unfolding parent
  revealed-child y p h c d = go (ℕ_discrete y (2 * parent y + 1))
    where
      go : Dec (y ≡ 2 * parent y + 1) → In y (revealed L hs)
      go (yes e) = subst (λ (n : ℕ). In n (revealed L hs)) (sym e) (left-revealed L (parent y) hs ls (omega arith) c (ap (covered hs) (sym e) ∙ d))
      go (no n) =
          let e : y ≡ 2 * parent y + 2 = omega arith in
          subst (λ (n : ℕ). In n (revealed L hs)) (sym e) (right-revealed L (parent y) hs ls (omega arith) c (ap (covered hs) (sym e) ∙ d))

  -- so some node is revealed above a node that is not covered
  revealed-above : (d y : ℕ) → y ≤ d → y + 1 < 2 * L → covered hs y ≡ false → some (λ a. is_ancestor a y) (revealed L hs) ≡ true
  unfolding parent
  revealed-above zero y h l c = contrary (root-hidden hs some-hidden) (ap (covered hs) (let z : 0 ≡ y = omega arith in z) ∙ c)
  revealed-above (suc d) y h l c = go (ℕ_discrete y 0) (covered hs (parent y)) refl (λ k. revealed-above d (parent y) k (omega arith))
    where
      go : Dec (y ≡ 0) → (b : Bool) → covered hs (parent y) ≡ b
          → (parent y ≤ d → covered hs (parent y) ≡ false → some (λ a. is_ancestor a (parent y)) (revealed L hs) ≡ true)
          → some (λ a. is_ancestor a y) (revealed L hs) ≡ true
      go (yes z) b e ih = contrary (root-hidden hs some-hidden) (ap (covered hs) (sym z) ∙ c)
      go (no n) true e ih = some_in (λ a. is_ancestor a y) (revealed L hs) y (revealed-child y (omega arith) l e c) (ancestor-self y)
      go (no n) false e ih =
          let r = some-member (λ a. is_ancestor a (parent y)) (revealed L hs) (ih (omega arith) e) in
          let k = ancestor-le r.0 (parent y) r.2 in
          some_in (λ a. is_ancestor a y) (revealed L hs) r.0 r.1 (ancestor-parent r.0 y (omega arith) ∙ r.2)

  revealed-reveals : Reveals L hs (revealed L hs)
  revealed-reveals y lo hi = go (covered hs y) refl ∙ ap not (covered-leaf L y hs ls lo)
    where
      go : (b : Bool) → covered hs y ≡ b → some (λ a. is_ancestor a y) (revealed L hs) ≡ not (covered hs y)
      go true e =
          sym
          (refuted (some (λ a. is_ancestor a y) (revealed L hs))
          (λ t.
          let r = some-member (λ a. is_ancestor a y) (revealed L hs) t in
          contrary (covered-up hs r.0 y r.2 e) (revealed-uncovered L hs r.0 ls r.1).0))
          ∙ ap not (sym e)
      go false e = revealed-above y y (omega arith) hi e ∙ ap not (sym e)

  -- ---- no such list is shorter

  -- no node is beneath two revealed ones
  apart : (r q s : ℕ) → In r (revealed L hs) → In q (revealed L hs) → is_ancestor r s ≡ true → is_ancestor q s ≡ true → r < q → ⊥
  apart r q s m n t u l =
      contrary (covered-up hs r (parent q) (sym (ancestor-parent r q l) ∙ sym (ancestor-through r q s (omega arith) u) ∙ t) (revealed-uncovered L hs q ls n).1)
      (revealed-uncovered L hs r ls m).0

  one-above : (r q s : ℕ) → In r (revealed L hs) → In q (revealed L hs) → is_ancestor r s ≡ true → is_ancestor q s ≡ true → r ≡ q
  one-above r q s m n t u = go (dec_lt r q) (dec_lt q r)
    where
      go : Dec (r < q) → Dec (q < r) → r ≡ q
      go (yes l) d = absurd (apart r q s m n t u l)
      go (no l) (yes d) = absurd (apart q r s n m u t d)
      go (no l) (no d) = omega arith

  module _ (ns : List ℕ) (exact : Reveals L hs ns) where
    -- a node of such a list is not covered: a hidden leaf beneath it would be revealed
    uncovered : (s : ℕ) → In s ns → covered hs s ≡ true → ⊥
    unfolding covered
    uncovered s m c =
        let x = some-member (is_ancestor s) hs c in
        let leaf = in-leaves L x.0 hs ls x.1 in
        let hidden : some (eqb x.0) hs ≡ true = some_in (eqb x.0) hs x.0 x.1 (eq-eqb x.0 x.0 refl) in
        contrary (some_in (λ a. is_ancestor a x.0) ns s m x.2) (exact x.0 leaf.0 leaf.1 ∙ ap not hidden)

    -- a revealed node r has one of them beneath it: one that is above a leaf beneath r, and not above r, since the nodes above r are covered
    one-beneath : (r : ℕ) → In r (revealed L hs) → (s : ℕ) × In s ns × (is_ancestor r s ≡ true)
    unfolding node_count
    one-beneath r m =
        let node : r + 1 < 2 * L = (let l = revealed-low L hs (index_of r (revealed L hs)) (leaves-pos L hs ls some-hidden) m.here in let e = m.same in omega arith) in
        let y = leaf-beneath L (2 * L) r (omega arith) node in
        let bare : covered hs y.0 ≡ false = sym (refuted (covered hs y.0) (λ c. contrary (covered-up hs r y.0 y.3 c) (revealed-uncovered L hs r ls m).0)) in
        let s = some-member (λ a. is_ancestor a y.0) ns (exact y.0 y.1 y.2 ∙ ap not (sym (covered-leaf L y.0 hs ls y.1) ∙ bare)) in
        (s.0, s.1, lower s.0 y.0 s.1 s.2 y.3 (dec_lt s.0 r))
      where
        lower : (s y : ℕ) → In s ns → is_ancestor s y ≡ true → is_ancestor r y ≡ true → Dec (s < r) → is_ancestor r s ≡ true
        lower s y n t u (no d) = sym (ancestor-through r s y (omega arith) t) ∙ u
        lower s y n t u (yes d) =
            absurd (uncovered s n (covered-up hs s (parent r) (sym (ancestor-parent s r d) ∙ sym (ancestor-through s r y (omega arith) u) ∙ t) (revealed-uncovered L hs r ls m).1))

    no-shorter : length (revealed L hs) ≤ length ns
    no-shorter = no_longer (λ r s. is_ancestor r s ≡ true) (revealed L hs) ns (revealed-distinct L hs) one-beneath one-above

fewest-of : (L : ℕ) (hs : List ℕ) → Leaves L hs → 1 ≤ length hs → Fewest L hs (revealed L hs)
unfolding node_count
fewest-of L hs ls h =
    record {
      within = λ m l. (let low = revealed-low L hs m (leaves-pos L hs ls h) l in omega arith);
      reveals = revealed-reveals L hs ls h;
      distinct = revealed-distinct L hs;
      fewest = no-shorter L hs ls h;
    }

pub no-smaller-opening : NoSmallerOpening
unfolding planned
no-smaller-opening =
    record {
      of-leaves = fewest-of;
      of-challenge = λ s ch ok.
          fewest-of (leaves (resolved s)) (hidden_leaves (resolved s) ch) (hidden-leaves (resolved s) ch)
          (let c = hidden-count (resolved s) ch in let p = (shape-laws (resolved s) ok).tau-pos in omega arith);
    }
