-- E11. The count is that of the covered nodes, less a number that both lists have. The covered nodes are those that the other hidden leaves cover, and those above the one leaf
-- that they do not: that leaf at least, and at most its D + 1 ancestors without the root. Where there are no others the tree is a full one, and every leaf has as many ancestors.
use Prim.Native.Nat.{ℕ, zero, suc, ◌+◌, ◌-◌, ◌*◌, ◌^◌, ◌≤◌, ◌<◌}
use mathlib.Core.Path.{◌≡◌, refl, sym, ap, ap₂, ◌∙◌, subst, fun_ext}
use mathlib.Core.Bool.{Bool, true, false, ◌||◌, ◌&&◌, not, or-false}
use mathlib.Core.List.{List, [], ◌∷◌, ◌++◌}
use native.Mathlib.Omega.{arith}
use native.Mathlib.Nat.{two-pow-succ, add-zero}
use native.Mathlib.Decide.{dec_lt, ℕ_discrete}
use lib.Dec.{eqb}
use lib.ListN.{length, length-append}
use lib.Pow.{pow_pos}
use borrow.Author.Tests.{eq-eqb, ne_eqb, eqb-true}
use Rattle.spec.specs.declared.Shape.{Shape}
use Rattle.spec.specs.Bytes.{tabulate}
use Rattle.spec.specs.Tree.{parent, is_ancestor, some, covered, node_count}
use Rattle.spec.specs.Shapes.{resolved, shape_ok, depth_of, entries_of, first_entry, leaves, leaf_of, hidden_index, hidden_leaf, hidden_leaves, planned_count}
use Rattle.laws.proofs.Conjunctions.{both_true}
use Rattle.laws.proofs.Lists.{tabulate-same, tabulate-append}
use Rattle.planning_laws.specs.Lists.{Leaves, WithoutDuplicates, tally, covered_count}
use Rattle.planning_laws.proofs.Members.{some-between, leaves-between, distinct-between}
use Rattle.planning_laws.proofs.Ancestors.{ancestor-parent, ancestor-self, ancestor-past, ancestor-root}
use Rattle.planning_laws.proofs.Covered.{covered-leaf, root-hidden}
use Rattle.planning_laws.proofs.Count.{tally-or, tally-point, tally-le, count-covered}
use Rattle.planning_laws.proofs.HiddenLeaves.{hidden-count, hidden-leaves, hidden-distinct}
use Rattle.planning_laws.proofs.ShapeLaws.{ShapeLaws, shape-laws}
use Rattle.theorems.specs.Planning.{LeastPower, OneIndexMoves}

-- ---- how many nodes are above a node

-- how many nodes below n are above x, x itself among them
ancestor_count : ℕ → ℕ → ℕ
ancestor_count x n = tally (λ a. is_ancestor a x) n

above_root : (x n : ℕ) → x ≡ 0 → x < n → ancestor_count x n ≡ 1
unfolding ancestor_count tally
above_root x n e h =
    tally-point (λ a. is_ancestor a x) 0 x n (omega arith) h (ancestor-self x) (λ a d. ancestor-past a x (omega arith))

-- x itself, and those above its parent
above_parent : (x n : ℕ) → 0 < x → x < n → ancestor_count x n ≡ ancestor_count (parent x) n + 1
unfolding ancestor_count tally parent
above_parent x n p h =
    ap (λ (c : ℕ → Bool). tally c n) (fun_ext (λ a. split a (dec_lt a x) (dec_lt x a)))
    ∙ tally-or (λ a. eqb a x) (λ a. is_ancestor a (parent x)) n
    ∙ ap (λ (m : ℕ). tally (λ a. is_ancestor a (parent x)) n + m)
    (tally-point (λ a. eqb a x && not (is_ancestor a (parent x))) 0 x n (omega arith) h
    (ap₂ (λ (s t : Bool). s && not t) (eq-eqb x x refl) (ancestor-past x (parent x) (omega arith)))
    (λ a d. ap (λ (b : Bool). b && not (is_ancestor a (parent x))) (ne_eqb a x d)))
  where
    split : (a : ℕ) → Dec (a < x) → Dec (x < a) → is_ancestor a x ≡ (eqb a x || is_ancestor a (parent x))
    split a (yes l) d = ancestor-parent a x l ∙ ap (λ (b : Bool). b || is_ancestor a (parent x)) (sym (ne_eqb a x (λ e. omega arith)))
    split a (no l) (yes d) = ancestor-past a x d ∙ sym (ap₂ ◌||◌ (ne_eqb a x (λ e. omega arith)) (ancestor-past a (parent x) (omega arith)))
    split a (no l) (no d) =
        let e : a ≡ x = omega arith in
        ap (λ (m : ℕ). is_ancestor m x) e ∙ ancestor-self x ∙ ap (λ (b : Bool). b || is_ancestor a (parent x)) (sym (eq-eqb a x e))

-- at depth d a node has d + 1
above_at : (d x n : ℕ) → 2 ^ d ≤ x + 1 → x + 1 < 2 ^ suc d → x < n → ancestor_count x n ≡ d + 1
unfolding parent
above_at zero x n g h l = above_root x n (omega arith) l
above_at (suc d) x n g h l =
    let a = two-pow-succ (suc d) in
    let b = two-pow-succ d in
    let c = pow_pos d in
    let s = above_parent x n (omega arith) l in
    let r = above_at d (parent x) n (omega arith) (omega arith) (omega arith) in
    omega arith

depth : (D x : ℕ) → x + 1 < 2 ^ suc D → (d : ℕ) × (d ≤ D) × (2 ^ d ≤ x + 1) × (x + 1 < 2 ^ suc d)
depth zero x h = (0, omega arith, omega arith, h)
depth (suc D) x h = go (dec_lt (x + 1) (2 ^ suc D)) (depth D x)
  where
    go : Dec (x + 1 < 2 ^ suc D) → (x + 1 < 2 ^ suc D → (d : ℕ) × (d ≤ D) × (2 ^ d ≤ x + 1) × (x + 1 < 2 ^ suc d))
        → (d : ℕ) × (d ≤ suc D) × (2 ^ d ≤ x + 1) × (x + 1 < 2 ^ suc d)
    go (yes l) ih = (let r = ih l in (r.0, omega arith, r.2, r.3))
    go (no l) ih = (suc D, omega arith, omega arith, h)

above_most : (D x n : ℕ) → x + 1 < 2 ^ suc D → x < n → ancestor_count x n ≤ D + 1
above_most D x n h l = (let r = depth D x h in let e = above_at r.0 x n r.2 r.3 l in omega arith)

-- ---- what a leaf x covers beside the others

module _ (L : ℕ) (others : List ℕ) (x : ℕ) where
  covers_anew : ℕ → Bool
  covers_anew a = is_ancestor a x && not (covered others a)

  -- itself at least
  anew-some : Leaves L others → L ≤ x + 1 → x + 1 < 2 * L → some (eqb x) others ≡ false → 1 ≤ tally covers_anew (2 * L - 1)
  unfolding covers_anew tally
  anew-some ls lo hi e =
      let only : tally (λ a. eqb a x) (2 * L - 1) ≡ 1 = tally-point (λ a. eqb a x) 0 x (2 * L - 1) (omega arith) (omega arith) (eq-eqb x x refl) (λ a d. ne_eqb a x d) in
      let passes : covers_anew x ≡ true = ap₂ (λ (s t : Bool). s && not t) (ancestor-self x) (covered-leaf L x others ls lo ∙ e) in
      let most = tally-le (λ a. eqb a x) covers_anew (2 * L - 1) (λ a t. ap covers_anew (eqb-true a x t) ∙ passes) in
      omega arith

  -- not the root, which the others cover
  anew-few : (D : ℕ) → L ≤ 2 ^ D → x + 1 < 2 * L → covered others 0 ≡ true → tally covers_anew (2 * L - 1) ≤ D
  unfolding covers_anew tally ancestor_count
  anew-few D p hi root =
      let either = tally-or (λ a. eqb a 0) covers_anew (2 * L - 1) in
      let only = tally-point (λ a. eqb a 0 && not (covers_anew a)) 0 0 (2 * L - 1) (omega arith) (omega arith) at-root (λ a d. ap (λ (b : Bool). b && not (covers_anew a)) (ne_eqb a 0 d)) in
      let most = tally-le (λ a. eqb a 0 || covers_anew a) (λ a. is_ancestor a x) (2 * L - 1) (λ a. is-above a (ℕ_discrete a 0)) in
      let all = above_most D x (2 * L - 1) (let t = two-pow-succ D in omega arith) (omega arith) in
      omega arith
    where
      root-above : is_ancestor 0 x ≡ true
      root-above = ancestor-root x x (omega arith)

      at-root : (eqb 0 0 && not (covers_anew 0)) ≡ true
      at-root = ap (λ (b : Bool). not b) (ap₂ (λ (s t : Bool). s && not t) root-above root)

      is-above : (a : ℕ) → Dec (a ≡ 0) → (eqb a 0 || covers_anew a) ≡ true → is_ancestor a x ≡ true
      is-above a (yes e) t = ap (λ (m : ℕ). is_ancestor m x) e ∙ root-above
      is-above a (no d) t = (both_true (is_ancestor a x) (not (covered others a)) (ap (λ (b : Bool). b || covers_anew a) (sym (ne_eqb a 0 d)) ∙ t)).0

-- ---- two lists of hidden leaves that differ in one place

module _ (L : ℕ) (a b : List ℕ) where
  count-with : (x : ℕ) → Leaves L (a ++ (x ∷ b)) → WithoutDuplicates (a ++ (x ∷ b))
      → node_count L (a ++ (x ∷ b)) + 2 * length (a ++ (x ∷ b)) ≡ tally (covered (a ++ b)) (2 * L - 1) + tally (covers_anew L (a ++ b) x) (2 * L - 1) + 1
  unfolding covered_count covers_anew covered
  count-with x ls d =
      let count = count-covered L (a ++ (x ∷ b)) ls d (let l = length-append a (x ∷ b) in omega arith) in
      let both = ap (λ (c : ℕ → Bool). tally c (2 * L - 1)) (fun_ext (λ n. some-between (is_ancestor n) a x b)) ∙ tally-or (λ n. is_ancestor n x) (λ n. some (is_ancestor n) (a ++ b)) (2 * L - 1) in
      omega arith

  moved : (D x y : ℕ) → L ≤ 2 ^ D → Leaves L (a ++ (x ∷ b)) → Leaves L (a ++ (y ∷ b)) → WithoutDuplicates (a ++ (x ∷ b)) → WithoutDuplicates (a ++ (y ∷ b))
      → 1 ≤ length (a ++ b) → node_count L (a ++ (x ∷ b)) ≤ node_count L (a ++ (y ∷ b)) + (D - 1)
  moved D x y p xl yl xd yd others =
      let xs = leaves-between L a x b xl in
      let ys = leaves-between L a y b yl in
      let cx = count-with x xl xd in
      let cy = count-with y yl yd in
      let lx = length-append a (x ∷ b) in
      let ly = length-append a (y ∷ b) in
      let few = anew-few L (a ++ b) x D p xs.2 (root-hidden (a ++ b) others) in
      let one = anew-some L (a ++ b) y ys.0 ys.1 ys.2 (distinct-between a y b yd).1 in
      omega arith

-- one hidden leaf of a full tree
single-covers : (L x : ℕ) → covered_count L (x ∷ []) ≡ ancestor_count x (2 * L - 1)
unfolding covered_count ancestor_count covered some
single-covers L x = ap (λ (c : ℕ → Bool). tally c (2 * L - 1)) (fun_ext (λ a. or-false (is_ancestor a x)))

count-single : (L d : ℕ) (hs : List ℕ) → L ≡ 2 ^ d → length hs ≡ 1 → Leaves L hs → node_count L hs ≡ d
unfolding some
count-single L d [] e l ls = absurd (omega arith)
count-single L d (x ∷ y ∷ hs) e l ls = absurd (omega arith)
count-single L d (x ∷ []) e l ls =
    let count = count-covered L (x ∷ []) ls (refl, tt) (omega arith) in
    let all = single-covers L x in
    let above = above_at d x (2 * L - 1) (omega arith) (let p = two-pow-succ d in omega arith) (omega arith) in
    omega arith

-- ---- two challenges

module _ (s : Shape) (ok : shape_ok s ≡ true) (v : ℕ) (vector : v < s.tau) where
  abbrev Laws : ShapeLaws s
  Laws = shape-laws s ok

  before : List ℕ → List ℕ
  before ch = tabulate v (hidden_leaf s ch)

  after : List ℕ → List ℕ
  after ch = tabulate (s.tau - v - 1) (λ i. hidden_leaf s ch (v + suc i))

  hidden-split : (ch : List ℕ) → hidden_leaves s ch ≡ before ch ++ (hidden_leaf s ch v ∷ after ch)
  unfolding hidden_leaves before after tabulate
  hidden-split ch =
      let f : ℕ → ℕ = hidden_leaf s ch in
      let n : s.tau ≡ v + suc (s.tau - v - 1) = omega arith in
      ap (λ (m : ℕ). tabulate m f) n
      ∙ tabulate-append v (suc (s.tau - v - 1)) f
      ∙ ap (λ (x : ℕ). tabulate v f ++ (f x ∷ tabulate (s.tau - v - 1) (λ i. f (v + suc i)))) (add-zero v)

  -- the tree of one vector is a full one
  full : s.tau ≡ 1 → leaves s ≡ 2 ^ depth_of s 0
  unfolding entries_of
  full e =
      let all : leaves s ≡ first_entry s 1 = sym Laws.entry-all ∙ ap (first_entry s) e in
      let next = Laws.entry_next 0 in
      let none = Laws.entry-none in
      omega arith

  module _ (ch ch' : List ℕ) (same : (i : ℕ) → i < s.tau → (i ≡ v → ⊥) → hidden_index s ch i ≡ hidden_index s ch' i) where
    before_same : before ch ≡ before ch'
    unfolding before hidden_leaf
    before_same = tabulate-same v (hidden_leaf s ch) (hidden_leaf s ch') (λ i h. ap (leaf_of s i) (same i (omega arith) (λ e. omega arith)))

    after_same : after ch ≡ after ch'
    unfolding after hidden_leaf
    after_same =
        tabulate-same (s.tau - v - 1) (λ i. hidden_leaf s ch (v + suc i)) (λ i. hidden_leaf s ch' (v + suc i))
        (λ i h. ap (leaf_of s (v + suc i)) (same (v + suc i) (omega arith) (λ e. omega arith)))

    -- the second challenge's leaves, the others named by the first
    other-split : hidden_leaves s ch' ≡ before ch ++ (hidden_leaf s ch' v ∷ after ch)
    other-split = hidden-split ch' ∙ sym (ap₂ (λ (a b : List ℕ). a ++ (hidden_leaf s ch' v ∷ b)) before_same after_same)

    many : (D : ℕ) → leaves s ≤ 2 ^ D → 1 < s.tau → planned_count s ch ≤ planned_count s ch' + (D - 1)
    unfolding planned_count
    many D p m =
        let e = hidden-split ch in
        let e' = other-split in
        let size = ap length e in
        let l = length-append (before ch) (hidden_leaf s ch v ∷ after ch) in
        let k = length-append (before ch) (after ch) in
        let t = hidden-count s ch in
        let r =
        moved (leaves s) (before ch) (after ch) D (hidden_leaf s ch v) (hidden_leaf s ch' v) p (subst (Leaves (leaves s)) e (hidden-leaves s ch))
        (subst (Leaves (leaves s)) e' (hidden-leaves s ch')) (subst WithoutDuplicates e (hidden-distinct s ch)) (subst WithoutDuplicates e' (hidden-distinct s ch')) (omega arith) in
        let c = ap (node_count (leaves s)) e in
        let c' = ap (node_count (leaves s)) e' in
        omega arith

    single : s.tau ≡ 1 → planned_count s ch ≡ planned_count s ch'
    unfolding planned_count
    single e =
        count-single (leaves s) (depth_of s 0) (hidden_leaves s ch) (full e) (hidden-count s ch ∙ e) (hidden-leaves s ch)
        ∙ sym (count-single (leaves s) (depth_of s 0) (hidden_leaves s ch') (full e) (hidden-count s ch' ∙ e) (hidden-leaves s ch'))

    at_most : (D : ℕ) → leaves s ≤ 2 ^ D → planned_count s ch ≤ planned_count s ch' + (D - 1)
    at_most D p = go (dec_lt 1 s.tau)
      where
        go : Dec (1 < s.tau) → planned_count s ch ≤ planned_count s ch' + (D - 1)
        go (yes m) = many D p m
        go (no m) = (let e = single (omega arith) in omega arith)

-- ---- the least power

below_power : (n : ℕ) → n < 2 ^ n
below_power zero = omega arith
below_power (suc n) = (let a = below_power n in let b = two-pow-succ n in omega arith)

-- no number below d reaches L; n more are tried
search-power : (L n d : ℕ) → L ≤ n + d → ((e : ℕ) → L ≤ 2 ^ e → d ≤ e) → (D : ℕ) × LeastPower L D
search-power L zero d h low = (d, record { reaches = (let a = below_power d in omega arith); least = low })
search-power L (suc n) d h low = go (dec_lt (2 ^ d) L) (search-power L n (suc d) (omega arith))
  where
    go : Dec (2 ^ d < L) → (((e : ℕ) → L ≤ 2 ^ e → suc d ≤ e) → (D : ℕ) × LeastPower L D) → (D : ℕ) × LeastPower L D
    go (yes l) ih = ih (λ e g. past e (low e g) g (ℕ_discrete e d))
      where
        past : (e : ℕ) → d ≤ e → L ≤ 2 ^ e → Dec (e ≡ d) → suc d ≤ e
        past e a g (yes z) = absurd (let w = ap (λ (m : ℕ). 2 ^ m) z in omega arith)
        past e a g (no z) = omega arith
    go (no l) ih = (d, record { reaches = omega arith; least = low })

pub one-index-moves : OneIndexMoves
one-index-moves =
    record {
      moves = λ s ch ch' v D ok vector same power.
          (at_most (resolved s) ok v vector ch ch' same D power.reaches, at_most (resolved s) ok v vector ch' ch (λ i h d. sym (same i h d)) D power.reaches);
      least-power = λ L. search-power L L 0 (omega arith) (λ e g. omega arith);
    }
