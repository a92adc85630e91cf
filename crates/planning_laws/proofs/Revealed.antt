-- The revealed nodes: a child that is not covered, of a covered node, is revealed, and nothing else; a revealed node is a node, and stands once in the list; and where it
-- stands. By induction on the nodes that reveal.
use Prim.Native.Nat.{ℕ, zero, suc, ◌+◌, ◌-◌, ◌*◌, ◌≤◌, ◌<◌}
use mathlib.Core.Path.{◌≡◌, refl, sym, ap, ap₂, ◌∙◌, subst}
use mathlib.Core.Bool.{Bool, true, false, ◌||◌}
use mathlib.Core.List.{List, [], ◌∷◌, ◌++◌}
use native.Mathlib.Omega.{arith}
use native.Mathlib.Decide.{dec_lt}
use lib.Dec.{eqb}
use lib.ListN.{length, get_or}
use borrow.Author.Tests.{eq-eqb, ne_eqb}
use Rattle.spec.specs.Bytes.{index_of}
use Rattle.spec.specs.Tree.{parent, some, covered, sibling_to_reveal, revealed_from, revealed, node_count}
use Rattle.laws.proofs.Conjunctions.{contrary}
use Rattle.planning_laws.specs.Lists.{Leaves, WithoutDuplicates}
use Rattle.planning_laws.proofs.Members.{In, in_head, in_after, in-none, in-cases, absent}
use Rattle.planning_laws.proofs.Covered.{covered-inner}

-- ---- a child that is not covered, of a covered node, is revealed

sibling-left : (x y : Bool) (a : ℕ) (l : List ℕ) → (x || y) ≡ true → x ≡ false → In (2 * a + 1) (sibling_to_reveal x y a ++ l)
unfolding sibling_to_reveal
sibling-left true y a l h e = contrary refl e
sibling-left false false a l h e = contrary h refl
sibling-left false true a l h e = in_head (2 * a + 1) l

sibling-right : (x y : Bool) (a : ℕ) (l : List ℕ) → (x || y) ≡ true → y ≡ false → In (2 * a + 2) (sibling_to_reveal x y a ++ l)
unfolding sibling_to_reveal
sibling-right x true a l h e = contrary refl e
sibling-right false false a l h e = contrary h refl
sibling-right true false a l h e = in_head (2 * a + 2) l

module _ (c : ℕ → Bool) (child : ℕ → ℕ)
    (shown : (a : ℕ) (l : List ℕ) → (c (2 * a + 1) || c (2 * a + 2)) ≡ true → c (child a) ≡ false
    → In (child a) (sibling_to_reveal (c (2 * a + 1)) (c (2 * a + 2)) a ++ l)) where
  child-revealed : (n a : ℕ) → a < n → (c (2 * a + 1) || c (2 * a + 2)) ≡ true → c (child a) ≡ false → In (child a) (revealed_from c n)
  unfolding revealed_from
  child-revealed zero a h p q = absurd (omega arith)
  child-revealed (suc n) a h p q = go (dec_lt a n) (λ l. child-revealed n a l p q)
    where
      go : Dec (a < n) → (a < n → In (child a) (revealed_from c n)) → In (child a) (sibling_to_reveal (c (2 * n + 1)) (c (2 * n + 2)) n ++ revealed_from c n)
      go (yes l) ih = in_after (child a) (sibling_to_reveal (c (2 * n + 1)) (c (2 * n + 2)) n) (revealed_from c n) (ih l)
      go (no l) ih =
          let e : a ≡ n = omega arith in
          subst (λ (m : ℕ). In (child a) (sibling_to_reveal (c (2 * m + 1)) (c (2 * m + 2)) m ++ revealed_from c n)) e (shown a (revealed_from c n) p q)

pub left-revealed : (L a : ℕ) (hs : List ℕ) → Leaves L hs → a + 1 < L → covered hs a ≡ true → covered hs (2 * a + 1) ≡ false → In (2 * a + 1) (revealed L hs)
unfolding revealed
left-revealed L a hs ls h p q =
    child-revealed (covered hs) (λ a. 2 * a + 1) (λ a l. sibling-left (covered hs (2 * a + 1)) (covered hs (2 * a + 2)) a l) (L - 1) a (omega arith)
    (sym (covered-inner L a hs ls h) ∙ p) q

pub right-revealed : (L a : ℕ) (hs : List ℕ) → Leaves L hs → a + 1 < L → covered hs a ≡ true → covered hs (2 * a + 2) ≡ false → In (2 * a + 2) (revealed L hs)
unfolding revealed
right-revealed L a hs ls h p q =
    child-revealed (covered hs) (λ a. 2 * a + 2) (λ a l. sibling-right (covered hs (2 * a + 1)) (covered hs (2 * a + 2)) a l) (L - 1) a (omega arith)
    (sym (covered-inner L a hs ls h) ∙ p) q

-- ---- a revealed node is a node

-- what nodes n - 1 down to 0 reveal is below any number past 2 n, as is the 0 behind the end of the list
pub revealed-below : (c : ℕ → Bool) (n b : ℕ) → 2 * n < b → (m : ℕ) → get_or (revealed_from c n) m 0 < b
unfolding revealed_from sibling_to_reveal
revealed-below c zero b h m = omega arith
revealed-below c (suc a) b h m = go (c (2 * a + 1)) (c (2 * a + 2)) m (revealed-below c a b (omega arith))
  where
    go : (x y : Bool) (m : ℕ) → ((m : ℕ) → get_or (revealed_from c a) m 0 < b) → get_or (sibling_to_reveal x y a ++ revealed_from c a) m 0 < b
    go true true m ih = ih m
    go false false m ih = ih m
    go true false zero ih = omega arith
    go true false (suc m) ih = ih m
    go false true zero ih = omega arith
    go false true (suc m) ih = ih m

pub revealed-low : (L : ℕ) (hs : List ℕ) (m : ℕ) → 1 ≤ L → m < node_count L hs → get_or (revealed L hs) m 0 < 2 * L - 1
unfolding revealed node_count
revealed-low L hs m p h = revealed-below (covered hs) (L - 1) (2 * L - 1) (omega arith) m

-- ---- a revealed node is not covered, its parent is, and it stands once in the list

from-uncovered : (c : ℕ → Bool) (n r : ℕ) → ((a : ℕ) → a < n → c a ≡ (c (2 * a + 1) || c (2 * a + 2))) → In r (revealed_from c n)
    → (c r ≡ false) × (c (parent r) ≡ true)
unfolding revealed_from sibling_to_reveal parent
from-uncovered c zero r e m = in-none r m
from-uncovered c (suc a) r e m = go (c (2 * a + 1)) (c (2 * a + 2)) refl refl m (from-uncovered c a r (λ b h. e b (omega arith)))
  where
    go : (x y : Bool) → c (2 * a + 1) ≡ x → c (2 * a + 2) ≡ y → In r (sibling_to_reveal x y a ++ revealed_from c a)
        → (In r (revealed_from c a) → (c r ≡ false) × (c (parent r) ≡ true)) → (c r ≡ false) × (c (parent r) ≡ true)
    go true true p q m ih = ih m
    go false false p q m ih = ih m
    go true false p q m ih =
        in-cases r (2 * a + 2) (revealed_from c a) m
        (λ z. (ap c z ∙ q, ap c (let w : parent r ≡ a = omega arith in w) ∙ e a (omega arith) ∙ ap (λ (b : Bool). b || c (2 * a + 2)) p)) ih
    go false true p q m ih =
        in-cases r (2 * a + 1) (revealed_from c a) m
        (λ z. (ap c z ∙ p, ap c (let w : parent r ≡ a = omega arith in w) ∙ e a (omega arith) ∙ ap₂ ◌||◌ p q)) ih

pub revealed-uncovered : (L : ℕ) (hs : List ℕ) (r : ℕ) → Leaves L hs → In r (revealed L hs) → (covered hs r ≡ false) × (covered hs (parent r) ≡ true)
unfolding revealed
revealed-uncovered L hs r ls m = from-uncovered (covered hs) (L - 1) r (λ a h. covered-inner L a hs ls (omega arith)) m

from-distinct : (c : ℕ → Bool) (n : ℕ) → WithoutDuplicates (revealed_from c n)
unfolding revealed_from sibling_to_reveal
from-distinct c zero = tt
from-distinct c (suc n) = go (c (2 * n + 1)) (c (2 * n + 2)) (from-distinct c n)
  where
    new : (x : ℕ) → 2 * n < x → some (eqb x) (revealed_from c n) ≡ false
    new x h = absent x (revealed_from c n) (λ m l e. let r = revealed-below c n x h m in omega arith)

    go : (x y : Bool) → WithoutDuplicates (revealed_from c n) → WithoutDuplicates (sibling_to_reveal x y n ++ revealed_from c n)
    go true true ih = ih
    go false false ih = ih
    go true false ih = (new (2 * n + 2) (omega arith), ih)
    go false true ih = (new (2 * n + 1) (omega arith), ih)

pub revealed-distinct : (L : ℕ) (hs : List ℕ) → WithoutDuplicates (revealed L hs)
unfolding revealed
revealed-distinct L hs = from-distinct (covered hs) (L - 1)

-- ---- the place of a revealed node in the list

sibling-longer : (p q : Bool) (a : ℕ) (l : List ℕ) → length l ≤ length (sibling_to_reveal p q a ++ l)
unfolding sibling_to_reveal
sibling-longer true true a l = omega arith
sibling-longer true false a l = omega arith
sibling-longer false true a l = omega arith
sibling-longer false false a l = omega arith

pub revealed-longer : (c : ℕ → Bool) (n m : ℕ) → n ≤ m → length (revealed_from c n) ≤ length (revealed_from c m)
unfolding revealed_from
revealed-longer c n zero h = (let e = ap (λ (x : ℕ). length (revealed_from c x)) (let z : n ≡ 0 = omega arith in z) in omega arith)
revealed-longer c n (suc m) h = go (dec_lt m n) (λ l. revealed-longer c n m l)
  where
    go : Dec (m < n) → (n ≤ m → length (revealed_from c n) ≤ length (revealed_from c m)) → length (revealed_from c n) ≤ length (revealed_from c (suc m))
    go (yes l) ih = (let e = ap (λ (x : ℕ). length (revealed_from c x)) (let z : n ≡ suc m = omega arith in z) in omega arith)
    go (no l) ih =
        let a = ih (omega arith) in
        let b = sibling-longer (c (2 * m + 1)) (c (2 * m + 2)) m (revealed_from c m) in
        omega arith

-- what a later node m reveals stands before x
sibling-before : (p q : Bool) (m x : ℕ) (l : List ℕ) → x < 2 * m + 1 → index_of x (sibling_to_reveal p q m ++ l) + length l ≡ index_of x l + length (sibling_to_reveal p q m ++ l)
unfolding sibling_to_reveal index_of
sibling-before true true m x l h = refl
sibling-before false false m x l h = refl
sibling-before true false m x l h = rw (ne_eqb x (2 * m + 2) (λ e. omega arith)) (omega arith)
sibling-before false true m x l h = rw (ne_eqb x (2 * m + 1) (λ e. omega arith)) (omega arith)

-- the node x that node a reveals stands before those that the nodes below a reveal
pub revealed-place : (c : ℕ → Bool) (n a x : ℕ) → a < n → sibling_to_reveal (c (2 * a + 1)) (c (2 * a + 2)) a ≡ x ∷ []
    → index_of x (revealed_from c n) + length (revealed_from c (suc a)) ≡ length (revealed_from c n)
unfolding index_of revealed_from
revealed-place c zero a x h e = absurd (omega arith)
revealed-place c (suc m) a x h e = go (dec_lt a m) (λ l. revealed-place c m a x l e)
  where
    go : Dec (a < m) → (a < m → index_of x (revealed_from c m) + length (revealed_from c (suc a)) ≡ length (revealed_from c m))
        → index_of x (revealed_from c (suc m)) + length (revealed_from c (suc a)) ≡ length (revealed_from c (suc m))
    go (yes l) ih =
        let below : x < 2 * a + 3 = rw e at (revealed-below c (suc a) (2 * a + 3) (omega arith) 0) in
        let p = sibling-before (c (2 * m + 1)) (c (2 * m + 2)) m x (revealed_from c m) (omega arith) in
        let q = ih l in
        omega arith
    go (no l) ih =
        let z : a ≡ m = omega arith in
        let first : index_of x (sibling_to_reveal (c (2 * a + 1)) (c (2 * a + 2)) a ++ revealed_from c a) ≡ 0 = rw (e, eq-eqb x x refl) refl in
        let same = ap (λ (y : ℕ). index_of x (revealed_from c (suc y))) (sym z) ∙ first in
        let long = ap (λ (y : ℕ). length (revealed_from c (suc y))) z in
        omega arith
