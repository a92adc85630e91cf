-- The hidden leaves of a shape and a challenge are leaves of its tree, one for each vector, and distinct, since no two entries have one leaf. By induction on
-- the vectors.
use Prim.Native.Nat.{ℕ, zero, suc, ◌+◌, ◌*◌, ◌≤◌, ◌<◌}
use mathlib.Core.Path.{◌≡◌, refl, ap₂}
use mathlib.Core.Bool.{false, ◌||◌}
use mathlib.Core.List.{List}
use native.Mathlib.Omega.{arith}
use lib.Dec.{eqb}
use lib.ListN.{length}
use borrow.Author.Tests.{ne_eqb}
use Rattle.spec.specs.declared.Shape.{Shape}
use Rattle.spec.specs.Bytes.{tabulate}
use Rattle.spec.specs.Tree.{some}
use Rattle.spec.specs.Shapes.{depth_of, entries_of, first_bit, leaves, leaf_of, hidden_index, hidden_leaf, hidden_leaves}
use Rattle.laws.proofs.Lists.{length-tabulate}
use Rattle.planning_laws.specs.Lists.{Leaves, WithoutDuplicates}
use Rattle.planning_laws.proofs.Bits.{index-lt}
use Rattle.planning_laws.proofs.Depths.{leaf-of-entry, leaf-one}

pub hidden-count : (s : Shape) (ch : List ℕ) → length (hidden_leaves s ch) ≡ s.tau
unfolding hidden_leaves
hidden-count s ch = length-tabulate s.tau (hidden_leaf s ch)

pub hidden-index-lt : (s : Shape) (ch : List ℕ) (i : ℕ) → hidden_index s ch i < entries_of s i
unfolding hidden_index entries_of
hidden-index-lt s ch i = index-lt ch (first_bit s i) (depth_of s i)

tabulated-leaves : (L : ℕ) (f : ℕ → ℕ) (n : ℕ) → ((i : ℕ) → i < n → (L ≤ f i + 1) × (f i + 1 < 2 * L)) → Leaves L (tabulate n f)
unfolding tabulate
tabulated-leaves L f zero h = tt
tabulated-leaves L f (suc n) h = ((h 0 (omega arith)).0, (h 0 (omega arith)).1, tabulated-leaves L (λ i. f (suc i)) n (λ i l. h (suc i) (omega arith)))

pub hidden-leaves : (s : Shape) (ch : List ℕ) → Leaves (leaves s) (hidden_leaves s ch)
unfolding hidden_leaves hidden_leaf
hidden-leaves s ch =
    tabulated-leaves (leaves s) (hidden_leaf s ch) s.tau (λ i l. leaf-of-entry s i (hidden_index s ch i) l (hidden-index-lt s ch i))

-- ---- distinct

absent : (f : ℕ → ℕ) (x n : ℕ) → ((i : ℕ) → i < n → x ≡ f i → ⊥) → some (eqb x) (tabulate n f) ≡ false
unfolding tabulate some
absent f x zero h = refl
absent f x (suc n) h = ap₂ ◌||◌ (ne_eqb x (f 0) (h 0 (omega arith))) (absent (λ i. f (suc i)) x n (λ i l. h (suc i) (omega arith)))

distinct : (f : ℕ → ℕ) (n : ℕ) → ((j k : ℕ) → j < k → k < n → f j ≡ f k → ⊥) → WithoutDuplicates (tabulate n f)
unfolding tabulate
distinct f zero h = tt
distinct f (suc n) h = (
  absent (λ i. f (suc i)) (f 0) n (λ i l. h 0 (suc i) (omega arith) (omega arith)),
  distinct (λ i. f (suc i)) n (λ j k a b. h (suc j) (suc k) (omega arith) (omega arith)),
)

pub hidden-distinct : (s : Shape) (ch : List ℕ) → WithoutDuplicates (hidden_leaves s ch)
unfolding hidden_leaves hidden_leaf
hidden-distinct s ch =
    distinct (λ i. leaf_of s i (hidden_index s ch i)) s.tau
    (λ j k a b e.
    let q = (leaf-one s j (hidden_index s ch j) k (hidden_index s ch k) (omega arith) (hidden-index-lt s ch j) b (hidden-index-lt s ch k) e).0 in
    omega arith)
