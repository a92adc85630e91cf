-- What the laws of the two halves know of a shape: its vectors' bits, columns and entries follow one another, each entry has a leaf of its own, a hidden
-- index is an entry. Nothing that cites this record looks into a shape. By the shape rules.
use Prim.Native.Nat.{ℕ, zero, suc, ◌+◌, ◌*◌, ◌/◌, ◌%◌, ◌^◌, ◌≤◌, ◌<◌}
use mathlib.Core.Path.{◌≡◌, sym, ap, ◌∙◌}
use mathlib.Core.Bool.{true}
use mathlib.Core.List.{List, [], ◌∷◌}
use native.Mathlib.Omega.{arith}
use native.Mathlib.Nat.{pow-succ', div-one, div-div-eq-div-mul}
use lib.Dec.{eqb}
use lib.ListN.{length, get_or}
use borrow.Author.Tests.{eqb-true}
use Rattle.spec.specs.declared.Shape.{Shape}
use Rattle.spec.specs.Bytes.{bit, tabulate, all_zero}
use Rattle.spec.specs.Challenge.{bit_at, bits_at, index_at, clear_at}
use Rattle.spec.specs.Shapes.{shape_ok, level, depth_of, entries_of, first_bit, first_entry, leaves, leaf_of, hidden_index, hidden_leaf, hidden_leaves, grinding_ok}
use Rattle.laws.proofs.Conjunctions.{both_true}
use Rattle.laws.proofs.Segments.{segment-before}
use Rattle.laws.proofs.Lists.{length-tabulate, get_or-tabulate}
use Rattle.planning_laws.proofs.Bits.{bit-lt, index-more}
use Rattle.planning_laws.proofs.Depths.{bit-none, bit-next, entry-none, entry_next, entry-all, leaf-of-entry, leaf-one}
use Rattle.planning_laws.proofs.ShapeFacts.{shape-facts, bit-all, leaves-pos}
use Rattle.planning_laws.proofs.HiddenLeaves.{hidden-index-lt}

pub record ShapeLaws (s : Shape) : Type 0 where
  pub tau-pos : 1 ≤ s.tau
  pub leaves-pos : 1 ≤ leaves s
  -- the bits and columns of the vectors follow one another, and with the grinding bits they are all
  pub bit-none : first_bit s 0 ≡ 0
  pub bit-next : (i : ℕ) → first_bit s (suc i) ≡ first_bit s i + depth_of s i
  pub bit-all : first_bit s s.tau + s.w ≡ level s
  -- so do the entries
  pub entry-none : first_entry s 0 ≡ 0
  pub entry_next : (i : ℕ) → first_entry s (suc i) ≡ first_entry s i + entries_of s i
  pub entry-all : first_entry s s.tau ≡ leaves s
  -- each entry has a leaf of its own
  pub leaf-low : (i j : ℕ) → i < s.tau → j < entries_of s i → leaves s ≤ leaf_of s i j + 1
  pub leaf-high : (i j : ℕ) → i < s.tau → j < entries_of s i → leaf_of s i j + 1 < 2 * leaves s
  pub leaf-one : (i j m n : ℕ) → i < s.tau → j < entries_of s i → m < s.tau → n < entries_of s m → leaf_of s i j ≡ leaf_of s m n → (i ≡ m) × (j ≡ n)
  -- a hidden index is one of the vector's entries
  pub hidden-in : (ch : List ℕ) (i : ℕ) → hidden_index s ch i < entries_of s i

pub shape-laws : (s : Shape) → shape_ok s ≡ true → ShapeLaws s
unfolding level
shape-laws s e =
    let f = shape-facts s e in
    record {
      tau-pos = f.tau-pos;
      leaves-pos = leaves-pos s f;
      bit-none = bit-none s;
      bit-next = bit-next s;
      bit-all = bit-all s f;
      entry-none = entry-none s;
      entry_next = entry_next s;
      entry-all = entry-all s (omega (arith, f.few));
      leaf-low = λ i j h l. (leaf-of-entry s i j h l).0;
      leaf-high = λ i j h l. (leaf-of-entry s i j h l).1;
      leaf-one = leaf-one s;
      hidden-in = hidden-index-lt s;
    }

-- ---- bits of a challenge

index-bit : (ch : List ℕ) (at n j : ℕ) → j < n → bit j (index_at ch at n) ≡ bit_at ch (at + j)
index-bit ch at zero j h = absurd (omega arith)
index-bit ch at (suc n) zero h =
    ap (λ (x : ℕ). x / 1 % 2) (index-more ch at n)
    ∙ ap (λ (x : ℕ). x % 2) (div-one (2 * index_at ch (at + 1) n + bit_at ch at))
    ∙ (let a = bit-lt ch at in let z : (2 * index_at ch (at + 1) n + bit_at ch at) % 2 ≡ bit_at ch at = omega arith in z)
    ∙ ap (bit_at ch) (let z : at ≡ at + 0 = omega arith in z)
index-bit ch at (suc n) (suc j) h =
    let x = 2 * index_at ch (at + 1) n + bit_at ch at in
    let half : x / 2 ≡ index_at ch (at + 1) n = (let a = bit-lt ch at in omega arith) in
    ap (λ (y : ℕ). y / 2 ^ suc j % 2) (index-more ch at n)
    ∙ ap (λ (m : ℕ). x / m % 2) (pow-succ' 2 j)
    ∙ ap (λ (m : ℕ). m % 2) (sym (div-div-eq-div-mul x 2 (2 ^ j)))
    ∙ ap (λ (m : ℕ). m / 2 ^ j % 2) half
    ∙ index-bit ch (at + 1) n j (omega arith)
    ∙ ap (bit_at ch) (let z : at + 1 + j ≡ at + suc j = omega arith in z)

pub hidden-bit : (s : Shape) (ch : List ℕ) (i j : ℕ) → j < depth_of s i → bit j (hidden_index s ch i) ≡ bit_at ch (first_bit s i + j)
unfolding hidden_index
hidden-bit s ch i j h = index-bit ch (first_bit s i) (depth_of s i) j h

all-zero : (xs : List ℕ) (j : ℕ) → all_zero xs ≡ true → j < length xs → get_or xs j 0 ≡ 0
unfolding all_zero
all-zero [] j e h = absurd (omega arith)
all-zero (x ∷ xs) j e h = go j (both_true (eqb x 0) (all_zero xs) e) h (λ k z l. all-zero xs k z l)
  where
    go : (j : ℕ) → (eqb x 0 ≡ true) × (all_zero xs ≡ true) → j < length (x ∷ xs) → ((k : ℕ) → all_zero xs ≡ true → k < length xs → get_or xs k 0 ≡ 0)
        → get_or (x ∷ xs) j 0 ≡ 0
    go zero q h ih = eqb-true x 0 q.0
    go (suc j) q h ih = ih j q.1 (omega arith)

pub grinding-bit : (s : Shape) (ch : List ℕ) (j : ℕ) → grinding_ok s ch ≡ true → j < s.w → bit_at ch (first_bit s s.tau + j) ≡ 0
unfolding grinding_ok clear_at bits_at
grinding-bit s ch j e h =
    let f : ℕ → ℕ = λ i. bit_at ch (first_bit s s.tau + i) in
    sym (get_or-tabulate s.w f j 0 h) ∙ all-zero (tabulate s.w f) j e (let l = length-tabulate s.w f in omega arith)

-- ---- the hidden leaves

pub hidden_at : (s : Shape) (ch : List ℕ) (i : ℕ) → i < s.tau → get_or (hidden_leaves s ch) i 0 ≡ leaf_of s i (hidden_index s ch i)
unfolding hidden_leaves hidden_leaf
hidden_at s ch i h = get_or-tabulate s.tau (λ i. leaf_of s i (hidden_index s ch i)) i 0 h

-- the entry after those of the vectors before i, and j more, is an entry
pub entry_in : (s : Shape) → ShapeLaws s → (i j : ℕ) → i < s.tau → j < entries_of s i → first_entry s i + j < leaves s
entry_in s f i j h l = (let a = segment-before (first_entry s) (entries_of s) s.tau i (λ n m. f.entry_next n) h in let b = f.entry-all in omega arith)
