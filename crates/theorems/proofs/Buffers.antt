-- Where things stand in the buffers: a leaf commitment among all, the parts of an opening, a column of a matrix. Each buffer is a concatenation of blocks, so
-- each by the law of blocks laid one after another.
use Prim.Native.Nat.{ℕ, zero, suc, ◌+◌, ◌-◌, ◌*◌, ◌≤◌, ◌<◌}
use mathlib.Core.Path.{◌≡◌, refl, sym, ap, ap₂, ◌∙◌}
use mathlib.Core.Bool.{true}
use mathlib.Core.List.{List, ◌++◌}
use native.Mathlib.Omega.{arith}
use native.Mathlib.Nat.{mul-zero, mul-add}
use native.Mathlib.Decide.{dec_lt}
use lib.ListN.{length, get_or, replicate, length-append}
use lib.Seq.{drop_at}
use Rattle.spec.specs.declared.Shape.{Shape}
use Rattle.spec.specs.Bytes.{part, concat, zeros, all_zero}
use Rattle.spec.specs.Tree.{revealed}
use Rattle.spec.specs.Shapes.{level, node_bytes, leaf_commitment_bytes, depth_of, entries_of, first_bit, first_entry, leaves, hidden_index, hidden_leaves, planned, planned_count, tree_bytes, leaf_commitments_bytes, opening_bytes}
use Rattle.spec.specs.Leaves.{node_at, vector_commitments, leaf_commitments}
use Rattle.spec.specs.Rows.{matrix_of}
use Rattle.spec.specs.Signer.{leaf_commitment_at, opening_of}
use Rattle.spec.specs.Verifier.{hidden_leaf_commitment, slot, slots_ok}
use Rattle.laws.proofs.Segments.{segment-before}
use Rattle.laws.proofs.Lists.{length_part, length-zeros}
use Rattle.laws.proofs.Concat.{part-front, part-after, laid-length, laid-part, even-length, even-part, concat-same, mul-within}
use Rattle.planning_laws.proofs.Revealed.{revealed-low}
use Rattle.planning_laws.proofs.ShapeLaws.{ShapeLaws, entry_in}

-- ---- leaf commitments

module _ (s : Shape) (f : ShapeLaws s) (lc : ℕ → ℕ → List ℕ) (long : (i j : ℕ) → i < s.tau → j < entries_of s i → length (lc i j) ≡ leaf_commitment_bytes s) where
  vector-length : (i : ℕ) → i < s.tau → length (vector_commitments s lc i) ≡ leaf_commitment_bytes s * entries_of s i
  unfolding vector_commitments
  vector-length i h = even-length (lc i) (leaf_commitment_bytes s) (entries_of s i) (λ j l. long i j h l)

  laid : (i : ℕ) → i < s.tau → leaf_commitment_bytes s * first_entry s (suc i) ≡ leaf_commitment_bytes s * first_entry s i + length (vector_commitments s lc i)
  laid i h =
      ap (λ (n : ℕ). leaf_commitment_bytes s * n) (f.entry_next i)
      ∙ mul-add (leaf_commitment_bytes s) (first_entry s i) (entries_of s i)
      ∙ ap (λ (n : ℕ). leaf_commitment_bytes s * first_entry s i + n) (sym (vector-length i h))

  none : leaf_commitment_bytes s * first_entry s 0 ≡ 0
  none = ap (λ (n : ℕ). leaf_commitment_bytes s * n) f.entry-none ∙ mul-zero (leaf_commitment_bytes s)

  pub commitments-length : length (leaf_commitments s lc) ≡ leaf_commitments_bytes s
  unfolding leaf_commitments leaf_commitments_bytes
  commitments-length = laid-length (vector_commitments s lc) (λ i. leaf_commitment_bytes s * first_entry s i) none s.tau laid ∙ ap (λ (n : ℕ). leaf_commitment_bytes s * n) f.entry-all

  pub commitments-at : (i j : ℕ) → i < s.tau → j < entries_of s i → leaf_commitment_at s (leaf_commitments s lc) i j ≡ lc i j
  unfolding leaf_commitments leaf_commitment_at vector_commitments
  commitments-at i j h l =
      let w = leaf_commitment_bytes s in
      let c = vector-length i h in
      let d = mul-within w j (entries_of s i) l in
      ap (λ (n : ℕ). part (concat s.tau (λ i. concat (entries_of s i) (lc i))) n w) (mul-add w (first_entry s i) j)
      ∙ laid-part (λ i. concat (entries_of s i) (lc i)) (λ i. w * first_entry s i) none s.tau i (w * j) w laid h (omega arith)
      ∙ even-part (lc i) w (entries_of s i) j (λ j l. long i j h l) l

-- ---- the opening

zeros-all : (n : ℕ) → all_zero (replicate n 0) ≡ true
unfolding all_zero
zeros-all zero = refl
zeros-all (suc n) = zeros-all n

module _ (s : Shape) (f : ShapeLaws s) (ch tree lcs : List ℕ) (tree-long : length tree ≡ tree_bytes s) (lcs-long : length lcs ≡ leaf_commitments_bytes s) where
  abbrev Hidden : ℕ → List ℕ
  Hidden i = leaf_commitment_at s lcs i (hidden_index s ch i)

  abbrev Shown : ℕ → List ℕ
  Shown m = node_at s tree (get_or (planned s ch) m 0)

  hidden-long : (i : ℕ) → i < s.tau → length (Hidden i) ≡ leaf_commitment_bytes s
  unfolding leaf_commitment_at leaf_commitments_bytes
  hidden-long i h =
      let e = entry_in s f i (hidden_index s ch i) h (f.hidden-in ch i) in
      let m = mul-within (leaf_commitment_bytes s) (first_entry s i + hidden_index s ch i) (leaves s) e in
      length_part lcs (leaf_commitment_bytes s * (first_entry s i + hidden_index s ch i)) (leaf_commitment_bytes s) (omega arith)

  shown-long : (m : ℕ) → m < planned_count s ch → length (Shown m) ≡ node_bytes s
  unfolding node_at tree_bytes planned planned_count
  shown-long m h =
      let x = get_or (revealed (leaves s) (hidden_leaves s ch)) m 0 in
      let e : x < 2 * leaves s - 1 = revealed-low (leaves s) (hidden_leaves s ch) m f.leaves-pos h in
      let d = mul-within (node_bytes s) x (2 * leaves s - 1) e in
      length_part tree (node_bytes s * x) (node_bytes s) (omega arith)

  front : length (concat s.tau Hidden) ≡ leaf_commitment_bytes s * s.tau
  front = even-length Hidden (leaf_commitment_bytes s) s.tau hidden-long

  middle : length (concat (planned_count s ch) Shown) ≡ node_bytes s * planned_count s ch
  middle = even-length Shown (node_bytes s) (planned_count s ch) shown-long

  pub opening-length : planned_count s ch ≤ s.t → length (opening_of s ch tree lcs) ≡ opening_bytes s
  unfolding opening_of opening_bytes
  opening-length h =
      let a = front in
      let b = middle in
      let c = length-zeros (node_bytes s * (s.t - planned_count s ch)) in
      let d = mul-add (node_bytes s) (planned_count s ch) (s.t - planned_count s ch) in
      let e : node_bytes s * (planned_count s ch + (s.t - planned_count s ch)) ≡ node_bytes s * s.t =
      ap (λ (n : ℕ). node_bytes s * n) (let z : planned_count s ch + (s.t - planned_count s ch) ≡ s.t = omega arith in z) in
      simp length-append (omega arith)

  pub opening-hidden : (i : ℕ) → i < s.tau → hidden_leaf_commitment s (opening_of s ch tree lcs) i ≡ leaf_commitment_at s lcs i (hidden_index s ch i)
  unfolding opening_of hidden_leaf_commitment
  opening-hidden i h =
      let w = leaf_commitment_bytes s in
      let a = front in
      let m = mul-within w i s.tau h in
      part-front (concat s.tau Hidden ++ concat (planned_count s ch) Shown) (zeros (node_bytes s * (s.t - planned_count s ch))) (w * i) w (simp length-append (omega arith))
      ∙ part-front (concat s.tau Hidden) (concat (planned_count s ch) Shown) (w * i) w (omega arith)
      ∙ even-part Hidden w s.tau i hidden-long h

  pub opening-slot : (m : ℕ) → m < planned_count s ch → slot s (opening_of s ch tree lcs) m ≡ node_at s tree (get_or (planned s ch) m 0)
  unfolding opening_of slot
  opening-slot m h =
      let w = node_bytes s in
      let at = leaf_commitment_bytes s * s.tau + w * m in
      let a = front in
      let b = middle in
      let d = mul-within w m (planned_count s ch) h in
      part-front (concat s.tau Hidden ++ concat (planned_count s ch) Shown) (zeros (w * (s.t - planned_count s ch))) at w (simp length-append (omega arith))
      ∙ part-after (concat s.tau Hidden) (concat (planned_count s ch) Shown) at (w * m) w (omega arith)
      ∙ even-part Shown w (planned_count s ch) m shown-long h

  pub opening-rest : slots_ok s ch (opening_of s ch tree lcs) ≡ true
  unfolding slots_ok opening_of zeros
  opening-rest =
      let a = front in
      let b = middle in
      ap all_zero (drop_at (concat s.tau Hidden ++ concat (planned_count s ch) Shown) (replicate (node_bytes s * (s.t - planned_count s ch)) 0)
      (leaf_commitment_bytes s * s.tau + node_bytes s * planned_count s ch) (simp length-append (omega arith)))
      ∙ zeros-all (node_bytes s * (s.t - planned_count s ch))

-- what an opening depends on
pub opening-same : (s : Shape) (ch tree tree₂ lcs lcs₂ : List ℕ)
    → ((m : ℕ) → m < planned_count s ch → node_at s tree (get_or (planned s ch) m 0) ≡ node_at s tree₂ (get_or (planned s ch) m 0))
    → ((i : ℕ) → i < s.tau → leaf_commitment_at s lcs i (hidden_index s ch i) ≡ leaf_commitment_at s lcs₂ i (hidden_index s ch i))
    → opening_of s ch tree lcs ≡ opening_of s ch tree₂ lcs₂
unfolding opening_of
opening-same s ch tree tree₂ lcs lcs₂ f g =
    ap (λ (l : List ℕ). l ++ zeros (node_bytes s * (s.t - planned_count s ch)))
    (ap₂ ◌++◌ (concat-same (λ i. leaf_commitment_at s lcs i (hidden_index s ch i)) (λ i. leaf_commitment_at s lcs₂ i (hidden_index s ch i)) s.tau g)
    (concat-same (λ m. node_at s tree (get_or (planned s ch) m 0)) (λ m. node_at s tree₂ (get_or (planned s ch) m 0)) (planned_count s ch) f))

-- ---- a matrix

module _ (s : Shape) (f : ShapeLaws s) (b : ℕ) (column : ℕ → ℕ → List ℕ) (long : (i j : ℕ) → length (column i j) ≡ b) where
  abbrev Segment : ℕ → List ℕ
  Segment i = concat (depth_of s i) (column i)

  segment-length : (i : ℕ) → length (Segment i) ≡ b * depth_of s i
  segment-length i = even-length (column i) b (depth_of s i) (λ j l. long i j)

  m-laid : (i : ℕ) → i < s.tau → b * first_bit s (suc i) ≡ b * first_bit s i + length (Segment i)
  m-laid i h =
      ap (λ (n : ℕ). b * n) (f.bit-next i) ∙ mul-add b (first_bit s i) (depth_of s i) ∙ ap (λ (n : ℕ). b * first_bit s i + n) (sym (segment-length i))

  m-none : b * first_bit s 0 ≡ 0
  m-none = ap (λ (n : ℕ). b * n) f.bit-none ∙ mul-zero b

  m-length : length (concat s.tau Segment) ≡ b * first_bit s s.tau
  m-length = laid-length Segment (λ i. b * first_bit s i) m-none s.tau m-laid

  pub matrix-column : (i j : ℕ) → i < s.tau → j < depth_of s i → part (matrix_of s b column) (b * (first_bit s i + j)) b ≡ column i j
  unfolding matrix_of
  matrix-column i j h l =
      let a = m-length in
      let c = segment-before (first_bit s) (depth_of s) s.tau i (λ n m. f.bit-next n) h in
      let d = mul-within b (first_bit s i + j) (first_bit s s.tau) (omega arith) in
      let e = segment-length i in
      let g = mul-within b j (depth_of s i) l in
      part-front (concat s.tau Segment) (zeros (b * s.w)) (b * (first_bit s i + j)) b (omega arith)
      ∙ ap (λ (n : ℕ). part (concat s.tau Segment) n b) (mul-add b (first_bit s i) j)
      ∙ laid-part Segment (λ i. b * first_bit s i) m-none s.tau i (b * j) b m-laid h (omega arith)
      ∙ even-part (column i) b (depth_of s i) j (λ j l. long i j) l

  pub matrix-length : length (matrix_of s b column) ≡ b * level s
  unfolding matrix_of
  matrix-length =
      let a = m-length in
      let z = length-zeros (b * s.w) in
      let d = mul-add b (first_bit s s.tau) s.w in
      let e : b * (first_bit s s.tau + s.w) ≡ b * level s = ap (λ (n : ℕ). b * n) f.bit-all in
      simp length-append (omega arith)

  -- the columns of the grinding bits
  pub matrix-rest : (c : ℕ) → part (matrix_of s b column) (b * (first_bit s s.tau + c)) b ≡ part (zeros (b * s.w)) (b * c) b
  unfolding matrix_of
  matrix-rest c =
      let a = m-length in
      let d = mul-add b (first_bit s s.tau) c in
      part-after (concat s.tau Segment) (zeros (b * s.w)) (b * (first_bit s s.tau + c)) (b * c) b (omega arith)

-- a column before the grinding bits is column j of some vector i
pub record At (s : Shape) (n c : ℕ) : Type 0 where
  pub i : ℕ
  pub j : ℕ
  pub vector : i < n
  pub within : j < depth_of s i
  pub is : c ≡ first_bit s i + j

pub find : (s : Shape) → ShapeLaws s → (n c : ℕ) → c < first_bit s n → At s n c
find s f zero c h = absurd (let z = f.bit-none in omega arith)
find s f (suc n) c h = go (dec_lt c (first_bit s n)) (λ l. find s f n c l)
  where
    go : Dec (c < first_bit s n) → (c < first_bit s n → At s n c) → At s (suc n) c
    go (yes l) ih = (let a = ih l in record { i = a.i; j = a.j; vector = omega (arith, a.vector); within = a.within; is = a.is })
    go (no l) ih = record { i = n; j = c - first_bit s n; vector = omega arith; within = (let y = f.bit-next n in omega arith); is = omega arith }
