-- One vector's bytes, from what its halves gave: the xor of its rows, its leaf commitments, columns and hash; u and a correction.
use Prim.Native.Nat.{ℕ, ◌+◌, ◌-◌, ◌*◌, ◌^◌, ◌≤◌, ◌<◌}
use mathlib.Core.Path.{◌≡◌, refl, ap, ap₂, ◌∙◌, subst}
use mathlib.Core.List.{List, ◌++◌}
use native.Mathlib.Omega.{arith}
use lib.Bits.{bit_xor, xor_zero_l, xor_zero_r}
use lib.ListN.{length, get_or, take, drop}
use lib.Pow.{pow_pos}
use lib.Seq.{take_at, length-take-le}
use Rattle.spec.specs.declared.Shape.{Shape}
use Rattle.spec.specs.Bytes.{bit, part, tabulate, concat, zeros}
use Rattle.spec.specs.Hashes.{hash1}
use Rattle.spec.specs.Shapes.{leaf_commitment_bytes, hash_bytes, rate, depth_of, entries_of}
use Rattle.spec.specs.Primitives.{faest}
use Rattle.spec.specs.Leaves.{vector_commitments, vector_hash}
use Rattle.spec.specs.Rows.{u_byte, column_byte}
use Rattle.spec.specs.Signer.{signer_u, signer_column, correction}
use Rattle.laws.proofs.Xor.{xor_assoc}
use Rattle.laws.proofs.Lists.{length-tabulate, get_or-tabulate, tabulate-same, is-tabulate}
use Rattle.laws.proofs.Sums.{xor_same}
use Rattle.laws.proofs.Concat.{concat-same}
use Rattle.laws.proofs.Putting.{put-size, put-here}
use Rattle.laws.proofs.Strings.{get_or-zeros}
use Rattle.columns.specs.Columns.{Xored}
use Rattle.job.specs.declared.Job.{Job}
use Rattle.job.specs.Jobs.{entry_commitment, entry_byte}
use Rattle.vector.specs.Entries.{Written}
use Rattle.vector.specs.Vectors.{Converted}
use Rattle.vector.proofs.Buffers.{part-size, put-block, copied}
use Rattle.vector.proofs.Entries.{written_then, written_all}

-- two strings of b bytes, from byte `at` of x and of y on, added to a total
pub sum_of : (b at : ℕ) (f : ℕ → ℕ) (x y old mid new : List ℕ) → length old ≡ b → Xored 0 (length old) (λ p. get_or x (at + p) 0) old mid → Xored 0 (length mid) (λ p. get_or y (at + p) 0) mid new
    → ((p : ℕ) → p < b → bit_xor (get_or x (at + p) 0) (get_or y (at + p) 0) ≡ f p) → new ≡ tabulate b (λ p. bit_xor (get_or old p 0) (f p))
sum_of b at f x y old mid new e one two h =
    is-tabulate b (λ p. bit_xor (get_or old p 0) (f p)) 0 new (two.size ∙ one.size ∙ e)
    (λ p l. two.inside p (omega arith) (omega (arith, one.size))
    ∙ ap (λ (v : ℕ). bit_xor v (get_or y (at + p) 0)) (one.inside p (omega arith) (omega arith))
    ∙ xor_assoc (get_or old p 0) (get_or x (at + p) 0) (get_or y (at + p) 0)
    ∙ ap (bit_xor (get_or old p 0)) (h p l))

-- an entry's number is itself
pub some-entry : (s : Shape) (i : ℕ) → 0 < entries_of s i
unfolding entries_of
some-entry s i = pow_pos (depth_of s i)

pub converted : (g : Job) (tree : List ℕ) (i half n : ℕ) (old mid lcs cols before hash : List ℕ) → n ≡ entries_of g.shape i → length old ≡ leaf_commitment_bytes g.shape * entries_of g.shape i → length before ≡ hash_bytes g.shape
    → Written (leaf_commitment_bytes g.shape) (entry_commitment g tree i) 0 0 half old mid → Written (leaf_commitment_bytes g.shape) (entry_commitment g tree i) 0 half n mid lcs
    → cols ≡ concat (depth_of g.shape i) (λ j. tabulate g.stretch.width (column_byte g.shape (entry_byte g tree) (λ e. bit_xor e 0) i j)) → hash ≡ hash1 (rate g.shape) lcs (length before)
    → Converted g.shape (entry_commitment g tree) (signer_column g.shape g.stretch.width (entry_byte g tree)) i lcs cols hash
unfolding faest entries_of vector_commitments vector_hash column_byte signer_column
converted g tree i half n old mid lcs cols before hash e el eh one two c h =
    let s = g.shape in
    let b = g.stretch.width in
    let w = leaf_commitment_bytes s in
    let row = entry_byte g tree in
    let own : ℕ → List ℕ = entry_commitment g tree i in
    let all = subst (λ (m : ℕ). Written w own 0 0 m old lcs) e (written_then w own 0 0 half n old mid lcs (omega arith) one two) in
    let leaves = written_all w own 0 (depth_of s i) 0 own old lcs (pow_pos (depth_of s i)) el (λ x k. refl) (λ x k. absurd (omega arith)) all in
    record {
      leaves = leaves;
      columns =
          c ∙ concat-same (λ j. tabulate b (column_byte s row (λ e. bit_xor e 0) i j)) (λ j. tabulate b (column_byte s row (λ e. e) i j)) (depth_of s i)
          (λ j hj. tabulate-same b (column_byte s row (λ e. bit_xor e 0) i j) (column_byte s row (λ e. e) i j)
          (λ p hp. xor_same (2 ^ depth_of s i) (λ e. bit j (bit_xor e 0) * row i e p) (λ e. bit j e * row i e p)
          (λ e k. ap (λ (x : ℕ). bit j x * row i e p) (xor_zero_r e))));
      digest = h ∙ ap₂ (λ (x : List ℕ) (y : ℕ). hash1 (rate s) x y) leaves eh;
    }

module _ (s : Shape) (b : ℕ) (row : ℕ → ℕ → ℕ → ℕ) where
  -- the u of vector 0, from a total that was zeros
  pub u-of : (n : ℕ) (old u : List ℕ) → old ≡ zeros n → u ≡ tabulate b (λ p. bit_xor (get_or old p 0) (u_byte s row 0 p)) → u ≡ signer_u s b row
  unfolding signer_u
  u-of n old u z e =
      e ∙ tabulate-same b (λ p. bit_xor (get_or old p 0) (u_byte s row 0 p)) (u_byte s row 0)
      (λ p h. ap (λ (x : ℕ). bit_xor x (u_byte s row 0 p)) (ap (λ (l : List ℕ). get_or l p 0) z ∙ get_or-zeros n p) ∙ xor_zero_l (u_byte s row 0 p))

  pub u-length : (u : List ℕ) → u ≡ signer_u s b row → length u ≡ b
  unfolding signer_u
  u-length u e = ap length e ∙ rw length-tabulate

  -- a correction, from a total that was u
  correction-of : (i : ℕ) (u sum : List ℕ) → u ≡ signer_u s b row → sum ≡ tabulate b (λ p. bit_xor (get_or u p 0) (u_byte s row i p)) → sum ≡ correction s b row i
  unfolding signer_u correction
  correction-of i u sum eu e =
      e ∙ tabulate-same b (λ p. bit_xor (get_or u p 0) (u_byte s row i p)) (λ p. bit_xor (u_byte s row 0 p) (u_byte s row i p))
      (λ p h. ap (λ (x : ℕ). bit_xor x (u_byte s row i p)) (ap (λ (l : List ℕ). get_or l p 0) eu ∙ get_or-tabulate b (u_byte s row 0) p 0 h))

  -- correction j, put behind those before it: u was copied to its place in d, and the rows of vector j + 1 were added to it
  pub correction-more : (j : ℕ) (u d d' y z : List ℕ) → u ≡ signer_u s b row → b * j + b ≤ length d → length u ≡ b → d' ≡ take (b * j) d ++ (part u 0 b ++ drop (b * j + b) d)
      → y ≡ tabulate b (λ p. bit_xor (get_or (part d' (b * j) (b * j + b - b * j)) p 0) (u_byte s row (j + 1) p)) → take (b * j) d ≡ concat j (λ i. correction s b row (i + 1))
      → take (b * (j + 1)) (take (b * j) d' ++ (y ++ z)) ≡ concat (j + 1) (λ i. correction s b row (i + 1))
  correction-more j u d d' y z eu h l e ey r =
      let there = copied (b * j) b d u d' l e in
      let here : part d' (b * j) (b * j + b - b * j) ≡ u = ap (part d' (b * j)) (part-size (b * j) b) ∙ ap (λ (x : List ℕ). part x (b * j) b) there ∙ put-here d u (b * j) b h l in
      let front : take (b * j) d' ≡ take (b * j) d = ap (take (b * j)) e ∙ take_at (take (b * j) d) (part u 0 b ++ drop (b * j + b) d) (b * j) (length-take-le (b * j) d (omega arith)) in
      let long : length y ≡ b = ap length ey ∙ rw length-tabulate in
      put-block (λ i. correction s b row (i + 1)) b j d' y z (omega (arith, ap length there ∙ put-size d u (b * j) b h l)) long
      (correction-of (j + 1) u y eu (ey ∙ ap (λ (x : List ℕ). tabulate b (λ p. bit_xor (get_or x p 0) (u_byte s row (j + 1) p))) here)) (front ∙ r)
