-- Document 01, "The five calls" and "When a call is turned down", and document 02, E1: for each call its number, its count and every buffer that it may write,
-- after it.
-- The record with the call's name is its contract, with P at `faest`; buffers that a call only reads are lent to it shared, and do not change.
-- The shape a caller gives is resolved in the contracts of the calls, and in nothing that they are built from.
use Rattle.std.specs.Prelude.{ℕ, ◌+◌, ◌/◌, ◌%◌, ◌≡◌, Bool, true, ◌&&◌, ◌||◌, cond, List, [], ◌∷◌, ◌++◌, leb, eqb, length, drop}
use Rattle.spec.specs.declared.Shape.{Shape}
use Rattle.spec.specs.declared.Stretch.{Stretch}
use Rattle.spec.specs.declared.Answer.{Answer}
use Rattle.spec.specs.Shapes.{resolved, shape_ok, node_bytes, challenge_bytes, hash_bytes, iv_bytes, tree_bytes, leaf_commitments_bytes, opening_bytes, matrix_bytes, corrections_bytes, hidden_indices, grinding_ok, planned, planned_count}
use Rattle.spec.specs.Primitives.{Primitives}
use Rattle.spec.specs.Leaves.{leaf_commitments, commitment_of}
use Rattle.spec.specs.Rows.{stretch_byte, matrix_of}
use Rattle.spec.specs.Signer.{signer_tree, signer_leaf_commitment, signer_u, signer_column, corrections, opening_of}
use Rattle.spec.specs.Verifier.{slots_ok, reconstructed_tree, verifier_leaf_commitment, verifier_column}

-- ---- tests and refusals

-- the number beside the first test that fails, or 0
abbrev pub first_refusal : List (Bool × ℕ) → ℕ
first_refusal [] = 0
first_refusal (t ∷ ts) = cond t.0 (first_refusal ts) t.1

-- each buffer has its length: pairs of a length and what it must be
abbrev pub fits : List (ℕ × ℕ) → Bool
fits [] = true
fits (p ∷ ps) = eqb p.0 p.1 && fits ps

-- a row length in bits: a multiple of 8 from 8 to 65,536
unfoldable pub row_ok : ℕ → Bool
row_ok n = eqb (n % 8) 0 && (leb 8 n && leb n 65536)

-- the whole row of n bits
abbrev pub whole_row : ℕ → Stretch
whole_row n = record { first = 0; width = n / 8 }

-- document 02, E1: at least one byte, and within a row of b bytes
unfoldable pub stretch_ok : ℕ → Stretch → Bool
stretch_ok b z = leb 1 z.width && leb (z.first + z.width) b

-- the nodes of the opening are within the shape's allowance T
unfoldable pub nodes_ok : Shape → List ℕ → Bool
nodes_ok s ch = leb (planned_count s ch) s.t

-- a call gives the count with 0, 5 and 6
abbrev pub count_given : ℕ → Bool
count_given number = eqb number 0 || (eqb number 5 || eqb number 6)

-- the count is the planned one where it is given, and else 0
unfoldable pub count_with : ℕ → ℕ → ℕ
count_with number n = cond (count_given number) n 0

-- what a call that answers `number` leaves of a buffer: the new contents with 0, and else the old
abbrev pub written : {A : Type 0} → ℕ → A → A → A
written number new old = cond (eqb number 0) new old

-- ---- decode: the hidden indices

abbrev pub decode_lengths : Shape → List ℕ → List ℕ → List (ℕ × ℕ)
decode_lengths s ch indices = (length ch, challenge_bytes s) ∷ (length indices, s.tau) ∷ []

unfoldable pub decode_number : Shape → List ℕ → List (ℕ × ℕ) → ℕ
decode_number s ch lengths = first_refusal ((shape_ok s, 1) ∷ (fits lengths, 3) ∷ (grinding_ok s ch, 4) ∷ [])

pub record Decode (s : Shape) (ch before after : List ℕ) (r : Answer) : Type 0 where
  pub number : r.number ≡ decode_number (resolved s) ch (decode_lengths (resolved s) ch before)
  pub count : r.count ≡ 0
  pub indices : after ≡ written r.number (hidden_indices (resolved s) ch) before

-- ---- plan: the revealed nodes, at the front of the list

abbrev pub plan_lengths : Shape → List ℕ → List ℕ → List (ℕ × ℕ)
plan_lengths s ch nodes = (length ch, challenge_bytes s) ∷ (length nodes, s.t) ∷ []

-- of plan and of open
unfoldable pub plan_number : Shape → List ℕ → List (ℕ × ℕ) → ℕ
plan_number s ch lengths = first_refusal ((shape_ok s, 1) ∷ (fits lengths, 3) ∷ (grinding_ok s ch, 4) ∷ (nodes_ok s ch, 5) ∷ [])

pub record Plan (s : Shape) (ch before after : List ℕ) (r : Answer) : Type 0 where
  pub number : r.number ≡ plan_number (resolved s) ch (plan_lengths (resolved s) ch before)
  pub count : r.count ≡ count_with r.number (planned_count (resolved s) ch)
  pub nodes : after ≡ written r.number (planned (resolved s) ch ++ drop (planned_count (resolved s) ch) before) before

-- ---- commit

pub record Committed : Type 0 where
  pub commitment : List ℕ
  pub tree : List ℕ
  pub leaf_commitments : List ℕ
  pub u : List ℕ
  pub v : List ℕ
  pub corrections : List ℕ

-- what commit writes, with the stretch z of every row
unfoldable pub committed : Primitives → Shape → Stretch → List ℕ → List ℕ → Committed
committed P s z root iv =
    let tree = signer_tree P s root iv in
    let b = z.width in
    let row = stretch_byte P s z iv tree in
    record {
      commitment = commitment_of P s (signer_leaf_commitment P s iv tree);
      tree = tree;
      leaf_commitments = leaf_commitments s (signer_leaf_commitment P s iv tree);
      u = signer_u s b row;
      v = matrix_of s b (signer_column s b row);
      corrections = corrections s b row;
    }

-- b is the width of a row, or of its stretch
abbrev pub commit_lengths : Shape → ℕ → List ℕ → List ℕ → Committed → List (ℕ × ℕ)
commit_lengths s b root iv x =
    (length root, node_bytes s)
    ∷ (length iv, iv_bytes)
    ∷ (length x.commitment, hash_bytes s)
    ∷ (length x.tree, tree_bytes s)
    ∷ (length x.leaf_commitments, leaf_commitments_bytes s)
    ∷ (length x.u, b)
    ∷ (length x.v, matrix_bytes s b)
    ∷ (length x.corrections, corrections_bytes s b)
    ∷ []

-- n is the row length in bits, here and below
unfoldable pub commit_number : Shape → ℕ → List (ℕ × ℕ) → ℕ
commit_number s n lengths = first_refusal ((shape_ok s, 1) ∷ (row_ok n, 2) ∷ (fits lengths, 3) ∷ [])

pub record Commit (P : Primitives) (s : Shape) (n : ℕ) (root iv : List ℕ) (before after : Committed) (r : Answer) : Type 0 where
  pub number : r.number ≡ commit_number (resolved s) n (commit_lengths (resolved s) (n / 8) root iv before)
  pub count : r.count ≡ 0
  pub buffers : after ≡ written r.number (committed P (resolved s) (whole_row n) root iv) before

-- ---- commit, of a stretch of the rows

unfoldable pub commit_stretch_number : Shape → ℕ → Stretch → List (ℕ × ℕ) → ℕ
commit_stretch_number s n z lengths = first_refusal ((shape_ok s, 1) ∷ (row_ok n, 2) ∷ (stretch_ok (n / 8) z, 8) ∷ (fits lengths, 3) ∷ [])

pub record CommitStretch (P : Primitives) (s : Shape) (n : ℕ) (z : Stretch) (root iv : List ℕ) (before after : Committed) (r : Answer) : Type 0 where
  pub number : r.number ≡ commit_stretch_number (resolved s) n z (commit_lengths (resolved s) z.width root iv before)
  pub count : r.count ≡ 0
  pub buffers : after ≡ written r.number (committed P (resolved s) z root iv) before

-- ---- open

abbrev pub open_lengths : Shape → List ℕ → List ℕ → List ℕ → List ℕ → List (ℕ × ℕ)
open_lengths s ch tree lcs opening =
    (length ch, challenge_bytes s)
    ∷ (length tree, tree_bytes s)
    ∷ (length lcs, leaf_commitments_bytes s)
    ∷ (length opening, opening_bytes s)
    ∷ []

pub record Open (s : Shape) (ch tree lcs before after : List ℕ) (r : Answer) : Type 0 where
  pub number : r.number ≡ plan_number (resolved s) ch (open_lengths (resolved s) ch tree lcs before)
  pub count : r.count ≡ count_with r.number (planned_count (resolved s) ch)
  pub opening : after ≡ written r.number (opening_of (resolved s) ch tree lcs) before

-- ---- reconstruct

pub record Reconstructed : Type 0 where
  pub commitment : List ℕ
  pub tree : List ℕ
  pub leaf_commitments : List ℕ
  pub q : List ℕ

-- what reconstruct writes, with the stretch z of every row; the corrections are cut likewise
unfoldable pub reconstructed : Primitives → Shape → Stretch → List ℕ → List ℕ → List ℕ → List ℕ → Reconstructed
reconstructed P s z iv ch corrections opening =
    let tree = reconstructed_tree P s iv ch opening in
    let b = z.width in
    record {
      commitment = commitment_of P s (verifier_leaf_commitment P s iv ch opening tree);
      tree = tree;
      leaf_commitments = leaf_commitments s (verifier_leaf_commitment P s iv ch opening tree);
      q = matrix_of s b (verifier_column s b (stretch_byte P s z iv tree) ch corrections);
    }

-- b is the width of a row, or of its stretch
abbrev pub reconstruct_lengths : Shape → ℕ → List ℕ → List ℕ → List ℕ → List ℕ → Reconstructed → List (ℕ × ℕ)
reconstruct_lengths s b iv ch corrections opening x =
    (length iv, iv_bytes)
    ∷ (length ch, challenge_bytes s)
    ∷ (length corrections, corrections_bytes s b)
    ∷ (length opening, opening_bytes s)
    ∷ (length x.commitment, hash_bytes s)
    ∷ (length x.tree, tree_bytes s)
    ∷ (length x.leaf_commitments, leaf_commitments_bytes s)
    ∷ (length x.q, matrix_bytes s b)
    ∷ []

unfoldable pub reconstruct_number : Shape → ℕ → List ℕ → List ℕ → List (ℕ × ℕ) → ℕ
reconstruct_number s n ch opening lengths =
    first_refusal
    ((shape_ok s, 1)
    ∷ (row_ok n, 2)
    ∷ (fits lengths, 3)
    ∷ (grinding_ok s ch, 4)
    ∷ (nodes_ok s ch, 5)
    ∷ (slots_ok s ch opening, 6)
    ∷ [])

pub record Reconstruct (P : Primitives) (s : Shape) (n : ℕ) (iv ch corrections opening : List ℕ) (before after : Reconstructed) (r : Answer) : Type 0 where
  pub number : r.number ≡ reconstruct_number (resolved s) n ch opening (reconstruct_lengths (resolved s) (n / 8) iv ch corrections opening before)
  pub count : r.count ≡ count_with r.number (planned_count (resolved s) ch)
  pub buffers : after ≡ written r.number (reconstructed P (resolved s) (whole_row n) iv ch corrections opening) before

-- ---- reconstruct, of a stretch of the rows

unfoldable pub reconstruct_stretch_number : Shape → ℕ → Stretch → List ℕ → List ℕ → List (ℕ × ℕ) → ℕ
reconstruct_stretch_number s n z ch opening lengths =
    first_refusal
    ((shape_ok s, 1)
    ∷ (row_ok n, 2)
    ∷ (stretch_ok (n / 8) z, 8)
    ∷ (fits lengths, 3)
    ∷ (grinding_ok s ch, 4)
    ∷ (nodes_ok s ch, 5)
    ∷ (slots_ok s ch opening, 6)
    ∷ [])

pub record ReconstructStretch (P : Primitives) (s : Shape) (n : ℕ) (z : Stretch) (iv ch corrections opening : List ℕ) (before after : Reconstructed) (r : Answer) : Type 0 where
  pub number : r.number ≡ reconstruct_stretch_number (resolved s) n z ch opening (reconstruct_lengths (resolved s) z.width iv ch corrections opening before)
  pub count : r.count ≡ count_with r.number (planned_count (resolved s) ch)
  pub buffers : after ≡ written r.number (reconstructed P (resolved s) z iv ch corrections opening) before
