-- Document 02, E6: for each call on a record its number, its count and every buffer that it may write, after it. The record with the call's name is its
-- contract, with P at `faest`.
use Rattle.std.specs.Prelude.{ℕ, ◌/◌, ◌≤◌, ◌≡◌, Bool, true, false, ◌&&◌, cond, List, [], ◌∷◌, ◌++◌, eqb, length}
use Rattle.spec.specs.declared.Shape.{Shape}
use Rattle.spec.specs.declared.Answer.{Answer}
use Rattle.spec.specs.Shapes.{resolved, shape_ok, challenge_bytes, hash_bytes, iv_bytes, tree_bytes, leaf_commitments_bytes, opening_bytes, matrix_bytes, corrections_bytes, grinding_ok, planned_count}
use Rattle.spec.specs.Primitives.{Primitives}
use Rattle.spec.specs.Verifier.{slots_ok}
use Rattle.spec.specs.Calls.{first_refusal, fits, row_ok, nodes_ok, whole_row, count_with, written, Reconstructed, reconstructed, Reconstruct}
use Rattle.record.specs.declared.Lengths.{Lengths}
use Rattle.record.specs.declared.RecordLength.{RecordLength}
use Rattle.record.specs.Record.{record_bytes, Contents, contents_of, head_tests, rest_tests, head_number, record_of}

-- ---- the work buffers, lent to check_record

pub record Work : Type 0 where
  pub tree : List ℕ
  pub leaf_commitments : List ℕ
  pub q : List ℕ

-- their lengths for a resolved shape with rows of b bytes
abbrev pub work_lengths : Shape → ℕ → Work → List (ℕ × ℕ)
work_lengths s b x =
    (length x.tree, tree_bytes s) ∷ (length x.leaf_commitments, leaf_commitments_bytes s) ∷ (length x.q, matrix_bytes s b) ∷ []

-- ---- work_lengths: the lengths that a record's front asks for, and the largest that any does

pub record WorkLengths (rec : List ℕ) (r : Lengths) : Type 0 where
  pub number : r.number ≡ head_number rec
  pub tree : r.tree ≡ written r.number (tree_bytes (resolved (contents_of rec).shape)) 0
  pub leaf_commitments : r.leaf_commitments ≡ written r.number (leaf_commitments_bytes (resolved (contents_of rec).shape)) 0
  pub q : r.q ≡ written r.number (matrix_bytes (resolved (contents_of rec).shape) ((contents_of rec).row / 8)) 0
  pub most : (r.tree ≤ 5504992) × (r.leaf_commitments ≤ 8257536) × (r.q ≤ 2097152)

-- ---- check_record

-- the contract of reconstruct on the fields, and what it makes of them
abbrev pub Reconstructs : Primitives → Contents → Reconstructed → Reconstructed → Answer → Type 0
Reconstructs P c before after r = Reconstruct P c.shape c.row c.iv c.challenge c.corrections c.opening before after r

unfoldable pub made : Primitives → Contents → Reconstructed
made P c = reconstructed P (resolved c.shape) (whole_row c.row) c.iv c.challenge c.corrections c.opening

-- the work buffers among the buffers of reconstruct
abbrev pub work_of : Reconstructed → Work
work_of y = record { tree = y.tree; leaf_commitments = y.leaf_commitments; q = y.q }

unfoldable pub same_bytes : List ℕ → List ℕ → Bool
same_bytes [] [] = true
same_bytes [] (y ∷ ys) = false
same_bytes (x ∷ xs) [] = false
same_bytes (x ∷ xs) (y ∷ ys) = eqb x y && same_bytes xs ys

-- what an opening is tested for
abbrev pub opening_tests : Contents → List (Bool × ℕ)
opening_tests c =
    let s = resolved c.shape in
    (grinding_ok s c.challenge, 4) ∷ (nodes_ok s c.challenge, 5) ∷ (slots_ok s c.challenge c.opening, 6) ∷ []

-- what is tested behind reading and before the comparison: the work buffers, by their lengths, then the opening
abbrev pub work_tests : Contents → List (ℕ × ℕ) → List (Bool × ℕ)
work_tests c lengths = (fits lengths, 3) ∷ opening_tests c

unfoldable pub record_number : Primitives → List ℕ → List (ℕ × ℕ) → ℕ
record_number P rec lengths =
    let c = contents_of rec in
    first_refusal ((head_tests rec ++ rest_tests rec) ++ (work_tests c lengths ++ ((same_bytes (made P c).commitment c.commitment, 11) ∷ [])))

-- with 11 reconstruct answered 0, and the count and the buffers are as with 0
abbrev pub answered : ℕ → ℕ
answered number = cond (eqb number 11) 0 number

pub record CheckRecord (P : Primitives) (rec : List ℕ) (before after : Work) (r : Answer) : Type 0 where
  pub number : r.number ≡ record_number P rec (work_lengths (resolved (contents_of rec).shape) ((contents_of rec).row / 8) before)
  pub count : r.count ≡ count_with (answered r.number) (planned_count (resolved (contents_of rec).shape) (contents_of rec).challenge)
  pub buffers : after ≡ written (answered r.number) (work_of (made P (contents_of rec))) before

-- ---- record_length: how long a record is, and the longest

unfoldable pub length_number : Shape → ℕ → ℕ
length_number s n = first_refusal ((shape_ok (resolved s), 1) ∷ (row_ok n, 2) ∷ [])

pub record LengthOf (s : Shape) (n : ℕ) (r : RecordLength) : Type 0 where
  pub number : r.number ≡ length_number s n
  pub bytes : r.bytes ≡ written r.number (record_bytes (resolved s) (n / 8)) 0
  pub most : r.bytes ≤ 273555

-- ---- write_record

unfoldable pub write_number : Contents → List ℕ → ℕ
write_number c rec =
    let s = resolved c.shape in
    let b = c.row / 8 in
    first_refusal
    ((shape_ok s, 1)
    ∷ (row_ok c.row, 2)
    ∷ (
      fits
          ((length c.iv, iv_bytes)
          ∷ (length c.challenge, challenge_bytes s)
          ∷ (length c.corrections, corrections_bytes s b)
          ∷ (length c.opening, opening_bytes s)
          ∷ (length c.commitment, hash_bytes s)
          ∷ (length rec, record_bytes s b)
          ∷ []),
      3,
    )
    ∷ [])

pub record WriteRecord (c : Contents) (before after : List ℕ) (r : Answer) : Type 0 where
  pub number : r.number ≡ write_number c before
  pub count : r.count ≡ 0
  pub rec : after ≡ written r.number (record_of c) before
