-- Document 02, E6, as a C host makes the calls: shape and number go as numbers, lengths and the count as four bytes each, least byte first (E4).
-- The record with the call's name is the exported call's contract, as in `RecordCalls`. write_record has no count slice: its count is always 0.
use Rattle.std.specs.Prelude.{ℕ, ◌/◌, ◌≡◌, List, [], ◌∷◌, eqb, length}
use Rattle.spec.specs.declared.Shape.{Shape}
use Rattle.spec.specs.Shapes.{resolved, tree_bytes, leaf_commitments_bytes, matrix_bytes, planned_count}
use Rattle.spec.specs.Primitives.{Primitives}
use Rattle.spec.specs.Calls.{first_refusal, fits, written}
use Rattle.spec.specs.HostCalls.{word_bytes, count_slice, with_count}
use Rattle.record.specs.Record.{record_bytes, Contents, contents_of, head_number, record_of}
use Rattle.record.specs.RecordCalls.{Work, work_lengths, made, work_of, record_number, answered, length_number, write_number}

-- ---- check_record: the count slice is among the lengths that 3 compares, and is written with 0, 5, 6 and 11

pub record HostCheckRecord (P : Primitives) (rec : List ℕ) (before after : Work) (count count' : List ℕ) (r : ℕ) : Type 0 where
  pub number : r ≡ record_number P rec (with_count count (work_lengths (resolved (contents_of rec).shape) ((contents_of rec).row / 8) before))
  pub buffers : after ≡ written (answered r) (work_of (made P (contents_of rec))) before
  pub counted : count' ≡ count_slice (answered r) (planned_count (resolved (contents_of rec).shape) (contents_of rec).challenge) count

-- ---- work_lengths: the lengths of tree, leaf commitments and Q, in a slice of three numbers

abbrev pub work_words : List ℕ → List ℕ
work_words rec =
    let s = resolved (contents_of rec).shape in
    tree_bytes s ∷ leaf_commitments_bytes s ∷ matrix_bytes s ((contents_of rec).row / 8) ∷ []

pub record HostWorkLengths (rec before after : List ℕ) (r : ℕ) : Type 0 where
  pub number : r ≡ first_refusal ((eqb (head_number rec) 0, head_number rec) ∷ (fits ((length before, 12) ∷ []), 3) ∷ [])
  pub lengths : after ≡ written r (word_bytes (work_words rec)) before

-- ---- record_length: one number

pub record HostRecordLength (s : Shape) (n : ℕ) (before after : List ℕ) (r : ℕ) : Type 0 where
  pub number : r ≡ first_refusal ((eqb (length_number s n) 0, length_number s n) ∷ (fits ((length before, 4) ∷ []), 3) ∷ [])
  pub bytes : after ≡ written r (word_bytes (record_bytes (resolved s) (n / 8) ∷ [])) before

-- ---- write_record

pub record HostWriteRecord (c : Contents) (before after : List ℕ) (r : ℕ) : Type 0 where
  pub number : r ≡ write_number c before
  pub rec : after ≡ written r (record_of c) before
