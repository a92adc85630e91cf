-- Document 02, E13: check_record for named sets alone. Its tests are check_record's, with 13 behind those of the front. The records are contracts, as in `RecordCalls`.
use Rattle.std.specs.Prelude.{ℕ, ◌/◌, ◌≡◌, Bool, List, [], ◌∷◌, ◌++◌}
use Rattle.spec.specs.declared.Answer.{Answer}
use Rattle.spec.specs.Shapes.{resolved, planned_count}
use Rattle.spec.specs.Primitives.{Primitives}
use Rattle.spec.specs.Calls.{first_refusal, count_with, written}
use Rattle.spec.specs.HostCalls.{count_slice, with_count}
use Rattle.record.specs.Record.{contents_of, head_tests, rest_tests}
use Rattle.record.specs.RecordCalls.{Work, work_lengths, made, work_of, same_bytes, work_tests, answered}
use Rattle.named_sets.specs.NamedSets.{named_ok}

-- the front, and that it is a named set's: 9, 10, 1, 2, 13
abbrev pub front_tests : List ℕ → List (Bool × ℕ)
front_tests rec = head_tests rec ++ ((named_ok (contents_of rec).shape (contents_of rec).row, 13) ∷ [])

unfoldable pub front_number : List ℕ → ℕ
front_number rec = first_refusal (front_tests rec)

-- behind the front: 10, 3, 4, 5, 6, 11
abbrev pub later_tests : Primitives → List ℕ → List (ℕ × ℕ) → List (Bool × ℕ)
later_tests P rec lengths =
    let c = contents_of rec in
    rest_tests rec ++ (work_tests c lengths ++ ((same_bytes (made P c).commitment c.commitment, 11) ∷ []))

unfoldable pub named_number : Primitives → List ℕ → List (ℕ × ℕ) → ℕ
named_number P rec lengths = first_refusal (front_tests rec ++ later_tests P rec lengths)

-- count and buffers are check_record's, with this number: 13 gives no count and writes nothing
pub record CheckNamed (P : Primitives) (rec : List ℕ) (before after : Work) (r : Answer) : Type 0 where
  pub number : r.number ≡ named_number P rec (work_lengths (resolved (contents_of rec).shape) ((contents_of rec).row / 8) before)
  pub count : r.count ≡ count_with (answered r.number) (planned_count (resolved (contents_of rec).shape) (contents_of rec).challenge)
  pub buffers : after ≡ written (answered r.number) (work_of (made P (contents_of rec))) before

-- as a C host makes the call (document 02, E4): the count slice is among the lengths that 3 compares, and is written with 0, 5, 6 and 11
pub record HostCheckNamed (P : Primitives) (rec : List ℕ) (before after : Work) (count count' : List ℕ) (r : ℕ) : Type 0 where
  pub number : r ≡ named_number P rec (with_count count (work_lengths (resolved (contents_of rec).shape) ((contents_of rec).row / 8) before))
  pub buffers : after ≡ written (answered r) (work_of (made P (contents_of rec))) before
  pub counted : count' ≡ count_slice (answered r) (planned_count (resolved (contents_of rec).shape) (contents_of rec).challenge) count
