-- The contracts of the exported calls that give lengths, from those of the calls beneath: the number is theirs, or 3 where the slice has another length; the numbers fill the slice.
use Prim.Native.Nat.{ℕ, ◌*◌, ◌/◌}
use mathlib.Core.Path.{◌≡◌, refl, sym, ap, ap₂, ◌∙◌}
use mathlib.Core.List.{List, [], ◌∷◌, ◌++◌, append-nil}
use native.Mathlib.Omega.{arith}
use lib.Dec.{eqb}
use lib.ListN.{length, take, drop, drop_of_length-le}
use lib.Seq.{take-length}
use borrow.Author.Tests.{eq-eqb, ne_eqb}
use Rattle.spec.specs.declared.Shape.{Shape}
use Rattle.spec.specs.Shapes.{resolved}
use Rattle.spec.specs.Calls.{first_refusal, fits, written}
use Rattle.spec.specs.HostCalls.{word_bytes}
use Rattle.record.specs.declared.Lengths.{Lengths}
use Rattle.record.specs.declared.RecordLength.{RecordLength}
use Rattle.record.specs.Record.{record_bytes}
use Rattle.record.specs.RecordCalls.{WorkLengths, LengthOf}
use Rattle.record.specs.HostRecordCalls.{work_words, HostWorkLengths, HostRecordLength}

-- numbers put to the front of a slice that has just their room
words-whole : (xs out : List ℕ) → length out ≡ 4 * length xs → word_bytes (take (length xs) xs) ++ drop (4 * length xs) out ≡ word_bytes xs
words-whole xs out h =
    ap₂ (λ (a b : List ℕ). a ++ b) (ap word_bytes (take-length xs)) (drop_of_length-le out {i = 4 * length xs} (omega arith)) ∙ append-nil (word_bytes xs)

-- k is the number of the call beneath, and xs are the numbers, which go to a slice
module _ (k : ℕ) (xs before : List ℕ) where
  abbrev Given : List ℕ → ℕ → Type 0
  Given after r = (r ≡ first_refusal ((eqb k 0, k) ∷ (fits ((length before, 4 * length xs) ∷ []), 3) ∷ [])) × (after ≡ written r (word_bytes xs) before)

  refused : (k ≡ 0 → ⊥) → Given before k
  refused h = (let z = ne_eqb k 0 h in (sym (rw z refl), sym (rw z refl)))

  three : k ≡ 0 → (length before ≡ 4 * length xs → ⊥) → Given before 3
  three z h = (sym (rw (z, ne_eqb (length before) (4 * length xs) h) refl), refl)

  done : k ≡ 0 → length before ≡ 4 * length xs → (after : List ℕ) → after ≡ word_bytes (take (length xs) xs) ++ drop (4 * length xs) before → Given after 0
  done z h after w = (sym (rw (z, eq-eqb (length before) (4 * length xs) h) refl), w ∙ words-whole xs before h)

-- ---- work_lengths

module _ (rec before : List ℕ) (l : Lengths) (w : WorkLengths rec l) where
  work-host : (after : List ℕ) (r : ℕ) → Given l.number (work_words rec) before after r → HostWorkLengths rec before after r
  work-host after r g = record { number = rw (sym w.number) g.0; lengths = g.1 }

  pub work-refused : (l.number ≡ 0 → ⊥) → HostWorkLengths rec before before l.number
  work-refused h = work-host before l.number (refused l.number (work_words rec) before h)

  pub work-three : l.number ≡ 0 → (length before ≡ 12 → ⊥) → HostWorkLengths rec before before 3
  work-three z h = work-host before 3 (three l.number (work_words rec) before z h)

  pub work-given : l.number ≡ 0 → length before ≡ 12 → (after : List ℕ) → after ≡ word_bytes (l.tree ∷ l.leaf_commitments ∷ l.q ∷ []) ++ drop 12 before
      → HostWorkLengths rec before after 0
  work-given z h after g =
      work-host after 0
      (done l.number (work_words rec) before z h after
      (g ∙ ap (λ (xs : List ℕ). word_bytes xs ++ drop 12 before) (rw (w.tree, w.leaf_commitments, w.q, z) refl)))

-- ---- record_length

module _ (s : Shape) (n : ℕ) (before : List ℕ) (l : RecordLength) (w : LengthOf s n l) where
  abbrev word : List ℕ
  word = record_bytes (resolved s) (n / 8) ∷ []

  length-host : (after : List ℕ) (r : ℕ) → Given l.number word before after r → HostRecordLength s n before after r
  length-host after r g = record { number = rw (sym w.number) g.0; bytes = g.1 }

  pub length-refused : (l.number ≡ 0 → ⊥) → HostRecordLength s n before before l.number
  length-refused h = length-host before l.number (refused l.number word before h)

  pub length_three : l.number ≡ 0 → (length before ≡ 4 → ⊥) → HostRecordLength s n before before 3
  length_three z h = length-host before 3 (three l.number word before z h)

  pub length-given : l.number ≡ 0 → length before ≡ 4 → (after : List ℕ) → after ≡ word_bytes (l.bytes ∷ []) ++ drop 4 before → HostRecordLength s n before after 0
  length-given z h after g =
      length-host after 0 (done l.number word before z h after (g ∙ ap (λ (m : ℕ). word_bytes (m ∷ []) ++ drop 4 before) (w.bytes ∙ rw z refl)))
