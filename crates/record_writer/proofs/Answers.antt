-- The record that is the contract of write_record, refused and written. t is the resolved shape, x what the buffer held, r the answer.
use Prim.Native.Nat.{ℕ, ◌+◌, ◌/◌}
use mathlib.Core.Path.{◌≡◌, refl, sym, ap, ◌∙◌}
use mathlib.Core.Bool.{Bool, true, cond}
use mathlib.Core.List.{List, [], ◌∷◌, ◌++◌}
use native.Mathlib.Omega.{arith}
use lib.ListN.{length}
use Rattle.spec.specs.declared.Shape.{Shape}
use Rattle.spec.specs.declared.Answer.{Answer}
use Rattle.spec.specs.Shapes.{resolved, challenge_bytes, hash_bytes, shape_ok, opening_bytes, corrections_bytes}
use borrow.Author.Tests.{ne_eqb}
use Rattle.spec.specs.Calls.{first_refusal, fits}
use Rattle.laws.proofs.Lengths.{fits-sized}
use Rattle.record.specs.Record.{head_bytes, corrections_place, opening_place, commitment_place, record_end, Contents, version_for, head_for, record_of, record_bytes}
use Rattle.record.specs.RecordCalls.{write_number, WriteRecord}
use Rattle.refusals.specs.declared.Refusal.{Refusal}
use Rattle.refusals.specs.Refusal.{number_of, count_of}
use Rattle.refusals.proofs.Lists.{passed-all, stops, decides, refused-uncounted}
use Rattle.record_writer.specs.Tests.{row_tests}
use Rattle.record.proofs.ReadBack.{head-length, version-resolved}

-- the lengths that write_record compares
abbrev pub Lengths : Shape → Contents → List ℕ → List (ℕ × ℕ)
Lengths t c x =
    (length c.iv, 16)
    ∷ (length c.challenge, challenge_bytes t)
    ∷ (length c.corrections, corrections_bytes t (c.row / 8))
    ∷ (length c.opening, opening_bytes t)
    ∷ (length c.commitment, hash_bytes t)
    ∷ (length x, record_bytes t (c.row / 8))
    ∷ []

-- a record of those lengths has room for the fields and what stands before them
pub room : (t : Shape) (c : Contents) (x : List ℕ) → t ≡ resolved c.shape → fits (Lengths t c x) ≡ true
    → length x ≡ 25 + length (head_for c.shape c.row) + length c.iv + length c.challenge + length c.corrections + length c.opening + length c.commitment
unfolding corrections_place opening_place commitment_place record_end record_bytes
room t c x e h =
    let q = fits-sized (Lengths t c x) h in
    let v : head_bytes (version_for t) ≡ length (head_for c.shape c.row) = ap head_bytes (ap version_for e ∙ version-resolved c.shape) ∙ sym (head-length c.shape c.row) in
    omega arith

-- the lengths ls behind the shape and the row length
module _ (s : Shape) (n : ℕ) (ls : List (ℕ × ℕ)) (k : ℕ) (e : k ≡ first_refusal (row_tests s n)) where
  pub rows-stop : (k ≡ 0 → ⊥) → k ≡ first_refusal (row_tests s n ++ (fits ls, 3) ∷ [])
  rows-stop = stops (row_tests s n) (refl, (refl, tt)) k e ((fits ls, 3) ∷ [])

  pub lengths-decide : (r : ℕ) → k ≡ 0 → r ≡ cond (fits ls) 0 3 → r ≡ first_refusal (row_tests s n ++ (fits ls, 3) ∷ [])
  lengths-decide = decides (row_tests s n) (refl, (refl, tt)) k e ((fits ls, 3) ∷ [])

-- its tests, of which none has a number that goes with a count
abbrev Tests : Shape → Contents → List ℕ → List (Bool × ℕ)
Tests t c x = row_tests t c.row ++ (fits (Lengths t c x), 3) ∷ []

pub accepted : (t : Shape) (c : Contents) (x : List ℕ) → 0 ≡ first_refusal (Tests t c x) → (shape_ok t ≡ true) × (fits (Lengths t c x) ≡ true)
accepted t c x e = (let q = passed-all (Tests t c x) (refl, (refl, (refl, tt))) 0 e refl in (q.0, q.1.1.0))

pub uncounted : (t : Shape) (c : Contents) (x : List ℕ) (k : Refusal) → number_of k ≡ first_refusal (Tests t c x) → count_of k ≡ 0
uncounted t c x = refused-uncounted (Tests t c x) (refl, (refl, (refl, tt)))

module _ (t : Shape) (c : Contents) (e : t ≡ resolved c.shape) (x : List ℕ) (r : Answer) where
  module _ (d : r.number ≡ first_refusal (Tests t c x)) (n : r.count ≡ 0) where
    number : r.number ≡ write_number c x
    unfolding write_number
    number = rw e at d

    pub refused : (r.number ≡ 0 → ⊥) → WriteRecord c x x r
    refused h = record { number = number; count = n; rec = rw (ne_eqb r.number 0 h) refl }

    pub written : (y : List ℕ) → r.number ≡ 0 → y ≡ record_of c → WriteRecord c x y r
    written y h w = record { number = number; count = n; rec = rw h w }
