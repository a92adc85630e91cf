-- The record that is the contract of check_record, by the tests that were passed: one law for each way out. x is what the work buffers held, r the answer.
use Prim.Native.Nat.{ℕ, ◌/◌}
use mathlib.Core.Path.{◌≡◌, refl, sym, ap, ◌∙◌}
use mathlib.Core.Bool.{Bool, true, false, ◌&&◌, cond}
use mathlib.Core.List.{List, [], ◌∷◌}
use lib.Dec.{eqb}
use lib.ListN.{length}
use borrow.Author.Tests.{ne_eqb}
use Rattle.spec.specs.declared.Answer.{Answer}
use Rattle.spec.specs.Shapes.{resolved, hash_bytes, planned_count, shape_ok}
use Rattle.spec.specs.Primitives.{faest}
use Rattle.spec.specs.Calls.{first_refusal, row_ok, count_given, count_with, Reconstructed}
use Rattle.record.specs.Fields.{field_ok}
use Rattle.record.specs.Record.{version_of, head_bytes, version_ok, record_end, rest_ok, Contents, contents_of, kind_fits, head_number, read_number}
use Rattle.record.specs.RecordCalls.{answered, Work, work_lengths, work_of, Reconstructs, made, same_bytes, record_number, CheckRecord}
use Rattle.record.proofs.Reading.{front-decides}
use Rattle.record_reading.specs.declared.RecordRefusal.{RecordRefusal}
use Rattle.record_reading.specs.Front.{number_of}
use Rattle.record_reading.proofs.Fronts.{numbered}
use Rattle.record.proofs.Reconstructing.{ran_number, ran-number, ran-count, ran-made, ran-kept, not-eleven, number-refused, number-steps}

-- ---- refused in reading

-- the first of the six tests of reading that fails
abbrev First : Bool → Bool → Bool → Bool → Bool → Bool → ℕ
First a b c d e f = first_refusal ((a, 9) ∷ (b, 10) ∷ (c, 1) ∷ (d, 2) ∷ (e, 10) ∷ (f, 10) ∷ [])

-- with a number of reading check_record writes nothing and gives no count
pub read-quiet : (rec : List ℕ) → (read_number rec ≡ 0 → ⊥) → (eqb (answered (read_number rec)) 0 ≡ false) × (count_given (answered (read_number rec)) ≡ false)
unfolding read_number
read-quiet rec bad =
    let h = head_bytes (version_of rec) in
    let s = resolved (contents_of rec).shape in
    let b = (contents_of rec).row / 8 in
    go (version_ok rec) (field_ok rec 1 h) (shape_ok s && kind_fits (version_of rec) (contents_of rec).shape.kind) (row_ok (contents_of rec).row) (rest_ok h s b rec)
    (eqb (length rec) (record_end h s b)) bad
  where
    go : (a b c d e f : Bool) → (First a b c d e f ≡ 0 → ⊥) → (eqb (answered (First a b c d e f)) 0 ≡ false) × (count_given (answered (First a b c d e f)) ≡ false)
    go false b c d e f n = (refl, refl)
    go true false c d e f n = (refl, refl)
    go true true false d e f n = (refl, refl)
    go true true true false e f n = (refl, refl)
    go true true true true false f n = (refl, refl)
    go true true true true true false n = (refl, refl)
    go true true true true true true n = absurd (n refl)

pub check-read : (rec : List ℕ) (x : Work) (r : Answer) (k : ℕ) → k ≡ read_number rec → (k ≡ 0 → ⊥) → (r.number ≡ k) × (r.count ≡ 0) → CheckRecord faest rec x x r
unfolding count_with
check-read rec x r k e bad a =
    let q = read-quiet rec (λ z. bad (e ∙ z)) in
    let n = a.0 ∙ e in
    record {
      number = n ∙ sym (number-refused faest rec _ (λ z. bad (e ∙ z)));
      count = a.1 ∙ sym (rw (n, q.1) refl);
      buffers = rw (n, q.0) refl;
    }

-- the front is refused
pub check-refused : (rec : List ℕ) (x : Work) (r : Answer) (e : RecordRefusal) → number_of e ≡ head_number rec → (r.number ≡ number_of e) × (r.count ≡ 0) → CheckRecord faest rec x x r
check-refused rec x r e n =
    let bad : head_number rec ≡ 0 → ⊥ = λ z. numbered e (n ∙ z) in
    check-read rec x r (number_of e) (n ∙ sym (front-decides rec bad)) (numbered e)

-- ---- fields that reconstruct was made on; x are its buffers, a is what it answers, y what it leaves. Of every record that is read as these fields

module _ (c : Contents) (x y : Reconstructed) (long : length x.commitment ≡ hash_bytes (resolved c.shape)) (a : Answer) (w : Reconstructs faest c x y a) (rec : List ℕ) (ok : read_number rec ≡ 0) (is : contents_of rec ≡ c) where
  said : a.number ≡ ran_number c x
  said = ran-number faest c x y a w

  -- the number, by its steps
  steps : (r : ℕ) → r ≡ cond (eqb a.number 0) (cond (same_bytes (made faest c).commitment c.commitment) 0 11) a.number
      → r ≡ record_number faest rec (work_lengths (resolved (contents_of rec).shape) ((contents_of rec).row / 8) (work_of x))
  steps r e = e ∙ sym (number-steps faest rec x (rw is long) ∙ rw (ok, is, ← said) refl)

  pub check-work : (a.number ≡ 0 → ⊥) → CheckRecord faest rec (work_of x) (work_of y) a
  check-work bad =
      let z : eqb a.number 0 ≡ false = ne_eqb a.number 0 bad in
      let e : eqb a.number 11 ≡ false = ap (λ (k : ℕ). eqb k 11) said ∙ not-eleven c x in
      record {
        number = steps a.number (sym (rw z refl));
        count = rw (is, e) (ran-count faest c x y a w);
        buffers = rw (is, e, z) (ap work_of (ran-kept faest c x y a w bad));
      }

  module _ (z : a.number ≡ 0) where
    left : y ≡ made faest c
    left = ran-made faest c x y a w z

    count : a.count ≡ planned_count (resolved c.shape) c.challenge
    unfolding count_with
    count = ran-count faest c x y a w ∙ rw z refl

    pub check-eleven : (r : Answer) → same_bytes y.commitment c.commitment ≡ false → (r.number ≡ 11) × (r.count ≡ a.count) → CheckRecord faest rec (work_of x) (work_of y) r
    unfolding count_with
    check-eleven r f b =
        record {
          number = steps r.number (b.0 ∙ sym (rw (z, ← left, f) refl));
          count = b.1 ∙ count ∙ sym (rw (is, b.0) refl);
          buffers = rw (is, b.0) (ap work_of left);
        }

    pub check-accepted : same_bytes y.commitment c.commitment ≡ true → CheckRecord faest rec (work_of x) (work_of y) a
    unfolding count_with
    check-accepted f =
        record {
          number = steps a.number (z ∙ sym (rw (z, ← left, f) refl));
          count = count ∙ sym (rw (is, z) refl);
          buffers = rw (is, z) (ap work_of left);
        }
