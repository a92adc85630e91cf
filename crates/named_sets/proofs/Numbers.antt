-- The number of check_named: its tests are those of check_record with one more behind the front, so it is check_record's number or 13. By the law of tests in two lists.
use Prim.Native.Nat.{ℕ}
use mathlib.Core.Path.{◌≡◌, refl, sym, ap, ◌∙◌}
use mathlib.Core.Bool.{Bool, true, false, ◌&&◌, not, cond}
use mathlib.Core.List.{List, [], ◌∷◌, ◌++◌}
use lib.Dec.{eqb}
use borrow.Author.Tests.{ne_eqb}
use Rattle.spec.specs.declared.Answer.{Answer}
use Rattle.spec.specs.Shapes.{resolved, shape_ok}
use Rattle.spec.specs.Primitives.{Primitives}
use Rattle.spec.specs.Calls.{first_refusal, row_ok, count_given, count_with}
use Rattle.spec.specs.HostCalls.{count_slice}
use Rattle.laws.proofs.Refusals.{Numbered, none-failed, then}
use Rattle.record.specs.Fields.{field_ok}
use Rattle.record.specs.Record.{version_of, head_bytes, version_ok, contents_of, kind_fits, head_tests, head_number}
use Rattle.record.specs.RecordCalls.{Work, record_number, answered, CheckRecord}
use Rattle.record.specs.HostRecordCalls.{HostCheckRecord}
use Rattle.named_sets.specs.NamedSets.{named_ok}
use Rattle.named_sets.specs.NamedCalls.{front_tests, front_number, later_tests, named_number, CheckNamed, HostCheckNamed}

module _ (rec : List ℕ) where
  abbrev named : Bool
  named = named_ok (contents_of rec).shape (contents_of rec).row

  head-numbered : Numbered (head_tests rec)
  head-numbered = (refl, (refl, (refl, (refl, tt))))

  front-numbered : Numbered (front_tests rec)
  front-numbered = (refl, (refl, (refl, (refl, (refl, tt)))))

  -- ---- the front

  -- the head, then 13
  front-steps : front_number rec ≡ cond (eqb (head_number rec) 0) (cond (named_ok (contents_of rec).shape (contents_of rec).row) 0 13) (head_number rec)
  unfolding front_number head_number
  front-steps = then (head_tests rec) ((named, 13) ∷ []) head-numbered

  pub front-head : (head_number rec ≡ 0 → ⊥) → front_number rec ≡ head_number rec
  front-head bad = front-steps ∙ rw (ne_eqb (head_number rec) 0 bad) refl

  pub front-thirteen : head_number rec ≡ 0 → named_ok (contents_of rec).shape (contents_of rec).row ≡ false → front_number rec ≡ 13
  front-thirteen ok f = front-steps ∙ rw (ok, f) refl

  pub front-named : head_number rec ≡ 0 → named_ok (contents_of rec).shape (contents_of rec).row ≡ true → front_number rec ≡ 0
  front-named ok f = front-steps ∙ rw (ok, f) refl

  pub front-passed : front_number rec ≡ 0 → named_ok (contents_of rec).shape (contents_of rec).row ≡ true
  unfolding front_number
  front-passed z = (none-failed (front_tests rec) front-numbered z).1.1.1.1.0

  -- with a number of the front nothing is written and no count given
  abbrev First : Bool → Bool → Bool → Bool → Bool → ℕ
  First a b c d e = first_refusal ((a, 9) ∷ (b, 10) ∷ (c, 1) ∷ (d, 2) ∷ (e, 13) ∷ [])

  pub front-quiet : (front_number rec ≡ 0 → ⊥) → (eqb (answered (front_number rec)) 0 ≡ false) × (count_given (answered (front_number rec)) ≡ false)
  unfolding front_number
  front-quiet bad =
      go (version_ok rec) (field_ok rec 1 (head_bytes (version_of rec))) (shape_ok (resolved (contents_of rec).shape) && kind_fits (version_of rec) (contents_of rec).shape.kind) (row_ok (contents_of rec).row) named bad
    where
      go : (a b c d e : Bool) → (First a b c d e ≡ 0 → ⊥) → (eqb (answered (First a b c d e)) 0 ≡ false) × (count_given (answered (First a b c d e)) ≡ false)
      go false b c d e n = (refl, refl)
      go true false c d e n = (refl, refl)
      go true true false d e n = (refl, refl)
      go true true true false e n = (refl, refl)
      go true true true true false n = (refl, refl)
      go true true true true true n = absurd (n refl)

  -- ---- the number

  module _ (P : Primitives) (lengths : List (ℕ × ℕ)) where
    -- 13 where the head is read and no set is named, and else check_record's number
    pub or-thirteen : named_number P rec lengths
        ≡ cond (eqb (head_number rec) 0 && not (named_ok (contents_of rec).shape (contents_of rec).row)) 13 (record_number P rec lengths)
    unfolding head_number named_number record_number
    or-thirteen =
        then (head_tests rec) ((named, 13) ∷ later_tests P rec lengths) head-numbered
        ∙ go (eqb (head_number rec) 0) named (first_refusal (later_tests P rec lengths)) (head_number rec)
        ∙ ap (cond (eqb (head_number rec) 0 && not named) 13) (sym (then (head_tests rec) (later_tests P rec lengths) head-numbered))
      where
        go : (a b : Bool) (later head : ℕ) → cond a (cond b later 13) head ≡ cond (a && not b) 13 (cond a later head)
        go true true later head = refl
        go true false later head = refl
        go false b later head = refl

    pub front-decides : (front_number rec ≡ 0 → ⊥) → named_number P rec lengths ≡ front_number rec
    unfolding front_number named_number
    front-decides bad =
        then (front_tests rec) (later_tests P rec lengths) front-numbered
        ∙ ap (λ (t : Bool). cond t (first_refusal (later_tests P rec lengths)) (front_number rec)) (ne_eqb (front_number rec) 0 bad)

    pub same_number : named_ok (contents_of rec).shape (contents_of rec).row ≡ true → named_number P rec lengths ≡ record_number P rec lengths
    same_number n = or-thirteen ∙ go (eqb (head_number rec) 0)
      where
        go : (a : Bool) → cond (a && not named) 13 (record_number P rec lengths) ≡ record_number P rec lengths
        go true = rw n refl
        go false = refl

    -- what it accepts is named
    pub accepted-named : named_number P rec lengths ≡ 0 → named_ok (contents_of rec).shape (contents_of rec).row ≡ true
    unfolding named_number
    accepted-named z =
        (none-failed (front_tests rec ++ later_tests P rec lengths) (refl, (refl, (refl, (refl, (refl, (refl, (refl, (refl, (refl, (refl, (refl, (refl, tt)))))))))))) z).1.1.1.1.0

-- ---- of a named set the two calls say the same

module _ (P : Primitives) (rec : List ℕ) (n : named_ok (contents_of rec).shape (contents_of rec).row ≡ true) (x y : Work) where
  pub same-as-record : (r : Answer) → CheckRecord P rec x y r → CheckNamed P rec x y r
  same-as-record r o = record { number = o.number ∙ sym (same_number rec P _ n); count = o.count; buffers = o.buffers }

  pub same-as-host : (count count' : List ℕ) (r : ℕ) → HostCheckRecord P rec x y count count' r → HostCheckNamed P rec x y count count' r
  same-as-host count count' r o = record { number = o.number ∙ sym (same_number rec P _ n); buffers = o.buffers; counted = o.counted }

-- ---- refused by the front: nothing is written

module _ (P : Primitives) (rec : List ℕ) (x : Work) (k : ℕ) (e : k ≡ front_number rec) (bad : k ≡ 0 → ⊥) where
  pub check-front : (r : Answer) → (r.number ≡ k) × (r.count ≡ 0) → CheckNamed P rec x x r
  unfolding count_with
  check-front r a =
      let q = front-quiet rec (λ z. bad (e ∙ z)) in
      let m = a.0 ∙ e in
      record {
        number = m ∙ sym (front-decides rec P _ (λ z. bad (e ∙ z)));
        count = a.1 ∙ sym (rw (m, q.1) refl);
        buffers = rw (m, q.0) refl;
      }

  pub check-front-host : (count : List ℕ) → HostCheckNamed P rec x x count count k
  unfolding count_slice
  check-front-host count =
      let q = front-quiet rec (λ z. bad (e ∙ z)) in
      record { number = e ∙ sym (front-decides rec P _ (λ z. bad (e ∙ z))); buffers = rw (e, q.0) refl; counted = rw (e, q.1) refl }
