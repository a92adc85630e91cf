-- What each number of a record says: a record that is read has its fields, and one that has its fields has a front that is read. By the tests of each number.
use Prim.Native.Nat.{ℕ, ◌/◌}
use mathlib.Core.Path.{◌≡◌, refl, ◌∙◌}
use mathlib.Core.Bool.{Bool, true, false, ◌&&◌, cond}
use mathlib.Core.List.{List, [], ◌∷◌, ◌++◌}
use lib.Dec.{eqb}
use lib.ListN.{length}
use borrow.Author.Tests.{ne_eqb, eqb-true}
use Rattle.spec.specs.declared.Shape.{Shape}
use Rattle.spec.specs.Shapes.{resolved, challenge_bytes, hash_bytes, iv_bytes, opening_bytes, corrections_bytes, shape_ok}
use Rattle.spec.specs.Calls.{first_refusal, row_ok}
use Rattle.laws.specs.Lengths.{Sized}
use Rattle.laws.proofs.Conjunctions.{both_true}
use Rattle.laws.proofs.Refusals.{Numbered, Passed, none-failed, all-passed, then}
use Rattle.record.specs.Fields.{field_ok}
use Rattle.record.specs.Record.{version_of, head_bytes, version_ok, iv_place, challenge_place, corrections_place, opening_place, commitment_place, record_end, rest_ok, Contents, contents_of, kind_fits, head_tests, fields_test, fields_tests, rest_tests, head_number, fields_number, end_of, read_number}
use Rattle.record.proofs.Fields.{field-length}

-- ---- the fields of the rest, one by one

abbrev pub Rest : ℕ → Shape → ℕ → List ℕ → Type 0
Rest h s b rec =
    (field_ok rec (iv_place h) iv_bytes ≡ true)
    × (field_ok rec (challenge_place h) (challenge_bytes s) ≡ true)
    × (field_ok rec (corrections_place h s) (corrections_bytes s b) ≡ true)
    × (field_ok rec (opening_place h s b) (opening_bytes s) ≡ true)
    × (field_ok rec (commitment_place h s b) (hash_bytes s) ≡ true)

rest-fields : (h : ℕ) (s : Shape) (b : ℕ) (rec : List ℕ) → rest_ok h s b rec ≡ true → Rest h s b rec
unfolding rest_ok
rest-fields h s b rec ok =
    let four = both_true _ (field_ok rec (commitment_place h s b) (hash_bytes s)) ok in
    let three = both_true _ (field_ok rec (opening_place h s b) (opening_bytes s)) four.0 in
    let two = both_true _ (field_ok rec (corrections_place h s) (corrections_bytes s b)) three.0 in
    let one = both_true (field_ok rec (iv_place h) iv_bytes) (field_ok rec (challenge_place h) (challenge_bytes s)) two.0 in
    (one.0, one.1, two.1, three.1, four.1)

-- the lengths of what a record says
abbrev pub Lengths : Contents → List (ℕ × ℕ)
Lengths c =
    (length c.iv, iv_bytes)
    ∷ (length c.challenge, challenge_bytes (resolved c.shape))
    ∷ (length c.corrections, corrections_bytes (resolved c.shape) (c.row / 8))
    ∷ (length c.opening, opening_bytes (resolved c.shape))
    ∷ (length c.commitment, hash_bytes (resolved c.shape))
    ∷ []

-- two tests with one number are one
both : (x y : Bool) → first_refusal ((x, 10) ∷ (y, 10) ∷ []) ≡ cond (x && y) 0 10
both true y = refl
both false y = refl

module _ (rec : List ℕ) where
  abbrev h : ℕ
  h = head_bytes (version_of rec)

  abbrev s : Shape
  s = resolved (contents_of rec).shape

  abbrev b : ℕ
  b = (contents_of rec).row / 8

  -- ---- the front is read

  numbered : Numbered (head_tests rec)
  numbered = (refl, (refl, (refl, (refl, tt))))

  module _ (ok : head_number rec ≡ 0) where
    tests : Passed (head_tests rec)
    unfolding head_number
    tests = none-failed (head_tests rec) numbered ok

    pub front-version : version_ok rec ≡ true
    front-version = tests.0

    pub front-head : field_ok rec 1 (head_bytes (version_of rec)) ≡ true
    front-head = tests.1.0

    pub front-said : (shape_ok (resolved (contents_of rec).shape) && kind_fits (version_of rec) (contents_of rec).shape.kind) ≡ true
    front-said = tests.1.1.0

    pub front-shape : shape_ok (resolved (contents_of rec).shape) ≡ true
    front-shape = (both_true _ (kind_fits (version_of rec) (contents_of rec).shape.kind) front-said).0

    pub front-row : row_ok (contents_of rec).row ≡ true
    front-row = tests.1.1.1.0

  -- ---- the fields are there

  module _ (ok : fields_number rec ≡ 0) where
    all : Passed (fields_tests rec)
    unfolding fields_number
    all = none-failed (fields_tests rec) (refl, (refl, (refl, (refl, (refl, tt))))) ok

    pub fields-front : head_number rec ≡ 0
    unfolding head_number
    fields-front = all-passed (head_tests rec) (all.0, (all.1.0, (all.1.1.0, (all.1.1.1.0, tt))))

    pub fields-rest : Rest (head_bytes (version_of rec)) (resolved (contents_of rec).shape) ((contents_of rec).row / 8) rec
    fields-rest = rest-fields h s b rec all.1.1.1.1.0

    pub fields-sized : Sized (Lengths (contents_of rec))
    unfolding contents_of
    fields-sized =
        let q = fields-rest in (
          field-length rec (iv_place h) iv_bytes q.0,
          (
            field-length rec (challenge_place h) (challenge_bytes s) q.1,
            (
              field-length rec (corrections_place h s) (corrections_bytes s b) q.2,
              (
                field-length rec (opening_place h s b) (opening_bytes s) q.3,
                (field-length rec (commitment_place h s b) (hash_bytes s) q.4, tt),
              ),
            ),
          ),
        )

  -- ---- the record is read

  module _ (ok : read_number rec ≡ 0) where
    whole : Passed (head_tests rec ++ rest_tests rec)
    unfolding read_number
    whole = none-failed (head_tests rec ++ rest_tests rec) (refl, (refl, (refl, (refl, (refl, (refl, tt)))))) ok

    pub read-fields : fields_number rec ≡ 0
    unfolding fields_number
    read-fields = all-passed (fields_tests rec) (whole.0, (whole.1.0, (whole.1.1.0, (whole.1.1.1.0, (whole.1.1.1.1.0, tt)))))

    pub read-front : head_number rec ≡ 0
    read-front = fields-front read-fields

    pub read_length : length rec ≡ record_end (head_bytes (version_of rec)) (resolved (contents_of rec).shape) ((contents_of rec).row / 8)
    read_length = eqb-true (length rec) (record_end h s b) whole.1.1.1.1.1.0

  -- ---- what decides: the front, then the fields, then the end

  fields-then : fields_number rec ≡ cond (eqb (head_number rec) 0) (first_refusal (fields_test rec ∷ [])) (head_number rec)
  unfolding head_number fields_number
  fields-then = then (head_tests rec) (fields_test rec ∷ []) numbered

  read-then : read_number rec ≡ cond (eqb (head_number rec) 0) (first_refusal (rest_tests rec)) (head_number rec)
  unfolding head_number read_number
  read-then = then (head_tests rec) (rest_tests rec) numbered

  -- the front is refused
  module _ (bad : head_number rec ≡ 0 → ⊥) where
    pub front-decides-fields : fields_number rec ≡ head_number rec
    front-decides-fields = fields-then ∙ rw (ne_eqb (head_number rec) 0 bad) refl

    pub front-decides : read_number rec ≡ head_number rec
    front-decides = read-then ∙ rw (ne_eqb (head_number rec) 0 bad) refl

  module _ (ok : head_number rec ≡ 0) where
    pub fields-decide : fields_number rec ≡ cond (rest_ok (head_bytes (version_of rec)) (resolved (contents_of rec).shape) ((contents_of rec).row / 8) rec) 0 10
    fields-decide = fields-then ∙ rw ok refl

    pub end-decides : read_number rec ≡ cond (rest_ok (head_bytes (version_of rec)) (resolved (contents_of rec).shape) ((contents_of rec).row / 8) rec && eqb (length rec) (end_of rec)) 0 10
    end-decides = read-then ∙ rw ok (both (rest_ok h s b rec) (eqb (length rec) (end_of rec)))
