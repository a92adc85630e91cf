-- Document 02, E6, E7 and E8: a signing record is a version byte and six fields: shape and row length (the head), IV, challenge, corrections, opening, commitment.
use Rattle.std.specs.Prelude.{ℕ, ◌*◌, ◌/◌, Bool, true, ◌&&◌, cond, List, [], ◌∷◌, ◌++◌, ltb, eqb, length, get_or}
use Rattle.spec.specs.declared.Shape.{Shape}
use Rattle.spec.specs.Bytes.{part}
use Rattle.spec.specs.Shapes.{ordinary, resolved, shape_ok, challenge_bytes, hash_bytes, iv_bytes, opening_bytes, corrections_bytes}
use Rattle.spec.specs.Calls.{first_refusal, row_ok}
use Rattle.record.specs.Fields.{field_ok, field_at, behind, field_of}
use Rattle.spec.specs.Bytes.{big_endian, big_endian_bytes}

-- ---- the front: version byte and head. A missing version byte reads as 0

abbrev pub version_of : List ℕ → ℕ
version_of rec = get_or rec 0 0

-- the bytes of a head by its version: tau, k and w in one byte each, T in two, the row length in four; from version 2 on the level / 8 in one more; in version 3 the leaf kind in
-- one more. 0 for any other version
unfoldable pub head_bytes : ℕ → ℕ
head_bytes version = cond (eqb version 1) 9 (cond (eqb version 2) 10 (cond (eqb version 3) 11 0))

unfoldable pub version_ok : List ℕ → Bool
version_ok rec = ltb 0 (head_bytes (version_of rec))

abbrev pub head_of : List ℕ → List ℕ
head_of rec = field_at rec 1 (head_bytes (version_of rec))

-- version 1 means level 128, versions 1 and 2 kind 0
unfoldable pub shape_in : ℕ → List ℕ → Shape
shape_in version head =
    record {
      tau = get_or head 0 0;
      k = get_or head 1 0;
      w = get_or head 2 0;
      t = big_endian (part head 3 2);
      level = cond (eqb version 1) 128 (8 * get_or head 9 0);
      kind = cond (eqb version 3) (get_or head 10 0) 0;
    }

unfoldable pub row_in : List ℕ → ℕ
row_in head = big_endian (part head 5 4)

-- ---- fields two to six of a record with a head of h bytes, of the resolved shape s with rows of b bytes: where each begins, and where the sixth ends

abbrev pub iv_place : ℕ → ℕ
iv_place h = behind 1 h

abbrev pub challenge_place : ℕ → ℕ
challenge_place h = behind (iv_place h) iv_bytes

unfoldable pub corrections_place : ℕ → Shape → ℕ
corrections_place h s = behind (challenge_place h) (challenge_bytes s)

unfoldable pub opening_place : ℕ → Shape → ℕ → ℕ
opening_place h s b = behind (corrections_place h s) (corrections_bytes s b)

unfoldable pub commitment_place : ℕ → Shape → ℕ → ℕ
commitment_place h s b = behind (opening_place h s b) (opening_bytes s)

unfoldable pub record_end : ℕ → Shape → ℕ → ℕ
record_end h s b = behind (commitment_place h s b) (hash_bytes s)

unfoldable pub rest_ok : ℕ → Shape → ℕ → List ℕ → Bool
rest_ok h s b rec =
    field_ok rec (iv_place h) iv_bytes && field_ok rec (challenge_place h) (challenge_bytes s) && field_ok rec (corrections_place h s) (corrections_bytes s b)
    && field_ok rec (opening_place h s b) (opening_bytes s)
    && field_ok rec (commitment_place h s b) (hash_bytes s)

-- ---- what a record says: the shape as the head writes it, the row length in bits, and the bytes of the other fields

pub record Contents : Type 0 where
  pub shape : Shape
  pub row : ℕ
  pub iv : List ℕ
  pub challenge : List ℕ
  pub corrections : List ℕ
  pub opening : List ℕ
  pub commitment : List ℕ

unfoldable pub contents_of : List ℕ → Contents
contents_of rec =
    let h = head_bytes (version_of rec) in
    let s = resolved (shape_in (version_of rec) (head_of rec)) in
    let b = row_in (head_of rec) / 8 in
    record {
      shape = shape_in (version_of rec) (head_of rec);
      row = row_in (head_of rec);
      iv = field_at rec (iv_place h) iv_bytes;
      challenge = field_at rec (challenge_place h) (challenge_bytes s);
      corrections = field_at rec (corrections_place h s) (corrections_bytes s b);
      opening = field_at rec (opening_place h s b) (opening_bytes s);
      commitment = field_at rec (commitment_place h s b) (hash_bytes s);
    }

-- ---- reading: the tests of the front, then those of the rest, and that the record ends

-- a version 3 record has kind 1
abbrev pub kind_fits : ℕ → ℕ → Bool
kind_fits version kind = cond (eqb version 3) (eqb kind 1) true

abbrev pub head_tests : List ℕ → List (Bool × ℕ)
head_tests rec =
    (version_ok rec, 9)
    ∷ (field_ok rec 1 (head_bytes (version_of rec)), 10)
    ∷ (shape_ok (resolved (contents_of rec).shape) && kind_fits (version_of rec) (contents_of rec).shape.kind, 1)
    ∷ (row_ok (contents_of rec).row, 2)
    ∷ []

-- fields two to six are there; the sixth ends at `end_of`, and nothing stands behind it
abbrev pub fields_test : List ℕ → Bool × ℕ
fields_test rec =
    let h = head_bytes (version_of rec) in
    let s = resolved (contents_of rec).shape in
    let b = (contents_of rec).row / 8 in
    (rest_ok h s b rec, 10)

abbrev pub end_of : List ℕ → ℕ
end_of rec = record_end (head_bytes (version_of rec)) (resolved (contents_of rec).shape) ((contents_of rec).row / 8)

abbrev pub rest_tests : List ℕ → List (Bool × ℕ)
rest_tests rec = fields_test rec ∷ (eqb (length rec) (end_of rec), 10) ∷ []

unfoldable pub head_number : List ℕ → ℕ
head_number rec = first_refusal (head_tests rec)

-- reading without the end: bytes may stand behind the sixth field
abbrev pub fields_tests : List ℕ → List (Bool × ℕ)
fields_tests rec = head_tests rec ++ (fields_test rec ∷ [])

unfoldable pub fields_number : List ℕ → ℕ
fields_number rec = first_refusal (fields_tests rec)

unfoldable pub read_number : List ℕ → ℕ
read_number rec = first_refusal (head_tests rec ++ rest_tests rec)

-- ---- the record of a shape, as given, a row length and the other fields; and its length, of a resolved shape

-- the version that is written for a shape
unfoldable pub version_for : Shape → ℕ
version_for s = cond (ordinary s) 2 3

unfoldable pub head_for : Shape → ℕ → List ℕ
head_for s n = (s.tau ∷ s.k ∷ s.w ∷ big_endian_bytes 2 s.t) ++ (big_endian_bytes 4 n ++ ((s.level / 8) ∷ cond (ordinary s) [] (s.kind ∷ [])))

-- fields two to six
abbrev pub rest_of : Contents → List ℕ
rest_of c = field_of c.iv ++ (field_of c.challenge ++ (field_of c.corrections ++ (field_of c.opening ++ field_of c.commitment)))

unfoldable pub record_of : Contents → List ℕ
record_of c = version_for c.shape ∷ (field_of (head_for c.shape c.row) ++ rest_of c)

unfoldable pub record_bytes : Shape → ℕ → ℕ
record_bytes s b = record_end (head_bytes (version_for s)) s b

-- ---- the record of version 1, which is read and not written: its head has no level

unfoldable pub head_of_version1 : Shape → ℕ → List ℕ
head_of_version1 s n = (s.tau ∷ s.k ∷ s.w ∷ big_endian_bytes 2 s.t) ++ big_endian_bytes 4 n

unfoldable pub record_of_version1 : Contents → List ℕ
record_of_version1 c = 1 ∷ (field_of (head_of_version1 c.shape c.row) ++ rest_of c)
