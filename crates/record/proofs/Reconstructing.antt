-- Reconstruct on the fields of a record: its contract in the names of check_record's contract, and with it the number of check_record: reading's, else reconstruct's, else 11.
-- What depends on the form of reconstruct's contract stands here alone.
use Prim.Native.Nat.{ℕ, ◌/◌}
use mathlib.Core.Path.{◌≡◌, refl, sym, ap, ◌∙◌}
use mathlib.Core.Bool.{Bool, true, false, cond}
use mathlib.Core.List.{List, [], ◌∷◌, ◌++◌}
use lib.Dec.{eqb}
use lib.ListN.{length}
use borrow.Author.Tests.{eq-eqb, eqb-true, eqb-false, ne_eqb}
use Rattle.spec.specs.declared.Shape.{Shape}
use Rattle.spec.specs.declared.Answer.{Answer}
use Rattle.spec.specs.Bytes.{zeros}
use Rattle.spec.specs.Shapes.{resolved, shape_ok, iv_bytes, challenge_bytes, hash_bytes, opening_bytes, corrections_bytes, grinding_ok, planned_count}
use Rattle.spec.specs.Primitives.{Primitives}
use Rattle.spec.specs.Verifier.{slots_ok}
use Rattle.spec.specs.Calls.{first_refusal, fits, row_ok, nodes_ok, count_with, written, Reconstructed, reconstruct_lengths, reconstruct_number, Reconstruct}
use Rattle.laws.specs.Lengths.{Sized}
use Rattle.laws.proofs.Lengths.{fits-sized}
use Rattle.laws.proofs.Refusals.{Numbered, none-failed, then}
use Rattle.record.specs.Record.{Contents, contents_of, head_tests, rest_tests, read_number}
use Rattle.record.specs.RecordCalls.{Work, work_lengths, work_of, Reconstructs, made, same_bytes, work_tests, record_number}
use Rattle.record.proofs.Reading.{front-shape, front-row, fields-sized, read-fields, read-front}

-- the buffers of reconstruct where the one for the commitment holds zeros
abbrev pub lent : Contents → Work → Reconstructed
lent c x = record { commitment = zeros (hash_bytes (resolved c.shape)); tree = x.tree; leaf_commitments = x.leaf_commitments; q = x.q }

-- what reconstruct answers of the fields and its buffers
unfoldable pub ran_number : Contents → Reconstructed → ℕ
ran_number c x =
    let s = resolved c.shape in
    reconstruct_number s c.row c.challenge c.opening (reconstruct_lengths s (c.row / 8) c.iv c.challenge c.corrections c.opening x)

abbrev count_of : Contents → ℕ
count_of c = planned_count (resolved c.shape) c.challenge

-- ---- what its contract says

module _ (P : Primitives) (c : Contents) (x y : Reconstructed) (a : Answer) (w : Reconstructs P c x y a) where
  pub ran-number : a.number ≡ ran_number c x
  unfolding ran_number
  ran-number = w.number

  pub ran-count : a.count ≡ count_with a.number (planned_count (resolved c.shape) c.challenge)
  ran-count = w.count

  pub ran-made : a.number ≡ 0 → y ≡ made P c
  unfolding made
  ran-made z = w.buffers ∙ rw z refl

  pub ran-kept : (a.number ≡ 0 → ⊥) → y ≡ x
  ran-kept n = w.buffers ∙ rw (ne_eqb a.number 0 n) refl

-- with arguments that are the fields
pub on-fields : (P : Primitives) (c : Contents) {s : Shape} {n : ℕ} {iv ch cs op : List ℕ} {x y : Reconstructed} {a : Answer}
    → s ≡ c.shape
    → n ≡ c.row
    → iv ≡ c.iv
    → ch ≡ c.challenge
    → cs ≡ c.corrections
    → op ≡ c.opening
    → Reconstruct P s n iv ch cs op x y a
    → Reconstructs P c x y a
on-fields P c e₁ e₂ e₃ e₄ e₅ e₆ w = rw (e₁, e₂, e₃, e₄, e₅, e₆) at w

-- it answers
pub reconstructs : (P : Primitives) (c : Contents) (x : Reconstructed)
    → Reconstructs P c x (written (ran_number c x) (made P c) x) (record { number = ran_number c x; count = count_with (ran_number c x) (count_of c) })
unfolding ran_number made
reconstructs P c x = record { number = refl; count = refl; buffers = refl }

-- ---- its number

pub not-eleven : (c : Contents) (x : Reconstructed) → eqb (ran_number c x) 11 ≡ false
unfolding ran_number reconstruct_number
not-eleven c x =
    let s = resolved c.shape in
    go (shape_ok s) (row_ok c.row) (fits (reconstruct_lengths s (c.row / 8) c.iv c.challenge c.corrections c.opening x))
    (grinding_ok s c.challenge) (nodes_ok s c.challenge) (slots_ok s c.challenge c.opening)
  where
    go : (a b c d e f : Bool) → eqb (first_refusal ((a, 1) ∷ (b, 2) ∷ (c, 3) ∷ (d, 4) ∷ (e, 5) ∷ (f, 6) ∷ [])) 11 ≡ false
    go false b c d e f = refl
    go true false c d e f = refl
    go true true false d e f = refl
    go true true true false e f = refl
    go true true true true false f = refl
    go true true true true true false = refl
    go true true true true true true = refl

-- of its tests those that reading leaves open decide
pub open-decide : (rec : List ℕ) (x : Reconstructed) → read_number rec ≡ 0 → length x.commitment ≡ hash_bytes (resolved (contents_of rec).shape)
    → ran_number (contents_of rec) x
    ≡ (let c = contents_of rec in first_refusal (work_tests c (work_lengths (resolved c.shape) (c.row / 8) (work_of x))))
unfolding ran_number reconstruct_number
open-decide rec x ok e =
    let q = fields-sized rec (read-fields rec ok) in
    rw (
      front-shape rec (read-front rec ok),
      front-row rec (read-front rec ok),
      eq-eqb _ _ q.0,
      eq-eqb _ _ q.1.0,
      eq-eqb _ _ q.1.1.0,
      eq-eqb _ _ q.1.1.1.0,
      eq-eqb _ _ e,
    )
    refl

-- where it is 0 the shape and the row length are allowed and the fields have their lengths
pub fields_fit : (c : Contents) (x : Reconstructed) → ran_number c x ≡ 0
    → (shape_ok (resolved c.shape) ≡ true)
    × (row_ok c.row ≡ true)
    × Sized
    ((length c.iv, iv_bytes)
    ∷ (length c.challenge, challenge_bytes (resolved c.shape))
    ∷ (length c.corrections, corrections_bytes (resolved c.shape) (c.row / 8))
    ∷ (length c.opening, opening_bytes (resolved c.shape))
    ∷ [])
unfolding ran_number reconstruct_number
fields_fit c x z =
    let s = resolved c.shape in
    let lengths = reconstruct_lengths s (c.row / 8) c.iv c.challenge c.corrections c.opening x in
    let t = none-failed
    ((shape_ok s, 1)
    ∷ (row_ok c.row, 2)
    ∷ (fits lengths, 3)
    ∷ (grinding_ok s c.challenge, 4)
    ∷ (nodes_ok s c.challenge, 5)
    ∷ (slots_ok s c.challenge c.opening, 6)
    ∷ []) (refl, (refl, (refl, (refl, (refl, (refl, tt)))))) z in
    let q = fits-sized lengths t.1.1.0 in
    (t.0, t.1.0, (q.0, (q.1.0, (q.1.1.0, (q.1.1.1.0, tt)))))

-- ---- the number of check_record

module _ (P : Primitives) (rec : List ℕ) where
  abbrev c : Contents
  c = contents_of rec

  numbered : Numbered (head_tests rec ++ rest_tests rec)
  numbered = (refl, (refl, (refl, (refl, (refl, (refl, tt))))))

  abbrev Last : List (Bool × ℕ)
  Last = (same_bytes (made P c).commitment c.commitment, 11) ∷ []

  pub number-refused : (lengths : List (ℕ × ℕ)) → (read_number rec ≡ 0 → ⊥) → record_number P rec lengths ≡ read_number rec
  unfolding record_number read_number
  number-refused lengths bad =
      then (head_tests rec ++ rest_tests rec) (work_tests c lengths ++ Last) numbered
      ∙ ap (λ (t : Bool). cond t (first_refusal (work_tests c lengths ++ Last)) (read_number rec)) (ne_eqb (read_number rec) 0 bad)

  pub number_read : (lengths : List (ℕ × ℕ)) → read_number rec ≡ 0
      → record_number P rec lengths
      ≡ cond (eqb (first_refusal (work_tests (contents_of rec) lengths)) 0) (cond (same_bytes (made P (contents_of rec)).commitment (contents_of rec).commitment) 0 11)
      (first_refusal (work_tests (contents_of rec) lengths))
  unfolding record_number read_number
  number_read lengths ok =
      then (head_tests rec ++ rest_tests rec) (work_tests c lengths ++ Last) numbered
      ∙ ap (λ (k : ℕ). cond (eqb k 0) (first_refusal (work_tests c lengths ++ Last)) k) ok
      ∙ then (work_tests c lengths) Last (refl, (refl, (refl, (refl, tt))))

  pub number-three : (lengths : List (ℕ × ℕ)) → read_number rec ≡ 0 → fits lengths ≡ false → record_number P rec lengths ≡ 3
  number-three lengths ok f = number_read lengths ok ∙ rw f refl

  -- reading, then reconstruct with buffers x, then the comparison
  pub number-steps : (x : Reconstructed) → length x.commitment ≡ hash_bytes (resolved (contents_of rec).shape)
      → record_number P rec (work_lengths (resolved (contents_of rec).shape) ((contents_of rec).row / 8) (work_of x))
      ≡ first_refusal
      ((eqb (read_number rec) 0, read_number rec)
      ∷ (eqb (ran_number (contents_of rec) x) 0, ran_number (contents_of rec) x)
      ∷ (same_bytes (made P (contents_of rec)).commitment (contents_of rec).commitment, 11)
      ∷ [])
  number-steps x e = go (eqb (read_number rec) 0) refl
    where
      go : (t : Bool) → eqb (read_number rec) 0 ≡ t
          → record_number P rec (work_lengths (resolved c.shape) (c.row / 8) (work_of x))
          ≡ first_refusal ((eqb (read_number rec) 0, read_number rec) ∷ (eqb (ran_number c x) 0, ran_number c x) ∷ Last)
      go true t = (let ok = eqb-true (read_number rec) 0 t in number_read (work_lengths (resolved c.shape) (c.row / 8) (work_of x)) ok ∙ sym (rw (t, open-decide rec x ok e) refl))
      go false t = number-refused (work_lengths (resolved c.shape) (c.row / 8) (work_of x)) (eqb-false (read_number rec) 0 t) ∙ sym (rw t refl)
