-- An entry's numbers are small and it takes some bytes of those that are left, so that the entries of a string are its first and those of what is left behind it. By
-- whether the fields are there, and by induction on the records allowed, which more than suffice.
use Prim.Native.Nat.{ℕ, zero, suc, ◌+◌, ◌-◌, ◌/◌, ◌≤◌, ◌<◌}
use mathlib.Core.Path.{◌≡◌, refl, sym, ap, ◌∙◌}
use mathlib.Core.Bool.{Bool, true, false, cond, ◌&&◌}
use mathlib.Core.List.{List, [], ◌∷◌, ◌++◌}
use native.Mathlib.Omega.{arith}
use native.Mathlib.Decide.{ℕ_discrete}
use lib.Dec.{eqb}
use lib.ListN.{length, drop, length-drop}
use lib.Seq.{drop-length}
use borrow.Author.Tests.{leb-true, ne_eqb, eqb-true}
use Rattle.spec.specs.Shapes.{resolved, grinding_ok, planned_count, shape_ok}
use Rattle.spec.specs.Verifier.{slots_ok}
use Rattle.spec.specs.Calls.{first_refusal, row_ok, nodes_ok}
use Rattle.laws.proofs.Refusals.{then}
use Rattle.planning_laws.proofs.ShapeFacts.{shape-facts}
use Rattle.record.specs.Fields.{field_ok}
use Rattle.record.specs.Record.{version_of, head_bytes, version_ok, rest_ok, contents_of, fields_tests, fields_number, end_of, kind_fits}
use Rattle.record.specs.RecordCalls.{opening_tests}
use Rattle.record.proofs.Reading.{front-shape, fields-front}
use Rattle.record.proofs.Cut.{end-least, end-within}
use Rattle.report_text.specs.declared.Entry.{Entry}
use Rattle.report_text.specs.Entries.{entry_number, stops, entry_of, opened_entry, entries_within, entries, accepted, sum_of, nodes_total, unused_total}

-- ---- the number

-- a number of the fields is 0, or stops
abbrev fields : Bool → Bool → Bool → Bool → Bool → ℕ
fields a b c d e = first_refusal ((a, 9) ∷ (b, 10) ∷ (c, 1) ∷ (d, 2) ∷ (e, 10) ∷ [])

abbrev Stopping : ℕ → Type 0
Stopping n = (n ≡ 0 → ⊥) → (stops n ≡ true) × (eqb n 0 ≡ false) × (n ≤ 10)

fields-stop : (xs : List ℕ) → Stopping (fields_number xs)
unfolding fields_number
fields-stop xs =
    let s = resolved (contents_of xs).shape in
    go (version_ok xs) (field_ok xs 1 (head_bytes (version_of xs))) (shape_ok s && kind_fits (version_of xs) (contents_of xs).shape.kind) (row_ok (contents_of xs).row) (rest_ok (head_bytes (version_of xs)) s ((contents_of xs).row / 8) xs)
  where
    go : (a b c d e : Bool) → Stopping (fields a b c d e)
    go false b c d e bad = (refl, refl, omega arith)
    go true false c d e bad = (refl, refl, omega arith)
    go true true false d e bad = (refl, refl, omega arith)
    go true true true false e bad = (refl, refl, omega arith)
    go true true true true false bad = (refl, refl, omega arith)
    go true true true true true bad = absurd (bad refl)

-- a number of the opening does not
abbrev opened : Bool → Bool → Bool → ℕ
opened a b c = first_refusal ((a, 4) ∷ (b, 5) ∷ (c, 6) ∷ [])

opened-goes-on : (a b c : Bool) → (stops (opened a b c) ≡ false) × (opened a b c ≤ 10) × (opened a b c ≡ 0 → b ≡ true)
opened-goes-on false b c = (refl, omega arith, λ z. absurd (omega arith))
opened-goes-on true false c = (refl, omega arith, λ z. absurd (omega arith))
opened-goes-on true true false = (refl, omega arith, λ z. absurd (omega arith))
opened-goes-on true true true = (refl, omega arith, λ z. refl)

module _ (xs : List ℕ) where
  number_is : entry_number xs ≡ cond (eqb (fields_number xs) 0) (first_refusal (opening_tests (contents_of xs))) (fields_number xs)
  unfolding entry_number fields_number
  number_is = then (fields_tests xs) (opening_tests (contents_of xs)) (refl, (refl, (refl, (refl, (refl, tt)))))

  -- a field is missing, or the front is refused
  module _ (bad : fields_number xs ≡ 0 → ⊥) where
    pub number-stops : entry_number xs ≡ fields_number xs
    number-stops = number_is ∙ rw (fields-stop xs bad).1 refl

    -- such an entry has nothing but its number, and takes all that is left
    pub entry-stops : entry_of xs ≡ record { number = fields_number xs; count = 0; unused = 0; bytes = length xs }
    unfolding entry_of
    entry-stops = rw (number-stops, (fields-stop xs bad).0, (fields-stop xs bad).1) refl

    pub not-eleven : eqb (fields_number xs) 11 ≡ false
    not-eleven = ne_eqb (fields_number xs) 11 (λ z. let n = (fields-stop xs bad).2 in omega arith)

    pub entry-stopping : stops (entry_of xs).number ≡ true
    entry-stopping = ap (λ (e : Entry). stops e.number) entry-stops ∙ (fields-stop xs bad).0

  -- the fields are there
  module _ (ok : fields_number xs ≡ 0) where
    pub number-opened : entry_number xs ≡ first_refusal (opening_tests (contents_of xs))
    number-opened = number_is ∙ rw ok refl

    goes_on : (stops (entry_number xs) ≡ false) × (entry_number xs ≤ 10) × (entry_number xs ≡ 0 → nodes_ok (resolved (contents_of xs).shape) (contents_of xs).challenge ≡ true)
    goes_on =
        let c = contents_of xs in
        let s = resolved c.shape in
        rw number-opened (opened-goes-on (grinding_ok s c.challenge) (nodes_ok s c.challenge) (slots_ok s c.challenge c.opening))

    pub entry-end : (entry_of xs).bytes ≡ end_of xs
    unfolding entry_of
    entry-end = rw goes_on.0 refl

-- the entry of a record whose fields are there is that of its opening
pub entry-opened : (xs : List ℕ) → fields_number xs ≡ 0 → entry_of xs ≡ opened_entry (resolved (contents_of xs).shape) (contents_of xs).challenge (contents_of xs).opening (end_of xs)
unfolding entry_of
entry-opened xs ok = rw ((goes_on xs ok).0, number-opened xs ok) refl

-- ---- bounds

-- of the entry e of a string
pub record Bounds (xs : List ℕ) (e : Entry) : Type 0 where
  pub number : e.number ≤ 10
  pub count : e.count ≤ 512
  pub unused : e.unused ≤ 512
  pub within : e.bytes ≤ length xs
  pub long : e.bytes < length xs → 41 ≤ e.bytes
  pub some : 0 < length xs → 0 < e.bytes

-- what is counted, where the number is 0
counted : (k x : ℕ) → (k ≡ 0 → x ≤ 512) → cond (eqb k 0) x 0 ≤ 512
counted k x h = at (eqb k 0) refl
  where
    at : (z : Bool) → eqb k 0 ≡ z → cond z x 0 ≤ 512
    at true z = h (eqb-true k 0 z)
    at false z = omega arith

opened-small : (xs : List ℕ) → fields_number xs ≡ 0 → ((entry_of xs).number ≤ 10) × ((entry_of xs).count ≤ 512) × ((entry_of xs).unused ≤ 512)
unfolding entry_of nodes_ok
opened-small xs ok =
    let q = goes_on xs ok in
    let s = resolved (contents_of xs).shape in
    let n = planned_count s (contents_of xs).challenge in
    let t = (shape-facts s (front-shape xs (fields-front xs ok))).t-max in
    (q.1, counted (entry_number xs) n (λ z. let m = leb-true n s.t (q.2 z) in omega arith), counted (entry_number xs) (s.t - n) (λ z. omega arith))

pub bounds : (xs : List ℕ) → Bounds xs (entry_of xs)
bounds xs = go (ℕ_discrete (fields_number xs) 0)
  where
    go : Dec (fields_number xs ≡ 0) → Bounds xs (entry_of xs)
    go (no bad) =
        let q = (fields-stop xs bad).2 in
        rw (entry-stops xs bad) (
        record {
          number = omega arith;
          count = omega arith;
          unused = omega arith;
          within = omega arith;
          long = λ h. absurd (omega arith);
          some = λ h. h;
        })
    go (yes ok) =
        let q = opened-small xs ok in
        let e = entry-end xs ok in
        let l = end-least (head_bytes (version_of xs)) (resolved (contents_of xs).shape) ((contents_of xs).row / 8) in
        let w = end-within xs ok in
        record {
          number = q.0;
          count = q.1;
          unused = q.2;
          within = omega arith;
          long = λ h. omega arith;
          some = λ h. omega arith;
        }

-- ---- the entries of a string

-- as many records as there are bytes are enough
enough : (n m : ℕ) (xs : List ℕ) → length xs ≤ n → length xs ≤ m → entries_within n xs ≡ entries_within m xs
unfolding entries_within
enough zero zero [] h l = refl
enough zero (suc m) [] h l = refl
enough (suc n) zero [] h l = refl
enough (suc n) (suc m) [] h l = refl
enough zero m (x ∷ xs) h l = absurd (omega arith)
enough (suc n) zero (x ∷ xs) h l = absurd (omega arith)
enough (suc n) (suc m) (x ∷ xs) h l =
    let e = entry_of (x ∷ xs) in
    let b = (bounds (x ∷ xs)).some (omega arith) in
    let d = length-drop e.bytes (x ∷ xs) in
    ap (λ (es : List Entry). e ∷ cond (stops e.number) [] es) (enough n m (drop e.bytes (x ∷ xs)) (omega arith) (omega arith))

-- behind an entry that stops nothing is left
pub stopped : (xs : List ℕ) → stops (entry_of xs).number ≡ true → drop (entry_of xs).bytes xs ≡ []
unfolding entry_of
stopped xs h = rw h (drop-length xs)

pub entries_next : (xs : List ℕ) → 0 < length xs → entries xs ≡ entry_of xs ∷ entries (drop (entry_of xs).bytes xs)
unfolding entries_within
entries_next [] h = absurd (omega arith)
entries_next (x ∷ xs) h = go (stops e.number) refl
  where
    e : Entry
    e = entry_of (x ∷ xs)

    rest : List ℕ
    rest = drop e.bytes (x ∷ xs)

    go : (b : Bool) → stops e.number ≡ b → e ∷ cond b [] (entries_within (length xs) rest) ≡ e ∷ entries rest
    go true z = ap (λ (ys : List ℕ). e ∷ entries ys) (sym (stopped (x ∷ xs) z))
    go false z =
        let b = (bounds (x ∷ xs)).some (omega arith) in
        let d = length-drop e.bytes (x ∷ xs) in
        ap (λ (es : List Entry). e ∷ es) (enough (length xs) (length rest) rest (omega arith) (omega arith))

-- ---- the totals: a refused entry has no count and no unused slots

pub totals-next : (xs : List ℕ) (es : List Entry)
    → (nodes_total (entry_of xs ∷ es) ≡ (entry_of xs).count + nodes_total es) × (unused_total (entry_of xs ∷ es) ≡ (entry_of xs).unused + unused_total es)
unfolding entry_of accepted sum_of nodes_total unused_total
totals-next xs es = go (eqb (entry_number xs) 0) refl
  where
    go : (b : Bool) → eqb (entry_number xs) 0 ≡ b
        → (nodes_total (entry_of xs ∷ es) ≡ (entry_of xs).count + nodes_total es) × (unused_total (entry_of xs ∷ es) ≡ (entry_of xs).unused + unused_total es)
    go true z = rw z (refl, refl)
    go false z = rw z (omega arith, omega arith)
