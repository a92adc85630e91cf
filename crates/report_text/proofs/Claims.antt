-- The entries are the first, and those of what is left behind it: by induction on the bytes left. A longer input is refused, and so is its front. check_record tests what the report
-- tests, and the end of the record and the commitment besides.
use Prim.Native.Nat.{ℕ, zero, suc, ◌+◌, ◌/◌, ◌≤◌, ◌<◌}
use mathlib.Core.Path.{◌≡◌, refl, sym, ap, ◌∙◌, subst}
use mathlib.Core.Bool.{Bool, true, false, cond}
use mathlib.Core.List.{List, [], ◌∷◌}
use native.Mathlib.Omega.{arith}
use native.Mathlib.Decide.{ℕ_discrete, dec_lt}
use lib.Dec.{eqb}
use lib.ListN.{length, get_or, take, drop, length-drop}
use lib.Seq.{drop-drop, take_all, take-length, length-take-le}
use borrow.Author.Tests.{lt-leb, ne_eqb}
use Rattle.spec.specs.declared.Answer.{Answer}
use Rattle.spec.specs.Bytes.{part}
use Rattle.spec.specs.Shapes.{resolved, grinding_ok, planned_count}
use Rattle.spec.specs.Primitives.{Primitives}
use Rattle.spec.specs.Verifier.{slots_ok}
use Rattle.spec.specs.Calls.{first_refusal, fits, nodes_ok, count_with, written}
use Rattle.laws.proofs.Refusals.{then}
use Rattle.laws.proofs.Conjunctions.{refuted, contrary}
use Rattle.record.specs.Record.{Contents, contents_of, fields_tests, fields_number, end_of, read_number}
use Rattle.record.specs.RecordCalls.{Work, work_lengths, made, same_bytes, opening_tests, record_number, answered, CheckRecord}
use Rattle.record.proofs.Cut.{cut-read, cut-contents}
use Rattle.record.proofs.Reconstructing.{number-refused, number_read}
use Rattle.report_text.specs.declared.Entry.{Entry}
use Rattle.report_text.specs.Entries.{entry_number, stops, entry_of, entries_within, entries, sum_of}
use Rattle.report_text.specs.Text.{report_text}
use Rattle.report_text.specs.Claims.{begin_of, Consecutive, Claims}
use Rattle.report_text.proofs.Entries.{bounds, number-stops, number-opened, entry-stops, not-eleven, entry-stopping, entry-end, entries_next, stopped}

-- an entry that does not stop has its fields, and is read up to its end
read_first : (xs : List ℕ) → stops (entry_of xs).number ≡ false
    → (read_number (take (entry_of xs).bytes xs) ≡ 0) × (contents_of (take (entry_of xs).bytes xs) ≡ contents_of xs)
read_first xs h = go (ℕ_discrete (fields_number xs) 0)
  where
    go : Dec (fields_number xs ≡ 0) → (read_number (take (entry_of xs).bytes xs) ≡ 0) × (contents_of (take (entry_of xs).bytes xs) ≡ contents_of xs)
    go (yes ok) = rw (entry-end xs ok) (cut-read xs ok, cut-contents xs ok)
    go (no bad) = contrary (entry-stopping xs bad) h

module _ (xs : List ℕ) (es : List Entry) (some : 0 < length xs) (next : Consecutive (drop (entry_of xs).bytes xs) es) where
  abbrev e : Entry
  e = entry_of xs

  abbrev rest : List ℕ
  rest = drop (entry_of xs).bytes xs

  further : (n : ℕ) → drop n rest ≡ drop (e.bytes + n) xs
  further n = drop-drop n e.bytes xs

  consecutive : (stops (entry_of xs).number ≡ true → es ≡ []) → Consecutive xs (entry_of xs ∷ es)
  unfolding sum_of
  consecutive last =
      let b = bounds xs in
      let d = length-drop e.bytes xs in
      record { each = each; begins = begins; goes_on = goes_on; whole = (let w = next.whole in omega arith); read = read }
    where
      each : (i : ℕ) (d : Entry) → i < length (e ∷ es) → get_or (e ∷ es) i d ≡ entry_of (drop (begin_of (e ∷ es) i) xs)
      each zero d h = refl
      each (suc i) d h = next.each i d (omega arith) ∙ ap entry_of (further (begin_of es i))

      begins : (i : ℕ) → i < length (e ∷ es) → begin_of (e ∷ es) i < length xs
      begins zero h = some
      begins (suc i) h = (let n = next.begins i (omega arith) in let d = length-drop e.bytes xs in omega arith)

      goes_on : (i : ℕ) (d : Entry) → suc i < length (e ∷ es) → stops (get_or (e ∷ es) i d).number ≡ false
      goes_on zero d h = sym (refuted (stops e.number) (λ z. let n = ap length (last z) in omega arith))
      goes_on (suc i) d h = next.goes_on i d (omega arith)

      read : (i : ℕ) (d : Entry) → i < length (e ∷ es) → stops (get_or (e ∷ es) i d).number ≡ false
          → (read_number (part xs (begin_of (e ∷ es) i) (get_or (e ∷ es) i d).bytes) ≡ 0)
          × (contents_of (part xs (begin_of (e ∷ es) i) (get_or (e ∷ es) i d).bytes) ≡ contents_of (drop (begin_of (e ∷ es) i) xs))
      read zero d h s = read_first xs s
      read (suc i) d h s = rw (sym (further (begin_of es i))) (next.read i d (omega arith) s)

none : Consecutive [] []
unfolding sum_of
none =
    record {
      each = λ i d h. absurd (omega arith);
      begins = λ i h. absurd (omega arith);
      goes_on = λ i d h. absurd (omega arith);
      whole = refl;
      read = λ i d h s. absurd (omega arith);
    }

within : (n : ℕ) (xs : List ℕ) → length xs ≤ n → Consecutive xs (entries xs)
unfolding entries_within
within zero [] h = none
within zero (x ∷ xs) h = absurd (omega arith)
within (suc n) [] h = none
within (suc n) (x ∷ xs) h =
    let rest = drop (entry_of (x ∷ xs)).bytes (x ∷ xs) in
    let b = (bounds (x ∷ xs)).some (omega arith) in
    let d = length-drop (entry_of (x ∷ xs)).bytes (x ∷ xs) in
    subst (Consecutive (x ∷ xs)) (sym (entries_next (x ∷ xs) (omega arith)))
    (consecutive (x ∷ xs) (entries rest) (omega arith) (within n rest (omega arith)) (λ z. ap entries (stopped (x ∷ xs) z)))

-- ---- the number and the count of check_record

-- where the lengths fit, and without the comparison, the tests of the opening decide
by : (t a b c same : Bool) → ((let k = cond t (first_refusal ((a, 4) ∷ (b, 5) ∷ (c, 6) ∷ [])) 3 in cond (eqb k 0) (cond same 0 11) k) ≡ 3 → ⊥)
    → first_refusal ((a, 4) ∷ (b, 5) ∷ (c, 6) ∷ []) ≡ answered (let k = cond t (first_refusal ((a, 4) ∷ (b, 5) ∷ (c, 6) ∷ [])) 3 in cond (eqb k 0) (cond same 0 11) k)
by false a b c same fit = absurd (fit refl)
by true false b c same fit = refl
by true true false c same fit = refl
by true true true false same fit = refl
by true true true true true fit = refl
by true true true true false fit = refl

-- where a field is missing or the front is refused, reading says so too
read-refused : (xs : List ℕ) → (fields_number xs ≡ 0 → ⊥) → read_number xs ≡ fields_number xs
unfolding read_number fields_number
read-refused xs bad =
    then (fields_tests xs) ((eqb (length xs) (end_of xs), 10) ∷ []) (refl, (refl, (refl, (refl, (refl, tt)))))
    ∙ ap (λ (t : Bool). cond t (cond (eqb (length xs) (end_of xs)) 0 10) (fields_number xs)) (ne_eqb (fields_number xs) 0 bad)

module _ (P : Primitives) (xs : List ℕ) (lengths : List (ℕ × ℕ)) (fit : record_number P (take (entry_of xs).bytes xs) lengths ≡ 3 → ⊥) where
  checked-number : entry_number xs ≡ answered (record_number P (take (entry_of xs).bytes xs) lengths)
  checked-number = go (ℕ_discrete (fields_number xs) 0)
    where
      -- behind reading: the lengths decide, and then the opening and the comparison
      opened : fields_number xs ≡ 0 → (t : Bool) → fits lengths ≡ t → entry_number xs ≡ answered (record_number P (take (end_of xs) xs) lengths)
      opened ok t e =
          let p = take (end_of xs) xs in
          let c = contents_of p in
          let s = resolved c.shape in
          let same = same_bytes (made P c).commitment c.commitment in
          let number : record_number P p lengths ≡ (let k = cond t (first_refusal (opening_tests c)) 3 in cond (eqb k 0) (cond same 0 11) k) =
          number_read P p lengths (cut-read xs ok) ∙ ap (λ (b : Bool). let k = cond b (first_refusal (opening_tests c)) 3 in cond (eqb k 0) (cond same 0 11) k) e in
          number-opened xs ok ∙ ap (λ (x : Contents). first_refusal (opening_tests x)) (sym (cut-contents xs ok))
          ∙ by t (grinding_ok s c.challenge) (nodes_ok s c.challenge) (slots_ok s c.challenge c.opening) same
          (λ z. fit (ap (λ (n : ℕ). record_number P (take n xs) lengths) (entry-end xs ok) ∙ number ∙ z)) ∙ sym (ap answered number)

      go : Dec (fields_number xs ≡ 0) → entry_number xs ≡ answered (record_number P (take (entry_of xs).bytes xs) lengths)
      go (yes ok) = rw (entry-end xs ok) (opened ok (fits lengths) refl)
      go (no bad) =
          rw (entry-stops xs bad, take-length xs)
          (number-stops xs bad
          ∙ sym (ap answered (number-refused P xs lengths (λ z. bad (sym (read-refused xs bad) ∙ z)) ∙ read-refused xs bad)
          ∙ ap (λ (t : Bool). cond t 0 (fields_number xs)) (not-eleven xs bad)))

-- the lengths of the work buffers, and those that a record asks for
abbrev work_of_record : List ℕ → Work → List (ℕ × ℕ)
work_of_record rec = work_lengths (resolved (contents_of rec).shape) ((contents_of rec).row / 8)

-- an entry beside check_record on the bytes that it takes
checked-first : (P : Primitives) (xs : List ℕ) (entry : Entry) (before after : Work) (r : Answer) → entry ≡ entry_of xs
    → CheckRecord P (take entry.bytes xs) before after r
    → (r.number ≡ 3 → ⊥)
    → (entry.number ≡ answered r.number) × (entry.number ≡ 0 → entry.count ≡ r.count)
unfolding entry_of count_with
checked-first P xs entry before after r is k fit = (number, count)
  where
    entry-number : entry.number ≡ entry_number xs
    entry-number = ap (λ (x : Entry). x.number) is

    same_number : record_number P (take (entry_of xs).bytes xs) (work_of_record (take entry.bytes xs) before) ≡ r.number
    same_number = ap (λ (n : ℕ). record_number P (take n xs) (work_of_record (take entry.bytes xs) before)) (sym (ap (λ (x : Entry). x.bytes) is)) ∙ sym k.number

    number : entry.number ≡ answered r.number
    number = entry-number ∙ checked-number P xs (work_of_record (take entry.bytes xs) before) (λ z. fit (sym same_number ∙ z)) ∙ ap answered same_number

    count : entry.number ≡ 0 → entry.count ≡ r.count
    count z =
        let same : contents_of (take entry.bytes xs) ≡ contents_of xs = rw is (read_first xs (ap stops (sym entry-number ∙ z))).1 in
        let c = contents_of xs in
        let planned : ℕ = planned_count (resolved c.shape) c.challenge in
        let here : entry.count ≡ planned = ap (λ (x : Entry). x.count) is ∙ ap (λ (n : ℕ). written n planned 0) (sym entry-number ∙ z) in
        let there : r.count ≡ planned = k.count ∙ rw (same, sym number ∙ z) refl in
        here ∙ sym there

first-bytes : (input : List ℕ) → report_text (take 65537 input) ≡ report_text input
unfolding report_text
first-bytes input = go (dec_lt 65536 (length input))
  where
    go : Dec (65536 < length input) → report_text (take 65537 input) ≡ report_text input
    go (no h) = ap report_text (take_all 65537 input (omega arith))
    go (yes h) =
        let l = length-take-le 65537 input (omega arith) in
        rw (lt-leb (length (take 65537 input)) 65536 (omega arith), lt-leb (length input) 65536 h) refl

pub claims : Claims
claims =
    record {
      consecutive = all;
      as-checked = λ P input. record { same = λ i d before after r h. checked-first P _ _ before after r ((all input).each i d h) };
      enough = first-bytes;
    }
  where
    all : (input : List ℕ) → Consecutive input (entries input)
    all input = within (length input) input (omega arith)
