-- Document 02, E14: records that stand one after another in a string, each with what its opening costs.
use Rattle.std.specs.Prelude.{ℕ, zero, suc, ◌+◌, ◌-◌, Bool, ◌||◌, cond, List, [], ◌∷◌, ◌++◌, eqb, length, drop}
use Rattle.spec.specs.declared.Shape.{Shape}
use Rattle.spec.specs.Shapes.{resolved, grinding_ok, planned_count}
use Rattle.spec.specs.Verifier.{slots_ok}
use Rattle.spec.specs.Calls.{first_refusal, nodes_ok, written}
use Rattle.record.specs.Record.{contents_of, fields_tests, end_of}
use Rattle.record.specs.RecordCalls.{opening_tests}
use Rattle.report_text.specs.declared.Entry.{Entry}

-- E6's tests of the record that begins a string, without 3 and 11, and without the end: what stands behind the sixth field begins the next record
unfoldable pub entry_number : List ℕ → ℕ
entry_number xs = first_refusal (fields_tests xs ++ opening_tests (contents_of xs))

-- 9, 10, 1 and 2 stop the reading: 1 and 2 come from field one alone
abbrev pub stops : ℕ → Bool
stops n = eqb n 9 || (eqb n 10 || (eqb n 1 || eqb n 2))

-- the unused slots are T less the count, T of the resolved shape. A record takes the bytes up to the end of its sixth field; one that stops the reading takes all that is left
unfoldable pub entry_of : List ℕ → Entry
entry_of xs =
    let c = contents_of xs in
    let s = resolved c.shape in
    let n = entry_number xs in
    record {
      number = n;
      count = written n (planned_count s c.challenge) 0;
      unused = written n (s.t - planned_count s c.challenge) 0;
      bytes = cond (stops n) (length xs) (end_of xs);
    }

-- the entry of an opening by its parts, a resolved shape, a challenge and an opening, in a record that takes n bytes
abbrev pub opened_entry : Shape → List ℕ → List ℕ → ℕ → Entry
opened_entry s ch op n =
    let k = first_refusal ((grinding_ok s ch, 4) ∷ (nodes_ok s ch, 5) ∷ (slots_ok s ch op, 6) ∷ []) in
    record { number = k; count = written k (planned_count s ch) 0; unused = written k (s.t - planned_count s ch) 0; bytes = n }

-- at most n records of a string: none where no bytes are left, and none behind one that stops
unfoldable pub entries_within : ℕ → List ℕ → List Entry
entries_within zero xs = []
entries_within (suc n) [] = []
entries_within (suc n) (x ∷ xs) =
    let e = entry_of (x ∷ xs) in
    e ∷ cond (stops e.number) [] (entries_within n (drop e.bytes (x ∷ xs)))

-- all of them: no more than the string has bytes
abbrev pub entries : List ℕ → List Entry
entries xs = entries_within (length xs) xs

-- ---- the totals, over the records not refused

unfoldable pub accepted : List Entry → List Entry
accepted [] = []
accepted (e ∷ es) = cond (eqb e.number 0) (e ∷ accepted es) (accepted es)

unfoldable pub sum_of : (Entry → ℕ) → List Entry → ℕ
sum_of f [] = 0
sum_of f (e ∷ es) = f e + sum_of f es

unfoldable pub nodes_total : List Entry → ℕ
nodes_total es = sum_of (λ e. e.count) (accepted es)

unfoldable pub unused_total : List Entry → ℕ
unused_total es = sum_of (λ e. e.unused) (accepted es)
