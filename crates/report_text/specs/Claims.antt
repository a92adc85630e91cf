-- Document 02, E14: the entries of an input are consecutive parts of it, "one after another", each that does not stop the reading is a record that E6 reads, and each has the
-- number that E6's check gives, but for 11.
-- ../proofs/Claims.antt proves it. That each total is the sum over the entries not refused is its definition (Entries.antt).
use Rattle.std.specs.Prelude.{ℕ, suc, ◌+◌, ◌<◌, ◌≡◌, false, List, length, get_or, take, drop}
use Rattle.spec.specs.declared.Answer.{Answer}
use Rattle.spec.specs.Bytes.{part}
use Rattle.spec.specs.Primitives.{Primitives}
use Rattle.record.specs.Record.{contents_of, read_number}
use Rattle.record.specs.RecordCalls.{Work, answered, CheckRecord}
use Rattle.report_text.specs.declared.Entry.{Entry}
use Rattle.report_text.specs.Entries.{stops, entry_of, entries, sum_of}
use Rattle.report_text.specs.Text.{report_text}

-- where entry i begins: behind the bytes of those before it
abbrev pub begin_of : List Entry → ℕ → ℕ
begin_of es i = sum_of (λ e. e.bytes) (take i es)

-- d is what `get_or` gives where no entry is, and is not met
pub record Consecutive (input : List ℕ) (es : List Entry) : Type 0 where
  -- entry i is what stands at its place
  pub each : (i : ℕ) (d : Entry) → i < length es → get_or es i d ≡ entry_of (drop (begin_of es i) input)
  -- it begins where bytes are left
  pub begins : (i : ℕ) → i < length es → begin_of es i < length input
  -- an entry that stops is the last
  pub goes_on : (i : ℕ) (d : Entry) → suc i < length es → stops (get_or es i d).number ≡ false
  -- together they take every byte
  pub whole : begin_of es (length es) ≡ length input
  -- one that does not stop is read by E6, and says the same
  pub read : (i : ℕ) (d : Entry) → i < length es → stops (get_or es i d).number ≡ false
      → (read_number (part input (begin_of es i) (get_or es i d).bytes) ≡ 0)
      × (contents_of (part input (begin_of es i) (get_or es i d).bytes) ≡ contents_of (drop (begin_of es i) input))

-- each entry's number is the one that check_record gives for the bytes that the entry takes, where its work buffers have the right lengths and it does not say 3, but that the
-- report compares no commitment, so that its number is 0 where check_record says 11; and an entry that is not refused has check_record's count
pub record AsChecked (P : Primitives) (input : List ℕ) (es : List Entry) : Type 0 where
  pub same :
      (i : ℕ) (d : Entry) (before after : Work) (r : Answer)
      → i < length es
      → CheckRecord P (part input (begin_of es i) (get_or es i d).bytes) before after r
      → (r.number ≡ 3 → ⊥)
      → ((get_or es i d).number ≡ answered r.number) × ((get_or es i d).number ≡ 0 → (get_or es i d).count ≡ r.count)

-- no byte behind the 65,537th changes a report: the program reads no more
pub record Claims : Type 0 where
  pub consecutive : (input : List ℕ) → Consecutive input (entries input)
  pub as-checked : (P : Primitives) (input : List ℕ) → AsChecked P input (entries input)
  pub enough : (input : List ℕ) → report_text (take 65537 input) ≡ report_text input
