-- Document 02, E6, with the versions of E7 and E8, over the contracts of write_record and check_record, alone and with those of commit, open and reconstruct; and E13, over the
-- contracts of check_named and check_record. ../proofs/Claims.antt proves all.
use Rattle.std.specs.Prelude.{ℕ, ◌/◌, ◌≤◌, ◌≡◌, true, ◌&&◌, not, cond, List, [], ◌∷◌, eqb, length}
use Rattle.spec.specs.declared.Shape.{Shape}
use Rattle.spec.specs.declared.Answer.{Answer}
use Rattle.spec.specs.Shapes.{resolved, challenge_bytes, hash_bytes, opening_bytes, grinding_ok, planned_count}
use Rattle.spec.specs.Primitives.{Primitives, faest}
use Rattle.spec.specs.Calls.{first_refusal, written, Committed, Commit, Open, Reconstructed}
use Rattle.spec.specs.HostCalls.{word_bytes, count_slice}
use Rattle.laws.specs.Lengths.{Sized}
use Rattle.laws.proofs.Numbers.{Digits}
use Rattle.record.specs.declared.Lengths.{Lengths}
use Rattle.record.specs.declared.RecordLength.{RecordLength}
use Rattle.record.specs.Record.{version_of, Contents, contents_of, head_number, read_number, record_of, record_bytes, record_of_version1}
use Rattle.record.specs.RecordCalls.{Work, work_lengths, WorkLengths, Reconstructs, same_bytes, answered, CheckRecord, LengthOf, WriteRecord}
use Rattle.record.specs.HostRecordCalls.{HostCheckRecord, HostWorkLengths, HostRecordLength, HostWriteRecord}
use Rattle.named_sets.specs.NamedSets.{named_ok}
use Rattle.named_sets.specs.NamedCalls.{CheckNamed, HostCheckNamed}

-- a written record is read back as the same fields, and no other string of bytes is read so but the record of version 1; version 3 means kind 1, any other kind 0
pub record ReadBack : Type 0 where
  pub back : (c : Contents) (before after : List ℕ) (r : Answer) → WriteRecord c before after r → r.number ≡ 0 → (read_number after ≡ 0) × (contents_of after ≡ c)
  pub only :
      (rec : List ℕ) (c : Contents)
      → Digits 8 rec
      → read_number rec ≡ 0
      → contents_of rec ≡ c
      → rec ≡ cond (eqb (version_of rec) 1) (record_of_version1 c) (record_of c)
  pub kind : (rec : List ℕ) → read_number rec ≡ 0 → (contents_of rec).shape.kind ≡ cond (eqb (version_of rec) 3) 1 0

-- what is written at level 128 with ordinary leaves is read, as the same fields, from its record of version 1 too
pub record Version1Read : Type 0 where
  pub back :
      (c : Contents) (before after : List ℕ) (r : Answer)
      → WriteRecord c before after r
      → r.number ≡ 0
      → c.shape.level ≡ 128
      → c.shape.kind ≡ 0
      → (read_number (record_of_version1 c) ≡ 0) × (contents_of (record_of_version1 c) ≡ c)

-- reconstruct on the fields of a record, with the lent work buffers and any buffer for the commitment that has its length
abbrev pub Ran : Primitives → List ℕ → Work → List ℕ → Reconstructed → Answer → Type 0
Ran P rec x commitment y a =
    (length commitment ≡ hash_bytes (resolved (contents_of rec).shape))
    × Reconstructs P (contents_of rec) (record { commitment = commitment; tree = x.tree; leaf_commitments = x.leaf_commitments; q = x.q }) y a

-- check_record's number is that of reading, else reconstruct's, else that of the comparison
pub record Steps (P : Primitives) : Type 0 where
  pub steps :
      (rec : List ℕ) (before after : Work) (r : Answer) (commitment : List ℕ) (y : Reconstructed) (a : Answer)
      → CheckRecord P rec before after r
      → Ran P rec before commitment y a
      → r.number
      ≡ first_refusal
      ((eqb (read_number rec) 0, read_number rec) ∷ (eqb a.number 0, a.number) ∷ (same_bytes y.commitment (contents_of rec).commitment, 11) ∷ [])

-- a record is accepted exactly when it is read, reconstruct accepts its fields, and what it writes as commitment is the record's
pub record Accepts (rec : List ℕ) (r : Answer) (y : Reconstructed) (a : Answer) : Type 0 where
  pub only : r.number ≡ 0 → (read_number rec ≡ 0) × (a.number ≡ 0) × (y.commitment ≡ (contents_of rec).commitment)
  pub always : read_number rec ≡ 0 → a.number ≡ 0 → y.commitment ≡ (contents_of rec).commitment → r.number ≡ 0

pub record AcceptedMeans (P : Primitives) : Type 0 where
  pub exactly :
      (rec : List ℕ) (before after : Work) (r : Answer) (commitment : List ℕ) (y : Reconstructed) (a : Answer)
      → CheckRecord P rec before after r
      → Ran P rec before commitment y a
      → Accepts rec r y a

-- what commit and open made is written as a record, and the record is accepted; s is the resolved shape
pub record Honest (s : Shape) (ch : List ℕ) (opened wrote checked : Answer) : Type 0 where
  pub open-number : opened.number ≡ 0
  pub write-number : wrote.number ≡ 0
  pub check-number : checked.number ≡ 0
  pub check-count : checked.count ≡ planned_count s ch

-- for every challenge that has clear grinding bits and needs no more nodes than the shape allows. The lengths that the host still chooses are premises
pub record HonestAccepted : Type 0 where
  pub accepted :
      (s : Shape) (n : ℕ) (root iv ch opening opening' before after : List ℕ) (signer signer' : Committed) (work work' : Work) (made opened wrote checked : Answer)
      → Commit faest s n root iv signer signer' made
      → made.number ≡ 0
      → Open s ch signer'.tree signer'.leaf_commitments opening opening' opened
      → WriteRecord
      (record { shape = s; row = n; iv = iv; challenge = ch; corrections = signer'.corrections; opening = opening'; commitment = signer'.commitment })
      before after wrote
      → CheckRecord faest after work work' checked
      → Sized
      ((length ch, challenge_bytes (resolved s))
      ∷ (length opening, opening_bytes (resolved s))
      ∷ (length before, record_bytes (resolved s) (n / 8))
      ∷ work_lengths (resolved s) (n / 8) work)
      → grinding_ok (resolved s) ch ≡ true
      → planned_count (resolved s) ch ≤ (resolved s).t
      → Honest (resolved s) ch opened wrote checked

-- check_named beside check_record on one record and the same buffers: 13 where the front is read and is no named set's, and else the number of check_record
pub record OrThirteen (rec : List ℕ) (named checked : Answer) : Type 0 where
  pub number : named.number ≡ cond (eqb (head_number rec) 0 && not (named_ok (contents_of rec).shape (contents_of rec).row)) 13 checked.number

-- it accepts exactly what check_record accepts among the named sets, and of those the two write and count the same
pub record Among (rec : List ℕ) (named checked : Answer) (y z : Work) : Type 0 where
  pub only : named.number ≡ 0 → (checked.number ≡ 0) × (named_ok (contents_of rec).shape (contents_of rec).row ≡ true)
  pub always : checked.number ≡ 0 → named_ok (contents_of rec).shape (contents_of rec).row ≡ true → named.number ≡ 0
  pub same : named_ok (contents_of rec).shape (contents_of rec).row ≡ true → (named.number ≡ checked.number) × (named.count ≡ checked.count) × (y ≡ z)

pub record NamedMeans (P : Primitives) : Type 0 where
  pub number : (rec : List ℕ) (x y z : Work) (named checked : Answer) → CheckNamed P rec x y named → CheckRecord P rec x z checked → OrThirteen rec named checked
  pub exactly : (rec : List ℕ) (x y z : Work) (named checked : Answer) → CheckNamed P rec x y named → CheckRecord P rec x z checked → Among rec named checked y z

-- where its count slice or its slice for lengths has the right length, an exported call gives the number and bytes of the call beneath it
pub record Exported (P : Primitives) : Type 0 where
  pub check :
      (rec count count' : List ℕ) (x y z : Work) (r : Answer) (n : ℕ)
      → CheckRecord P rec x y r
      → HostCheckRecord P rec x z count count' n
      → length count ≡ 4
      → (n ≡ r.number) × (z ≡ y) × (count' ≡ count_slice (answered r.number) r.count count)
  pub check-named :
      (rec count count' : List ℕ) (x y z : Work) (r : Answer) (n : ℕ)
      → CheckNamed P rec x y r
      → HostCheckNamed P rec x z count count' n
      → length count ≡ 4
      → (n ≡ r.number) × (z ≡ y) × (count' ≡ count_slice (answered r.number) r.count count)
  pub work-lengths :
      (rec before after : List ℕ) (l : Lengths) (n : ℕ)
      → WorkLengths rec l
      → HostWorkLengths rec before after n
      → length before ≡ 12
      → (n ≡ l.number) × (after ≡ written l.number (word_bytes (l.tree ∷ l.leaf_commitments ∷ l.q ∷ [])) before)
  pub record-length :
      (s : Shape) (bits : ℕ) (before after : List ℕ) (l : RecordLength) (n : ℕ)
      → LengthOf s bits l
      → HostRecordLength s bits before after n
      → length before ≡ 4
      → (n ≡ l.number) × (after ≡ written l.number (word_bytes (l.bytes ∷ [])) before)
  -- it has no such slice: its count is always 0
  pub write :
      (c : Contents) (before after host : List ℕ) (r : Answer) (n : ℕ)
      → WriteRecord c before after r
      → HostWriteRecord c before host n
      → (n ≡ r.number) × (host ≡ after)
