-- The claims of ../specs. Reading back by the laws of records; the steps of check_record because a record that is read has an allowed shape and fields of their lengths; an
-- honest record from demand 3.
use Prim.Native.Nat.{ℕ, ◌/◌, ◌≤◌}
use mathlib.Core.Path.{◌≡◌, refl, sym, ap, ◌∙◌}
use mathlib.Core.Bool.{Bool, true, false, ◌&&◌, not, cond}
use mathlib.Core.List.{List, [], ◌∷◌, ◌++◌}
use native.Mathlib.Omega.{arith}
use lib.Dec.{eqb}
use lib.ListN.{length}
use borrow.Author.Tests.{eq-eqb, eqb-true, eqb-false}
use Rattle.spec.specs.declared.Shape.{Shape}
use Rattle.spec.specs.declared.Answer.{Answer}
use Rattle.spec.specs.Bytes.{zeros}
use Rattle.spec.specs.Shapes.{resolved, challenge_bytes, hash_bytes, shape_ok, opening_bytes, grinding_ok, planned_count}
use Rattle.spec.specs.Sponge.{sponge, shake}
use Rattle.spec.specs.Hashes.{hash1}
use Rattle.spec.specs.Primitives.{Primitives, faest}
use Rattle.spec.specs.Leaves.{commitment_of}
use Rattle.spec.specs.Calls.{first_refusal, fits, count_with, written, row_ok, Committed, committed, Commit, Open, Reconstructed}
use Rattle.spec.specs.HostCalls.{word_bytes, count_slice}
use Rattle.laws.specs.Lengths.{Sized}
use Rattle.laws.proofs.Lengths.{sized-fits, fits-sized}
use Rattle.laws.proofs.Lists.{length-tabulate, length-zeros}
use Rattle.theorems.proofs.Demand3.{demand3}
use Rattle.record.specs.Record.{version_of, Contents, contents_of, head_number, read_number, record_of, record_bytes, record_of_version1}
use Rattle.record.specs.RecordCalls.{Work, work_lengths, work_of, made, same_bytes, record_number, answered, CheckRecord, length_number, write_number, WriteRecord}
use Rattle.record.specs.HostRecordCalls.{HostCheckRecord, work_words}
use Rattle.laws.proofs.Words.{count-slice}
use Rattle.laws.proofs.Refusals.{none-failed, all-passed}
use Rattle.record.proofs.SameBytes.{same_refl, same-equal}
use Rattle.record.proofs.Reading.{Lengths}
use Rattle.record.proofs.ReadBack.{contents-back, reads-back, first-contents, first_reads, read-kind, read_only}
use Rattle.record.proofs.Reconstructing.{lent, ran_number, ran-number, ran-made, reconstructs, fields_fit, number-steps}
use Rattle.named_sets.specs.NamedSets.{named_ok}
use Rattle.named_sets.specs.NamedCalls.{named_number, CheckNamed, HostCheckNamed}
use Rattle.named_sets.proofs.Numbers.{or-thirteen, same_number, accepted-named}
use Rattle.record_theorems.specs.Claims.{ReadBack, Version1Read, Ran, Steps, Accepts, AcceptedMeans, Honest, HonestAccepted, OrThirteen, Among, NamedMeans, Exported}

-- ---- reading back

-- what a writer that answers 0 tested
abbrev Buffer : Contents → List ℕ → List (ℕ × ℕ)
Buffer c x = (length x, record_bytes (resolved c.shape) (c.row / 8)) ∷ []

abbrev WriteTests : Contents → List ℕ → List (Bool × ℕ)
WriteTests c x = (shape_ok (resolved c.shape), 1) ∷ (row_ok c.row, 2) ∷ (fits (Lengths c ++ Buffer c x), 3) ∷ []

sized-front : (ps qs : List (ℕ × ℕ)) → Sized (ps ++ qs) → Sized ps
sized-front [] qs h = tt
sized-front (p ∷ ps) qs h = (h.0, sized-front ps qs h.1)

-- it answered 0: the shape and the row length are allowed, and the fields have their lengths
wrote : (c : Contents) (before after : List ℕ) (r : Answer) → WriteRecord c before after r → r.number ≡ 0
    → (shape_ok (resolved c.shape) ≡ true) × (row_ok c.row ≡ true) × Sized (Lengths c)
unfolding write_number
wrote c before after r w z =
    let t = none-failed (WriteTests c before) (refl, (refl, (refl, tt))) (sym w.number ∙ z) in
    (t.0, t.1.0, sized-front (Lengths c) (Buffer c before) (fits-sized (Lengths c ++ Buffer c before) t.1.1.0))

back : (c : Contents) (before after : List ℕ) (r : Answer) → WriteRecord c before after r → r.number ≡ 0 → (read_number after ≡ 0) × (contents_of after ≡ c)
back c before after r w z =
    let t = wrote c before after r w z in
    let is : after ≡ record_of c = w.rec ∙ rw z refl in
    (ap read_number is ∙ reads-back c t.0 t.1 t.2, ap contents_of is ∙ contents-back c t.0 t.1 t.2)

write-zero : (c : Contents) (x : List ℕ) → shape_ok (resolved c.shape) ≡ true → row_ok c.row ≡ true → Sized (Lengths c ++ Buffer c x) → write_number c x ≡ 0
unfolding write_number
write-zero c x a b d = all-passed (WriteTests c x) (a, (b, (sized-fits (Lengths c ++ Buffer c x) d, tt)))

pub read_back : ReadBack
read_back =
    record {
      back = back;
      only = λ rec c bytes ok e. read_only rec ok bytes ∙ ap (λ (x : Contents). cond (eqb (version_of rec) 1) (record_of_version1 x) (record_of x)) e;
      kind = read-kind;
    }

pub version-1-read : Version1Read
version-1-read =
    record {
      back = λ c before after r w z e f.
          let t = wrote c before after r w z in
          (first_reads c t.0 t.1 t.2 e f, first-contents c t.0 t.1 t.2 e f);
    }

-- ---- the steps of check_record

-- two numbers and a test, one after another, give 0
three : (m k : ℕ) (b : Bool) → first_refusal ((eqb m 0, m) ∷ (eqb k 0, k) ∷ (b, 11) ∷ []) ≡ 0 → (m ≡ 0) × (k ≡ 0) × (b ≡ true)
three m k b h = go (eqb m 0) (eqb k 0) b refl refl h
  where
    go : (p q b : Bool) → eqb m 0 ≡ p → eqb k 0 ≡ q → first_refusal ((p, m) ∷ (q, k) ∷ (b, 11) ∷ []) ≡ 0 → (m ≡ 0) × (k ≡ 0) × (b ≡ true)
    go false q b e f h = absurd (eqb-false m 0 e h)
    go true false b e f h = absurd (eqb-false k 0 f h)
    go true true false e f h = absurd (omega arith)
    go true true true e f h = (eqb-true m 0 e, eqb-true k 0 f, refl)

module _ (P : Primitives) where
  steps : (rec : List ℕ) (before after : Work) (r : Answer) (commitment : List ℕ) (y : Reconstructed) (a : Answer)
      → CheckRecord P rec before after r
      → Ran P rec before commitment y a
      → r.number
      ≡ first_refusal
      ((eqb (read_number rec) 0, read_number rec) ∷ (eqb a.number 0, a.number) ∷ (same_bytes y.commitment (contents_of rec).commitment, 11) ∷ [])
  steps rec before after r commitment y a k w =
      let c = contents_of rec in
      let x : Reconstructed = record { commitment = commitment; tree = before.tree; leaf_commitments = before.leaf_commitments; q = before.q } in
      let n = ran-number P c x y a w.1 in
      k.number ∙ number-steps P rec x w.0 ∙ ap (λ (m : ℕ). first_refusal ((eqb (read_number rec) 0, read_number rec) ∷ (eqb m 0, m) ∷ (same_bytes (made P c).commitment c.commitment, 11) ∷ [])) (sym n)
      ∙ same (eqb (read_number rec) 0) (eqb a.number 0) refl c (ran-made P c x y a w.1)
    where
      same : (p q : Bool) → eqb a.number 0 ≡ q → (c : Contents) → (a.number ≡ 0 → y ≡ made P c)
          → first_refusal ((p, read_number rec) ∷ (q, a.number) ∷ (same_bytes (made P c).commitment c.commitment, 11) ∷ [])
          ≡ first_refusal ((p, read_number rec) ∷ (q, a.number) ∷ (same_bytes y.commitment c.commitment, 11) ∷ [])
      same false q e c f = refl
      same true false e c f = refl
      same true true e c f = ap (λ (u : Reconstructed). cond (same_bytes u.commitment c.commitment) 0 11) (sym (f (eqb-true a.number 0 e)))

  pub in-steps : Steps P
  in-steps = record { steps = steps }

  -- ---- accepted

  accepts : (rec : List ℕ) (before after : Work) (r : Answer) (commitment : List ℕ) (y : Reconstructed) (a : Answer)
      → CheckRecord P rec before after r
      → Ran P rec before commitment y a
      → Accepts rec r y a
  accepts rec before after r commitment y a k w =
      let s = steps rec before after r commitment y a k w in
      record {
        only = λ z. let t = three (read_number rec) a.number _ (sym s ∙ z) in (t.0, t.1, same-equal _ _ t.2);
        always = λ ok n g. s ∙ rw (ok, n, g, same_refl (contents_of rec).commitment) refl;
      }

  pub accepted-means : AcceptedMeans P
  accepted-means = record { exactly = accepts }

-- ---- an honest record

-- the commitment of commit has its length
commitment-length : (s : Shape) (n : ℕ) (root iv : List ℕ) (x y : Committed) (a : Answer) → Commit faest s n root iv x y a → a.number ≡ 0 → length y.commitment ≡ hash_bytes (resolved s)
unfolding committed commitment_of faest hash1 shake sponge
commitment-length s n root iv x y a m z = rw (m.buffers, z) (length-tabulate (hash_bytes (resolved s)) _)

honest : (s : Shape) (n : ℕ) (root iv ch opening opening' before after : List ℕ) (signer signer' : Committed) (work work' : Work) (made₀ opened wrote checked : Answer)
    → Commit faest s n root iv signer signer' made₀
    → made₀.number ≡ 0
    → Open s ch signer'.tree signer'.leaf_commitments opening opening' opened
    → WriteRecord
    (record { shape = s; row = n; iv = iv; challenge = ch; corrections = signer'.corrections; opening = opening'; commitment = signer'.commitment })
    before after wrote
    → CheckRecord faest after work work' checked
    → Sized
    ((length ch, challenge_bytes (resolved s))
    ∷ (length opening, opening_bytes (resolved s))
    ∷ (length before, record_bytes (resolved s) (n / 8))
    ∷ work_lengths (resolved s) (n / 8) work)
    → grinding_ok (resolved s) ch ≡ true
    → planned_count (resolved s) ch ≤ (resolved s).t
    → Honest (resolved s) ch opened wrote checked
unfolding count_with
honest s n root iv ch opening opening' before after signer signer' work work' made₀ opened wrote checked m mz o w k sized grinding within =
    let c : Contents = record { shape = s; row = n; iv = iv; challenge = ch; corrections = signer'.corrections; opening = opening'; commitment = signer'.commitment } in
    let x = lent c work in
    let number = ran_number c x in
    let y : Reconstructed = written number (made faest c) x in
    let a : Answer = record { number = number; count = count_with number (planned_count (resolved s) ch) } in
    let ran = reconstructs faest c x in
    let z = length-zeros (hash_bytes (resolved s)) in
    let acc = (demand3 faest).accepted s n root iv ch opening opening' signer signer' x y made₀ opened a m mz o ran
    (sized.0, (sized.1.0, (z, (sized.1.1.1.0, (sized.1.1.1.1.0, (sized.1.1.1.1.1.0, tt)))))) grinding within in
    let f = fields_fit c x acc.check-number in
    let q = f.2 in
    let wz : wrote.number ≡ 0 = w.number
    ∙ write-zero c before f.0 f.1 (q.0, (q.1.0, (q.1.1.0, (q.1.1.1.0, (commitment-length s n root iv signer signer' made₀ m mz, (sized.1.1.0, tt)))))) in
    let b = back c before after wrote w wz in
    let means = accepts faest after work work' checked (zeros (hash_bytes (resolved s))) y a k (rw b.1 z, rw b.1 ran) in
    let kz : checked.number ≡ 0 = means.always b.0 acc.check-number (rw b.1 acc.commitment) in
    record { open-number = acc.open-number; write-number = wz; check-number = kz; check-count = k.count ∙ rw (kz, b.1) refl }

pub honest-accepted : HonestAccepted
honest-accepted = record { accepted = honest }

-- ---- named sets

module _ (P : Primitives) (rec : List ℕ) (x y z : Work) (named checked : Answer) (k : CheckNamed P rec x y named) (c : CheckRecord P rec x z checked) where
  or : OrThirteen rec named checked
  or = record { number = k.number ∙ or-thirteen rec P _ ∙ ap (cond (eqb (head_number rec) 0 && not (named_ok (contents_of rec).shape (contents_of rec).row)) 13) (sym c.number) }

  among : Among rec named checked y z
  among =
      let same : named_ok (contents_of rec).shape (contents_of rec).row ≡ true → named.number ≡ checked.number = λ n. k.number ∙ same_number rec P _ n ∙ sym c.number in
      record {
        only = λ e. let n = accepted-named rec P _ (sym k.number ∙ e) in (sym (same n) ∙ e, n);
        always = λ e n. same n ∙ e;
        same = λ n. (
          same n,
          k.count ∙ ap (λ (m : ℕ). count_with (answered m) (planned_count (resolved (contents_of rec).shape) (contents_of rec).challenge)) (same n) ∙ sym c.count,
          k.buffers ∙ ap (λ (m : ℕ). written (answered m) (work_of (made P (contents_of rec))) x) (same n) ∙ sym c.buffers,
        );
      }

pub named-means : (P : Primitives) → NamedMeans P
named-means P = record { number = or P; exactly = among P }

-- ---- the exported calls

module _ (P : Primitives) where
  -- with one number the exported call writes and counts what the call beneath it does; x is what the work buffers held
  same_bytes_lem : (rec count count' : List ℕ) (x y z : Work) (r : Answer) (n : ℕ)
      → n ≡ r.number
      → r.count ≡ count_with (answered r.number) (planned_count (resolved (contents_of rec).shape) (contents_of rec).challenge)
      → y ≡ written (answered r.number) (work_of (made P (contents_of rec))) x
      → z ≡ written (answered n) (work_of (made P (contents_of rec))) x
      → count' ≡ count_slice (answered n) (planned_count (resolved (contents_of rec).shape) (contents_of rec).challenge) count
      → (n ≡ r.number) × (z ≡ y) × (count' ≡ count_slice (answered r.number) r.count count)
  same_bytes_lem rec count count' x y z r n same counts wrote host slice = (
    same,
    host ∙ ap (λ (m : ℕ). written (answered m) (work_of (made P (contents_of rec))) x) same ∙ sym wrote,
    slice ∙ ap (λ (m : ℕ). count_slice (answered m) (planned_count (resolved (contents_of rec).shape) (contents_of rec).challenge) count) same
        ∙ sym (ap (λ (m : ℕ). count_slice (answered r.number) m count) counts ∙ count-slice (answered r.number) _ count),
  )

  check : (rec count count' : List ℕ) (x y z : Work) (r : Answer) (n : ℕ)
      → CheckRecord P rec x y r
      → HostCheckRecord P rec x z count count' n
      → length count ≡ 4
      → (n ≡ r.number) × (z ≡ y) × (count' ≡ count_slice (answered r.number) r.count count)
  unfolding record_number
  check rec count count' x y z r n k h e =
      same_bytes_lem rec count count' x y z r n (h.number ∙ rw (eq-eqb (length count) 4 e) (sym k.number)) k.count k.buffers h.buffers h.counted

  check-named : (rec count count' : List ℕ) (x y z : Work) (r : Answer) (n : ℕ)
      → CheckNamed P rec x y r
      → HostCheckNamed P rec x z count count' n
      → length count ≡ 4
      → (n ≡ r.number) × (z ≡ y) × (count' ≡ count_slice (answered r.number) r.count count)
  unfolding named_number
  check-named rec count count' x y z r n k h e =
      same_bytes_lem rec count count' x y z r n (h.number ∙ rw (eq-eqb (length count) 4 e) (sym k.number)) k.count k.buffers h.buffers h.counted

  -- a slice that has its length leaves the number of the call beneath
  only-first : (k n m : ℕ) → n ≡ m → first_refusal ((eqb k 0, k) ∷ (fits ((n, m) ∷ []), 3) ∷ []) ≡ k
  only-first k n m e = go (eqb k 0) refl
    where
      go : (t : Bool) → eqb k 0 ≡ t → cond t (cond (fits ((n, m) ∷ [])) 0 3) k ≡ k
      go true z = rw (eq-eqb n m e) (sym (eqb-true k 0 z))
      go false z = refl

  -- what is written with 0 only
  put_same : (k : ℕ) (xs ys before : List ℕ) → (k ≡ 0 → xs ≡ ys) → written k (word_bytes xs) before ≡ written k (word_bytes ys) before
  put_same k xs ys before f = go (eqb k 0) refl
    where
      go : (t : Bool) → eqb k 0 ≡ t → cond t (word_bytes xs) before ≡ cond t (word_bytes ys) before
      go true z = ap word_bytes (f (eqb-true k 0 z))
      go false z = refl

  pub exported : Exported P
  exported =
      record {
        check = check;
        check-named = check-named;
        work-lengths = λ rec before after l n w h e.
            let same = h.number ∙ only-first (head_number rec) (length before) 12 e ∙ sym w.number in (
              same,
              h.lengths ∙ ap (λ (m : ℕ). written m (word_bytes (work_words rec)) before) same
                  ∙ put_same l.number (work_words rec) (l.tree ∷ l.leaf_commitments ∷ l.q ∷ []) before
                  (λ z. sym (rw (w.tree, w.leaf_commitments, w.q, z) refl)),
            );
        record-length = λ s bits before after l n w h e.
            let same = h.number ∙ only-first (length_number s bits) (length before) 4 e ∙ sym w.number in (
              same,
              h.bytes ∙ ap (λ (m : ℕ). written m (word_bytes (record_bytes (resolved s) (bits / 8) ∷ [])) before) same
                  ∙ put_same l.number (record_bytes (resolved s) (bits / 8) ∷ []) (l.bytes ∷ []) before (λ z. sym (rw (w.bytes, z) refl)),
            );
        write = λ c before after host r n w h.
            let same = h.number ∙ sym w.number in
            (same, h.rec ∙ ap (λ (m : ℕ). written m (record_of c) before) same ∙ sym w.rec);
      }
