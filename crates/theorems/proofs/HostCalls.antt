-- An exported call and the call beneath it test the same, since a list of n numbers has 4 n bytes; so they answer and write the same. Every index, node and count of a shape is
-- below 2^32.
use Prim.Native.Nat.{ℕ, zero, suc, ◌+◌, ◌-◌, ◌*◌, ◌≤◌, ◌<◌}
use mathlib.Core.Path.{◌≡◌, refl, sym, ap, ◌∙◌}
use mathlib.Core.Bool.{Bool, true, false, cond}
use mathlib.Core.List.{List, [], ◌∷◌, ◌++◌}
use native.Mathlib.Omega.{arith}
use lib.Dec.{eqb}
use lib.ListN.{length, get_or, drop}
use borrow.Author.Tests.{eq-eqb}
use Rattle.spec.specs.declared.Shape.{Shape}
use Rattle.spec.specs.declared.Stretch.{Stretch}
use Rattle.spec.specs.declared.Answer.{Answer}
use Rattle.spec.specs.Bytes.{part, number, digits}
use Rattle.spec.specs.Tree.{covered, sibling_to_reveal, revealed_from, revealed, node_count}
use Rattle.spec.specs.Shapes.{resolved, leaves, hidden_index, hidden_indices, hidden_leaves, planned, planned_count}
use Rattle.spec.specs.Primitives.{Primitives}
use Rattle.spec.specs.Calls.{written, count_with, decode_number, Decode, plan_number, Plan, Committed, commit_number, commit_stretch_number, Commit, CommitStretch, Open, Reconstructed, reconstruct_number, reconstruct_stretch_number, Reconstruct, ReconstructStretch}
use Rattle.spec.specs.Version1Calls.{row1_number, open1_number}
use Rattle.spec.specs.HostCalls.{word_bytes, count_slice, HostDecode, HostPlan, HostCommit, HostCommitStretch, HostOpen, HostReconstruct, HostReconstructStretch}
use Rattle.laws.proofs.Lists.{length-tabulate, get_or-tabulate}
use Rattle.laws.proofs.Digits.{digits_number, number_digits}
use Rattle.laws.proofs.Words.{same_test, words-length, words_append, words-drop, words-part, count-slice}
use Rattle.planning_laws.proofs.Revealed.{revealed-below}
use Rattle.planning_laws.proofs.HiddenLeaves.{hidden-index-lt}
use Rattle.planning_laws.proofs.ShapeFacts.{shape-facts, leaves-max, entries-small}
use Rattle.theorems.specs.HostCalls.{SameAnswer, ExportedCalls, Version1ExportedCalls, EveryList, EveryReadable}

-- ---- from the number to the rest

-- the two write the same, once their numbers agree
same : {A : Type 0} (r : Answer) (n m : ℕ) (new old beneath buffers : A) (count count' : List ℕ) → n ≡ r.number → beneath ≡ written r.number new old
    → buffers ≡ written n new old → r.count ≡ m → count' ≡ count_slice n m count → SameAnswer r beneath n buffers count count'
same r n m new old beneath buffers count count' e a b c d =
    record { number = e; bytes = b ∙ ap (λ (k : ℕ). written k new old) e ∙ sym a; counted = d ∙ rw (e, c) refl }

-- a count that is planned
given : (r : Answer) (n m : ℕ) (count count' : List ℕ) → n ≡ r.number → r.count ≡ count_with r.number m → count' ≡ count_slice n m count → count' ≡ count_slice n r.count count
given r n m count count' e c d = d ∙ sym (count-slice n m count) ∙ ap (λ (k : ℕ). count_slice n k count) (rw e (sym c))

written-words : (n : ℕ) (new old : List ℕ) → word_bytes (written n new old) ≡ written n (word_bytes new) (word_bytes old)
written-words n new old = go (eqb n 0)
  where
    go : (b : Bool) → word_bytes (cond b new old) ≡ cond b (word_bytes new) (word_bytes old)
    go true = refl
    go false = refl

-- ---- lists

list-test : (xs : List ℕ) (m : ℕ) → eqb (length (word_bytes xs)) (4 * m) ≡ eqb (length xs) m
list-test xs m = rw (words-length xs) (same_test (4 * length xs) (4 * m) (length xs) m (λ e. omega arith) (λ e. omega arith))

decode : (s : Shape) (ch xs xs' after count count' : List ℕ) (r : Answer) (n : ℕ) → Decode s ch xs xs' r → HostDecode s ch (word_bytes xs) after count count' n
    → length count ≡ 4 → SameAnswer r (word_bytes xs') n after count count'
unfolding decode_number
decode s ch xs xs' after count count' r n o h l =
    same r n 0 (word_bytes (hidden_indices (resolved s) ch)) (word_bytes xs) (word_bytes xs') after count count'
    (h.number ∙ rw (eq-eqb (length count) 4 l, list-test xs (resolved s).tau) (sym o.number))
    (ap word_bytes o.indices ∙ written-words r.number (hidden_indices (resolved s) ch) xs) h.indices o.count h.counted

plan : (s : Shape) (ch xs xs' after count count' : List ℕ) (r : Answer) (n : ℕ) → Plan s ch xs xs' r → HostPlan s ch (word_bytes xs) after count count' n
    → length count ≡ 4 → SameAnswer r (word_bytes xs') n after count count'
unfolding plan_number
plan s ch xs xs' after count count' r n o h l =
    let e : n ≡ r.number = h.number ∙ rw (eq-eqb (length count) 4 l, list-test xs (resolved s).t) (sym o.number) in
    let p = planned (resolved s) ch in
    let m = planned_count (resolved s) ch in
    let w : word_bytes (p ++ drop m xs) ≡ word_bytes p ++ drop (4 * m) (word_bytes xs) = words_append p (drop m xs) ∙ ap (λ (l : List ℕ). word_bytes p ++ l) (words-drop m xs) in
    same r n r.count (word_bytes p ++ drop (4 * m) (word_bytes xs)) (word_bytes xs) (word_bytes xs') after count count' e
    (ap word_bytes o.nodes ∙ written-words r.number (p ++ drop m xs) xs ∙ ap (λ (l : List ℕ). written r.number l (word_bytes xs)) w) h.nodes refl
    (given r n m count count' e o.count h.counted)

pub every-list : EveryList
unfolding word_bytes
every-list [] zero h l = ([], (refl, refl))
every-list (a ∷ bs) zero h l = absurd (omega arith)
every-list [] (suc m) h l = absurd (omega arith)
every-list (a ∷ []) (suc m) h l = absurd (omega arith)
every-list (a ∷ (b ∷ [])) (suc m) h l = absurd (omega arith)
every-list (a ∷ (b ∷ (c ∷ []))) (suc m) h l = absurd (omega arith)
every-list (a ∷ (b ∷ (c ∷ (d ∷ bs)))) (suc m) h l =
    let front : List ℕ = a ∷ (b ∷ (c ∷ (d ∷ []))) in
    let e : digits 8 4 (number 8 front) ≡ front = digits_number 8 front (four h) in
    let r = every-list bs m (λ i. h (suc (suc (suc (suc i))))) (omega arith) in
    (number 8 front ∷ r.0, (ap suc r.1.0, rw (e, r.1.1) refl))
  where
    four : ((i : ℕ) → get_or (a ∷ (b ∷ (c ∷ (d ∷ bs)))) i 0 < 256) → (i : ℕ) → get_or (a ∷ (b ∷ (c ∷ (d ∷ [])))) i 0 < 256
    four h zero = h 0
    four h (suc zero) = h 1
    four h (suc (suc zero)) = h 2
    four h (suc (suc (suc zero))) = h 3
    four h (suc (suc (suc (suc i)))) = omega arith

-- ---- the calls without lists

module _ (P : Primitives) where
  commit : (s : Shape) (bits : ℕ) (root iv : List ℕ) (x x' after : Committed) (count count' : List ℕ) (r : Answer) (n : ℕ) → Commit P s bits root iv x x' r
      → HostCommit P s bits root iv x after count count' n → length count ≡ 4 → SameAnswer r x' n after count count'
  unfolding commit_number
  commit s bits root iv x x' after count count' r n o h l =
      same r n 0 _ x x' after count count' (h.number ∙ rw (eq-eqb (length count) 4 l) (sym o.number)) o.buffers h.buffers o.count h.counted

  commit-stretch : (s : Shape) (bits : ℕ) (z : Stretch) (root iv : List ℕ) (x x' after : Committed) (count count' : List ℕ) (r : Answer) (n : ℕ)
      → CommitStretch P s bits z root iv x x' r → HostCommitStretch P s bits z root iv x after count count' n → length count ≡ 4 → SameAnswer r x' n after count count'
  unfolding commit_stretch_number
  commit-stretch s bits z root iv x x' after count count' r n o h l =
      same r n 0 _ x x' after count count' (h.number ∙ rw (eq-eqb (length count) 4 l) (sym o.number)) o.buffers h.buffers o.count h.counted

  reconstruct : (s : Shape) (bits : ℕ) (iv ch cs op : List ℕ) (x x' after : Reconstructed) (count count' : List ℕ) (r : Answer) (n : ℕ)
      → Reconstruct P s bits iv ch cs op x x' r → HostReconstruct P s bits iv ch cs op x after count count' n → length count ≡ 4 → SameAnswer r x' n after count count'
  unfolding reconstruct_number
  reconstruct s bits iv ch cs op x x' after count count' r n o h l =
      let e : n ≡ r.number = h.number ∙ rw (eq-eqb (length count) 4 l) (sym o.number) in
      same r n r.count _ x x' after count count' e o.buffers h.buffers refl (given r n (planned_count (resolved s) ch) count count' e o.count h.counted)

  reconstruct-stretch : (s : Shape) (bits : ℕ) (z : Stretch) (iv ch cs op : List ℕ) (x x' after : Reconstructed) (count count' : List ℕ) (r : Answer) (n : ℕ)
      → ReconstructStretch P s bits z iv ch cs op x x' r → HostReconstructStretch P s bits z iv ch cs op x after count count' n → length count ≡ 4
      → SameAnswer r x' n after count count'
  unfolding reconstruct_stretch_number
  reconstruct-stretch s bits z iv ch cs op x x' after count count' r n o h l =
      let e : n ≡ r.number = h.number ∙ rw (eq-eqb (length count) 4 l) (sym o.number) in
      same r n r.count _ x x' after count count' e o.buffers h.buffers refl (given r n (planned_count (resolved s) ch) count count' e o.count h.counted)

opened : (s : Shape) (ch tree lcs opening opening' after count count' : List ℕ) (r : Answer) (n : ℕ) → Open s ch tree lcs opening opening' r
    → HostOpen s ch tree lcs opening after count count' n → length count ≡ 4 → SameAnswer r opening' n after count count'
unfolding plan_number
opened s ch tree lcs opening opening' after count count' r n o h l =
    let e : n ≡ r.number = h.number ∙ rw (eq-eqb (length count) 4 l) (sym o.number) in
    same r n r.count _ opening opening' after count count' e o.opening h.opening refl (given r n (planned_count (resolved s) ch) count count' e o.count h.counted)

pub exported-calls : (P : Primitives) → ExportedCalls P
exported-calls P =
    record {
      decode = decode;
      plan = plan;
      commit = commit P;
      commit-stretch = commit-stretch P;
      opened = opened;
      reconstruct = reconstruct P;
      reconstruct-stretch = reconstruct-stretch P;
    }

-- ---- what a host reads

-- a node reveals one child at most
revealed-few : (c : ℕ → Bool) (n : ℕ) → length (revealed_from c n) ≤ n
unfolding revealed_from sibling_to_reveal
revealed-few c zero = omega arith
revealed-few c (suc n) = go (c (2 * n + 1)) (c (2 * n + 2)) (revealed-few c n)
  where
    go : (x y : Bool) → length (revealed_from c n) ≤ n → length (sibling_to_reveal x y n ++ revealed_from c n) ≤ suc n
    go true true ih = omega arith
    go false false ih = omega arith
    go true false ih = omega arith
    go false true ih = omega arith

read : (xs : List ℕ) (i : ℕ) → i < length xs → get_or xs i 0 < 172032 → number 8 (part (word_bytes xs) (4 * i) 4) ≡ get_or xs i 0
read xs i h l = ap (number 8) (words-part xs i h) ∙ number_digits 8 4 (get_or xs i 0) (omega arith)

pub every-readable : EveryReadable
unfolding hidden_indices planned planned_count node_count revealed
every-readable s ch e =
    let f = shape-facts (resolved s) e in
    record {
      indices = λ i h.
          let at = get_or-tabulate (resolved s).tau (hidden_index (resolved s) ch) i 0 h in
          read (hidden_indices (resolved s) ch) i (rw length-tabulate h) (rw at (omega (arith, hidden-index-lt (resolved s) ch i, entries-small (resolved s) i f))) ∙ at;
      nodes = λ i h. read (planned (resolved s) ch) i h (revealed-below _ _ 172032 (omega (arith, leaves-max (resolved s) f)) i);
      count = number_digits 8 4 (planned_count (resolved s) ch) (omega (arith, revealed-few (covered (hidden_leaves (resolved s) ch)) (leaves (resolved s) - 1), leaves-max (resolved s) f));
    }

-- ---- version 1

pub version1-exported : (P : Primitives) → Version1ExportedCalls P
unfolding row1_number open1_number
version1-exported P =
    record {
      commit = λ s bits root iv x x' after count count' r n o h l.
          same r n 0 _ x x' after count count' (h.number ∙ rw (eq-eqb (length count) 4 l) (sym o.number)) o.buffers h.buffers o.count h.counted;
      opened = λ s ch trees lcs opening opening' after count count' r n o h l.
          same r n 0 _ opening opening' after count count' (h.number ∙ rw (eq-eqb (length count) 4 l) (sym o.number)) o.opening h.opening o.count h.counted;
      reconstruct = λ s bits iv ch corrections opening x x' after count count' r n o h l.
          same r n 0 _ x x' after count count' (h.number ∙ rw (eq-eqb (length count) 4 l) (sym o.number)) o.buffers h.buffers o.count h.counted;
    }
