-- Demand 3, and what an opening depends on. The tests of open and reconstruct pass because the buffers that commit and open wrote have the right lengths and
-- the unused slots are zeros; what they write is then that of `Reconstruction`.
use Prim.Native.Nat.{ℕ, ◌/◌, ◌≤◌, ◌<◌}
use mathlib.Core.Path.{◌≡◌, refl, sym, ap, ap₂, ◌∙◌, subst}
use mathlib.Core.Bool.{Bool, true, false, cond, true≢false}
use mathlib.Core.List.{List, [], ◌∷◌}
use native.Mathlib.Omega.{arith}
use lib.Dec.{eqb, leb}
use lib.ListN.{length}
use borrow.Author.Tests.{eq-eqb, le-leb, lt-leb, leb-false}
use Rattle.spec.specs.declared.Shape.{Shape}
use Rattle.spec.specs.declared.Stretch.{Stretch}
use Rattle.spec.specs.declared.Answer.{Answer}
use Rattle.spec.specs.Shapes.{resolved, shape_ok, challenge_bytes, hash_bytes, grinding_ok, planned_count, tree_bytes, leaf_commitments_bytes, opening_bytes, matrix_bytes}
use Rattle.spec.specs.Primitives.{Primitives}
use Rattle.spec.specs.Leaves.{leaf_commitments}
use Rattle.spec.specs.Rows.{stretch_byte}
use Rattle.spec.specs.Signer.{signer_tree, signer_leaf_commitment, corrections, opening_of}
use Rattle.spec.specs.Verifier.{slots_ok, reconstructed_tree}
use Rattle.spec.specs.Calls.{fits, count_with, written, row_ok, whole_row, stretch_ok, nodes_ok, Committed, committed, commit_lengths, commit_stretch_number, CommitStretch, plan_number, open_lengths, Open, Reconstructed, reconstructed, reconstruct_lengths, reconstruct_stretch_number, ReconstructStretch}
use Rattle.planning_laws.proofs.ShapeLaws.{shape-laws}
use Rattle.laws.specs.Lengths.{Sized}
use Rattle.laws.proofs.Lengths.{sized-fits, fits-sized}
use Rattle.laws.proofs.Refusals.{none-failed}
use Rattle.laws.proofs.Calls.{written-zero, whole-ok, whole-commit, whole-reconstruct}
use Rattle.theorems.specs.Demands.{Accepted, Five, Demand3, OpeningDepends}
use Rattle.theorems.proofs.Buffers.{opening-length, opening-rest, opening-same}
use Rattle.theorems.proofs.Reconstruction.{tree-length, signer-commitments-length, node-same, node-zero, commitment-same, leaf-commitments-same, row_same}
use Rattle.theorems.proofs.ColumnRule.{corrections-length, column-rule}

-- ---- the number 5

count-five : (m n : ℕ) → m ≡ 5 → count_with m n ≡ n
unfolding count_with
count-five m n e = rw e refl

five-of : (s : Shape) (ch : List ℕ) (r : Answer) (m : ℕ) → (eqb m 5 ≡ false)
    → r.number ≡ cond (grinding_ok s ch) (cond (leb (planned_count s ch) s.t) m 5) 4
    → r.count ≡ count_with r.number (planned_count s ch) → Five s ch r
five-of s ch r m ne e k =
    record {
      only = λ h. go (grinding_ok s ch) (leb (planned_count s ch) s.t) refl refl (sym e ∙ h);
      always = λ g h. e ∙ ap₂ (λ (a b : Bool). cond a (cond b m 5) 4) g (lt-leb (planned_count s ch) s.t h);
      count = λ h. k ∙ count-five r.number (planned_count s ch) h;
    }
  where
    go : (a b : Bool) → grinding_ok s ch ≡ a → leb (planned_count s ch) s.t ≡ b → cond a (cond b m 5) 4 ≡ 5 → (grinding_ok s ch ≡ true) × (s.t < planned_count s ch)
    go false b p q h = absurd (omega arith)
    go true true p q h = absurd (true≢false (sym (eq-eqb m 5 h) ∙ ne))
    go true false p q h = (p, leb-false (planned_count s ch) s.t q)

open-five : (s : Shape) (ch tree lcs opening opening' : List ℕ) (r : Answer) → Open s ch tree lcs opening opening' r
    → shape_ok (resolved s) ≡ true → Sized (open_lengths (resolved s) ch tree lcs opening) → Five (resolved s) ch r
unfolding plan_number nodes_ok
open-five s ch tree lcs opening opening' r o sh z =
    five-of (resolved s) ch r 0 refl (o.number ∙ rw (sh, sized-fits (open_lengths (resolved s) ch tree lcs opening) z) refl) o.count

check-five : (P : Primitives) (s : Shape) (n : ℕ) (z : Stretch) (iv ch corrections opening : List ℕ) (x x' : Reconstructed) (r : Answer) → ReconstructStretch P s n z iv ch corrections opening x x' r
    → shape_ok (resolved s) ≡ true → row_ok n ≡ true → stretch_ok (n / 8) z ≡ true → Sized (reconstruct_lengths (resolved s) z.width iv ch corrections opening x) → Five (resolved s) ch r
unfolding reconstruct_stretch_number nodes_ok
check-five P s n z iv ch corrections opening x x' r o sh ro st l =
    five-of (resolved s) ch r (cond (slots_ok (resolved s) ch opening) 0 6) (no-five (slots_ok (resolved s) ch opening))
    (o.number ∙ rw (sh, ro, st, sized-fits (reconstruct_lengths (resolved s) z.width iv ch corrections opening x) l) refl) o.count
  where
    no-five : (b : Bool) → eqb (cond b 0 6) 5 ≡ false
    no-five true = refl
    no-five false = refl

-- ---- the three calls after one another

open-zero : (s : Shape) (ch tree lcs opening : List ℕ) → shape_ok s ≡ true → Sized (open_lengths s ch tree lcs opening) → grinding_ok s ch ≡ true → planned_count s ch ≤ s.t
    → plan_number s ch (open_lengths s ch tree lcs opening) ≡ 0
unfolding plan_number nodes_ok
open-zero s ch tree lcs opening a b c d = rw (a, sized-fits (open_lengths s ch tree lcs opening) b, c, le-leb (planned_count s ch) s.t d) refl

check-zero : (s : Shape) (n : ℕ) (z : Stretch) (ch opening : List ℕ) (lengths : List (ℕ × ℕ)) → shape_ok s ≡ true → row_ok n ≡ true → stretch_ok (n / 8) z ≡ true
    → Sized lengths → grinding_ok s ch ≡ true → planned_count s ch ≤ s.t → slots_ok s ch opening ≡ true → reconstruct_stretch_number s n z ch opening lengths ≡ 0
unfolding reconstruct_stretch_number nodes_ok
check-zero s n z ch opening lengths a b k c d e g = rw (a, b, k, sized-fits lengths c, d, le-leb (planned_count s ch) s.t e, g) refl

count-zero : (m n : ℕ) → m ≡ 0 → count_with m n ≡ n
unfolding count_with
count-zero m n e = rw e refl

module _ (P : Primitives) where
  -- with the resolved shape s and the signer's bytes written out
  told : (s : Shape) (n : ℕ) (z : Stretch) (root iv ch opening opening' : List ℕ) (signer : Committed) (verifier verifier' : Reconstructed) (opened checked : Answer)
      → shape_ok s ≡ true → row_ok n ≡ true → stretch_ok (n / 8) z ≡ true → Sized (commit_lengths s z.width root iv signer)
      → opened.number ≡ plan_number s ch (open_lengths s ch (committed P s z root iv).tree (committed P s z root iv).leaf_commitments opening)
      → opened.count ≡ count_with opened.number (planned_count s ch)
      → opening' ≡ written opened.number (opening_of s ch (committed P s z root iv).tree (committed P s z root iv).leaf_commitments) opening
      → checked.number ≡ reconstruct_stretch_number s n z ch opening' (reconstruct_lengths s z.width iv ch (committed P s z root iv).corrections opening' verifier)
      → checked.count ≡ count_with checked.number (planned_count s ch)
      → verifier' ≡ written checked.number (reconstructed P s z iv ch (committed P s z root iv).corrections opening') verifier
      → Sized ((length ch, challenge_bytes s) ∷ (length opening, opening_bytes s) ∷ (length verifier.commitment, hash_bytes s)
      ∷ (length verifier.tree, tree_bytes s) ∷ (length verifier.leaf_commitments, leaf_commitments_bytes s) ∷ (length verifier.q, matrix_bytes s z.width) ∷ [])
      → grinding_ok s ch ≡ true → planned_count s ch ≤ s.t
      → Accepted s z.width ch (committed P s z root iv) opening' verifier' opened checked
  unfolding committed reconstructed
  told s n z root iv ch opening opening' signer verifier verifier' opened checked sh ro st cl on oc ob cn cc₂ cb l g t =
      let f = shape-laws s sh in
      let b = z.width in
      let root-long = cl.0 in
      let tree = signer_tree P s root iv in
      let lcs = leaf_commitments s (signer_leaf_commitment P s iv (signer_tree P s root iv)) in
      let row = stretch_byte P s z iv tree in
      let cs = corrections s b row in
      let tl = tree-length P s f root iv root-long in
      let ml = signer-commitments-length P s f root iv root-long in
      let o0 : opened.number ≡ 0 = on ∙ open-zero s ch tree lcs opening sh (l.0, (tl, (ml, (l.1.0, tt)))) g t in
      let oo : opening' ≡ opening_of s ch tree lcs = ob ∙ written-zero opened.number (opening_of s ch tree lcs) opening o0 in
      let ol = opening-length s f ch tree lcs tl ml t in
      let c0 : checked.number ≡ 0 =
      cn ∙ check-zero s n z ch opening' (reconstruct_lengths s b iv ch cs opening' verifier) sh ro st
      (cl.1.0, (l.0, (corrections-length s b row, (ap length oo ∙ ol, (l.1.1.0, (l.1.1.1.0, (l.1.1.1.1.0, (l.1.1.1.1.1.0, tt)))))))) g t
      (ap (slots_ok s ch) oo ∙ opening-rest s f ch tree lcs tl ml) in
      let cc₃ : verifier' ≡ reconstructed P s z iv ch cs (opening_of s ch tree lcs) =
      cb ∙ written-zero checked.number (reconstructed P s z iv ch cs opening') verifier c0 ∙ ap (reconstructed P s z iv ch cs) oo in
      subst (λ (x : Reconstructed). Accepted s b ch (committed P s z root iv) opening' x opened checked) (sym cc₃)
      record {
        open-number = o0;
        open-count = oc ∙ count-zero opened.number (planned_count s ch) o0;
        open-bytes = oo;
        check-number = c0;
        check-count = cc₂ ∙ count-zero checked.number (planned_count s ch) c0;
        commitment = commitment-same P s f root iv root-long ch;
        leaf_commitments = leaf-commitments-same P s f root iv root-long ch;
        nodes = node-same P s f root iv root-long ch;
        hidden = node-zero P s f root iv root-long ch;
        columns = column-rule s f ch b row (stretch_byte P s z iv (reconstructed_tree P s iv ch (opening_of s ch tree lcs))) (row_same P s f root iv root-long ch z) g;
      }

  accepted-stretch :
      (s : Shape) (n : ℕ) (z : Stretch) (root iv ch opening opening' : List ℕ) (signer signer' : Committed) (verifier verifier' : Reconstructed) (made opened checked : Answer)
      → CommitStretch P s n z root iv signer signer' made → made.number ≡ 0 → Open s ch signer'.tree signer'.leaf_commitments opening opening' opened
      → ReconstructStretch P s n z iv ch signer'.corrections opening' verifier verifier' checked
      → Sized ((length ch, challenge_bytes (resolved s)) ∷ (length opening, opening_bytes (resolved s)) ∷ (length verifier.commitment, hash_bytes (resolved s))
      ∷ (length verifier.tree, tree_bytes (resolved s)) ∷ (length verifier.leaf_commitments, leaf_commitments_bytes (resolved s)) ∷ (length verifier.q, matrix_bytes (resolved s) z.width) ∷ [])
      → grinding_ok (resolved s) ch ≡ true → planned_count (resolved s) ch ≤ (resolved s).t
      → Accepted (resolved s) z.width ch signer' opening' verifier' opened checked
  unfolding commit_stretch_number
  accepted-stretch s n z root iv ch opening opening' signer signer' verifier verifier' made opened checked c m o r l g t =
      let lengths = commit_lengths (resolved s) z.width root iv signer in
      let q =
      none-failed ((shape_ok (resolved s), 1) ∷ (row_ok n, 2) ∷ (stretch_ok (n / 8) z, 8) ∷ (fits lengths, 3) ∷ []) (refl, (refl, (refl, (refl, tt)))) (sym c.number ∙ m) in
      let e : signer' ≡ committed P (resolved s) z root iv = c.buffers ∙ written-zero made.number (committed P (resolved s) z root iv) signer m in
      subst (λ (x : Committed). Open s ch x.tree x.leaf_commitments opening opening' opened → ReconstructStretch P s n z iv ch x.corrections opening' verifier verifier' checked
      → Accepted (resolved s) z.width ch x opening' verifier' opened checked) (sym e)
      (λ o r.
      told (resolved s) n z root iv ch opening opening' signer verifier verifier' opened checked q.0 q.1.0 q.1.1.0 (fits-sized lengths q.1.1.1.0) o.number o.count o.opening r.number
      r.count r.buffers l g t) o r

  pub demand3 : Demand3 P
  demand3 =
      record {
        accepted = λ s n root iv ch opening opening' signer signer' verifier verifier' made opened checked c m o r l g t.
            accepted-stretch s n (whole_row n) root iv ch opening opening' signer signer' verifier verifier' made opened checked (whole-commit P s n root iv signer signer' made c) m o
            (whole-reconstruct P s n iv ch signer'.corrections opening' verifier verifier' checked r) l g t;
        accepted-stretch = accepted-stretch;
        open-five = open-five;
        check-five = λ s n iv ch corrections opening x x' r o sh ro l.
            check-five P s n (whole_row n) iv ch corrections opening x x' r (whole-reconstruct P s n iv ch corrections opening x x' r o) sh ro (whole-ok n ro) l;
        check-five-stretch = check-five P;
      }

-- ---- what an opening depends on

open-number-same : (s : Shape) (ch tree lcs before tree₂ lcs₂ before₂ : List ℕ) → length tree ≡ length tree₂ → length lcs ≡ length lcs₂ → length before ≡ length before₂
    → plan_number s ch (open_lengths s ch tree lcs before) ≡ plan_number s ch (open_lengths s ch tree₂ lcs₂ before₂)
unfolding plan_number nodes_ok
open-number-same s ch tree lcs before tree₂ lcs₂ before₂ a b c = rw (a, b, c) refl

pub opening-depends : OpeningDepends
opening-depends =
    record {
      alike = λ s ch tree lcs before after tree₂ lcs₂ before₂ after₂ r r₂ o o₂ a b c.
          let e : r.number ≡ r₂.number = o.number ∙ open-number-same (resolved s) ch tree lcs before tree₂ lcs₂ before₂ a b c ∙ sym o₂.number in
          record {
            number = e;
            count = o.count ∙ ap (λ (m : ℕ). count_with m (planned_count (resolved s) ch)) e ∙ sym o₂.count;
            bytes = λ z f g.
                o.opening ∙ written-zero r.number (opening_of (resolved s) ch tree lcs) before z
                ∙ opening-same (resolved s) ch tree tree₂ lcs lcs₂ f g
                ∙ sym (o₂.opening ∙ written-zero r₂.number (opening_of (resolved s) ch tree₂ lcs₂) before₂ (sym e ∙ z));
          };
    }
