-- Demand 3 of version 1, that no call is refused for nodes or grinding, and what an opening depends on. The tests of open and reconstruct pass because the buffers that commit and open wrote have the right lengths; what they write is then that of `Version1Trees` and `Version1Leaves`.
use Prim.Native.Nat.{ℕ, ◌+◌, ◌/◌, ◌≤◌, ◌<◌}
use mathlib.Core.Path.{◌≡◌, refl, sym, ap, ap₂, ◌∙◌, subst}
use mathlib.Core.Bool.{Bool, true, false, ◌&&◌}
use mathlib.Core.List.{List, [], ◌∷◌, ◌++◌}
use native.Mathlib.Omega.{arith}
use lib.Dec.{eqb}
use lib.ListN.{length, get_or}
use borrow.Author.Tests.{eqb-true}
use Rattle.spec.specs.declared.Shape.{Shape}
use Rattle.spec.specs.declared.Answer.{Answer}
use Rattle.spec.specs.Bytes.{tabulate, all_zero}
use Rattle.spec.specs.Challenge.{bits_at, clear_at}
use Rattle.spec.specs.Shapes.{ordinary, challenge_bytes, hash_bytes, depth_of, shape_ok, first_bit, hidden_index, grinding_ok, matrix_bytes}
use Rattle.spec.specs.Sponge.{sponge, shake}
use Rattle.spec.specs.Hashes.{hash0}
use Rattle.spec.specs.Primitives.{Primitives, faest}
use Rattle.spec.specs.Leaves.{node_at, leaf_commitments}
use Rattle.spec.specs.Signer.{corrections}
use Rattle.spec.specs.Calls.{first_refusal, fits, row_ok, Committed, Reconstructed}
use Rattle.spec.specs.Version1.{shape1_ok, faest1, signer_trees, first_node, signer_leaf_commitment1, row1_byte, siblings, leaf_commitment_at1, decommitment, opening1_of, reconstructed_trees, trees1_bytes, leaf_commitments1_bytes, opening1_bytes}
use Rattle.spec.specs.Version1Calls.{row1_number, open1_number, committed1, commit1_lengths, open1_lengths, Open1, reconstructed1, reconstruct1_lengths, Reconstruct1}
use Rattle.laws.specs.Lengths.{Sized}
use Rattle.laws.proofs.Lists.{length-tabulate}
use Rattle.laws.proofs.Concat.{concat-same}
use Rattle.laws.proofs.Lengths.{sized-fits, fits-sized}
use Rattle.laws.proofs.Refusals.{none-failed}
use Rattle.laws.proofs.Calls.{written-zero}
use Rattle.laws.proofs.Conjunctions.{both_true}
use Rattle.planning_laws.proofs.ShapeFacts.{shape-facts}
use Rattle.planning_laws.proofs.ShapeLaws.{shape-laws}
use Rattle.theorems.specs.Version1Demands.{Accepted1, WholeHash, Version1Demand3, NeverRefused, Version1NeverRefused, Version1OpeningDepends}
use Rattle.theorems.proofs.ColumnRule.{corrections-length, column-rule}
use Rattle.theorems.proofs.Version1Opening.{opening1-length}
use Rattle.theorems.proofs.Version1Trees.{trees-long, nodes-again, nodes-hidden}
use Rattle.theorems.proofs.Version1Leaves.{lcs-long, commitments-same, hash-same, row_same}

-- no grinding bits
no-grinding : (s : Shape) (ch : List ℕ) → s.w ≡ 0 → grinding_ok s ch ≡ true
unfolding tabulate all_zero bits_at clear_at grinding_ok
no-grinding s ch e = ap (λ (w : ℕ). clear_at ch (first_bit s s.tau) w) e

shape-parts : (s : Shape) → shape1_ok s ≡ true → (shape_ok s ≡ true) × (s.w ≡ 0)
unfolding shape1_ok
shape-parts s h =
    let a = both_true (shape_ok s && eqb s.w 0 && eqb s.t 1) (ordinary s) h in
    let b = both_true (shape_ok s && eqb s.w 0) (eqb s.t 1) a.0 in
    let c = both_true (shape_ok s) (eqb s.w 0) b.0 in
    (c.0, eqb-true s.w 0 c.1)

open-zero : (s : Shape) (lengths : List (ℕ × ℕ)) → shape1_ok s ≡ true → Sized lengths → open1_number s lengths ≡ 0
unfolding open1_number
open-zero s lengths a b = rw (a, sized-fits lengths b) refl

row_zero : (s : Shape) (n : ℕ) (lengths : List (ℕ × ℕ)) → shape1_ok s ≡ true → row_ok n ≡ true → Sized lengths → row1_number s n lengths ≡ 0
unfolding row1_number
row_zero s n lengths a r b = rw (a, r, sized-fits lengths b) refl

module _ (P : Primitives) (whole : WholeHash P) where
  told : (s : Shape) (n : ℕ) (root iv ch opening opening' : List ℕ) (signer : Committed) (verifier verifier' : Reconstructed) (opened checked : Answer)
      → shape1_ok s ≡ true → row_ok n ≡ true → Sized (commit1_lengths s (n / 8) root iv signer)
      → Open1 s ch (committed1 P s (n / 8) root iv).tree (committed1 P s (n / 8) root iv).leaf_commitments opening opening' opened
      → Reconstruct1 P s n iv ch (committed1 P s (n / 8) root iv).corrections opening' verifier verifier' checked
      → Sized ((length ch, challenge_bytes s) ∷ (length opening, opening1_bytes s) ∷ (length verifier.commitment, hash_bytes s)
      ∷ (length verifier.tree, trees1_bytes s) ∷ (length verifier.leaf_commitments, leaf_commitments1_bytes s) ∷ (length verifier.q, matrix_bytes s (n / 8)) ∷ [])
      → Accepted1 s (n / 8) ch (committed1 P s (n / 8) root iv) opening' verifier' opened checked
  unfolding committed1 reconstructed1
  told s n root iv ch opening opening' signer verifier verifier' opened checked sh ro cl o r l =
      let ok = shape-parts s sh in
      let f = shape-facts s ok.0 in
      let b = n / 8 in
      let trees = signer_trees P s root iv in
      let lcs = leaf_commitments s (signer_leaf_commitment1 P s iv (signer_trees P s root iv)) in
      let row = row1_byte P s iv trees in
      let cs = corrections s b row in
      let ll = lcs-long P whole s f root iv ch in
      let tl = trees-long P s f root iv ch lcs ll in
      let op = opening1_of s ch trees lcs in
      let o0 : opened.number ≡ 0 = o.number ∙ open-zero s (open1_lengths s ch trees lcs opening) sh (l.0, (tl, (ll, (l.1.0, tt)))) in
      let oo : opening' ≡ op = o.opening ∙ written-zero opened.number op opening o0 in
      let ol = opening1-length s f ch trees lcs tl ll ok.1 in
      let c0 : checked.number ≡ 0 =
      r.number ∙ row_zero s n (reconstruct1_lengths s b iv ch cs opening' verifier) sh ro
      (cl.1.0, (l.0, (corrections-length s b row, (ap length oo ∙ ol, (l.1.1.0, (l.1.1.1.0, (l.1.1.1.1.0, (l.1.1.1.1.1.0, tt)))))))) in
      let same : verifier' ≡ reconstructed1 P s b iv ch cs op =
      r.buffers ∙ written-zero checked.number (reconstructed1 P s b iv ch cs opening') verifier c0 ∙ ap (reconstructed1 P s b iv ch cs) oo in
      subst (λ (x : Reconstructed). Accepted1 s b ch (committed1 P s b root iv) opening' x opened checked) (sym same)
      record {
        open-number = o0;
        open-count = o.count;
        open-bytes = oo;
        check-number = c0;
        check-count = r.count;
        commitment = hash-same P whole s f root iv ch;
        leaf_commitments = commitments-same P whole s f root iv ch;
        nodes = nodes-again P s f root iv ch lcs ll;
        hidden = nodes-hidden P s f root iv ch lcs ll;
        columns = column-rule s (shape-laws s ok.0) ch b row (row1_byte P s iv (reconstructed_trees P s iv ch op)) (row_same P whole s f root iv ch) (no-grinding s ch ok.1);
      }

pub version1-demand3 : (P : Primitives) → Version1Demand3 P
unfolding row1_number
version1-demand3 P =
    record {
      accepted = λ whole s n root iv ch opening opening' signer signer' verifier verifier' made opened checked c m o r l.
          let lengths = commit1_lengths s (n / 8) root iv signer in
          let q = none-failed ((shape1_ok s, 1) ∷ (row_ok n, 2) ∷ (fits lengths, 3) ∷ []) (refl, (refl, (refl, tt))) (sym c.number ∙ m) in
          let e : signer' ≡ committed1 P s (n / 8) root iv = c.buffers ∙ written-zero made.number (committed1 P s (n / 8) root iv) signer m in
          subst (λ (x : Committed). Open1 s ch x.tree x.leaf_commitments opening opening' opened → Reconstruct1 P s n iv ch x.corrections opening' verifier verifier' checked → Accepted1 s (n / 8) ch x opening' verifier' opened checked) (sym e)
          (λ o r. told P whole s n root iv ch opening opening' signer verifier verifier' opened checked q.0 q.1.0 (fits-sized lengths q.1.1.0) o r l) o r;
    }

-- that of version 1 gives what it is asked for
pub whole-hash : WholeHash faest1
unfolding faest hash0 shake sponge faest1
whole-hash s m n = length-tabulate n _

-- ---- no call has another number than 0 to 3

few : (a b c : Bool) → first_refusal ((a, 1) ∷ (b, 2) ∷ (c, 3) ∷ []) ≤ 3
few false b c = omega arith
few true false c = omega arith
few true true false = omega arith
few true true true = omega arith

never : (r : Answer) → r.number ≤ 3 → NeverRefused r
never r h = record { grinding = λ e. omega arith; nodes = λ e. omega arith; slots = λ e. omega arith }

pub version1-never-refused : (P : Primitives) → Version1NeverRefused P
unfolding row1_number open1_number
version1-never-refused P =
    record {
      opened = λ s ch trees lcs before after r o. never r (rw o.number (few (shape1_ok s) true (fits (open1_lengths s ch trees lcs before))));
      checked = λ s n iv ch corrections opening before after r o. never r (rw o.number (few (shape1_ok s) (row_ok n) (fits (reconstruct1_lengths s (n / 8) iv ch corrections opening before))));
    }

-- ---- what an opening depends on

open-number-same : (s : Shape) (ch trees lcs before trees₂ lcs₂ before₂ : List ℕ) → length trees ≡ length trees₂ → length lcs ≡ length lcs₂ → length before ≡ length before₂
    → open1_number s (open1_lengths s ch trees lcs before) ≡ open1_number s (open1_lengths s ch trees₂ lcs₂ before₂)
unfolding open1_number
open-number-same s ch trees lcs before trees₂ lcs₂ before₂ a b c = rw (a, b, c) refl

opening-same : (s : Shape) (ch trees trees₂ lcs lcs₂ : List ℕ)
    → ((i l : ℕ) → i < s.tau → l < depth_of s i → node_at s trees (first_node s i + get_or (siblings s ch i) l 0) ≡ node_at s trees₂ (first_node s i + get_or (siblings s ch i) l 0))
    → ((i : ℕ) → i < s.tau → leaf_commitment_at1 s lcs i (hidden_index s ch i) ≡ leaf_commitment_at1 s lcs₂ i (hidden_index s ch i))
    → opening1_of s ch trees lcs ≡ opening1_of s ch trees₂ lcs₂
unfolding decommitment opening1_of
opening-same s ch trees trees₂ lcs lcs₂ f g =
    concat-same (decommitment s ch trees lcs) (decommitment s ch trees₂ lcs₂) s.tau
    (λ i h. ap₂ (λ (x y : List ℕ). x ++ y)
    (concat-same (λ l. node_at s trees (first_node s i + get_or (siblings s ch i) l 0)) (λ l. node_at s trees₂ (first_node s i + get_or (siblings s ch i) l 0)) (depth_of s i) (λ l k. f i l h k))
    (g i h))

pub version1-opening-depends : Version1OpeningDepends
version1-opening-depends =
    record {
      alike = λ s ch trees lcs before after trees₂ lcs₂ before₂ after₂ r r₂ o o₂ a b c.
          let e : r.number ≡ r₂.number = o.number ∙ open-number-same s ch trees lcs before trees₂ lcs₂ before₂ a b c ∙ sym o₂.number in
          record {
            number = e;
            count = o.count ∙ sym o₂.count;
            bytes = λ z f g.
                o.opening ∙ written-zero r.number (opening1_of s ch trees lcs) before z
                ∙ opening-same s ch trees trees₂ lcs lcs₂ f g
                ∙ sym (o₂.opening ∙ written-zero r₂.number (opening1_of s ch trees₂ lcs₂) before₂ (sym e ∙ z));
          };
    }
