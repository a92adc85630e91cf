-- What follows from a call's contract alone. A call of the whole row is the call of the stretch 0, b: a row that is allowed has a byte at least, so that the stretch
-- is allowed.
use Prim.Native.Nat.{ℕ, ◌+◌, ◌%◌, ◌/◌, ◌≤◌}
use mathlib.Core.Path.{◌≡◌, refl, sym, ap₂, ◌∙◌}
use mathlib.Core.Bool.{Bool, true, false, ◌&&◌}
use mathlib.Core.List.{List, [], ◌∷◌}
use native.Mathlib.Omega.{arith}
use lib.Dec.{leb, eqb}
use borrow.Author.Tests.{le-leb, leb-true}
use Rattle.spec.specs.declared.Shape.{Shape}
use Rattle.spec.specs.declared.Stretch.{Stretch}
use Rattle.spec.specs.declared.Answer.{Answer}
use Rattle.spec.specs.Shapes.{resolved, shape_ok, grinding_ok}
use Rattle.spec.specs.Primitives.{Primitives}
use Rattle.spec.specs.Verifier.{slots_ok}
use Rattle.spec.specs.Calls.{first_refusal, fits, written, row_ok, whole_row, stretch_ok, nodes_ok, Committed, commit_lengths, commit_number, commit_stretch_number, Commit, CommitStretch, Reconstructed, reconstruct_lengths, reconstruct_number, reconstruct_stretch_number, Reconstruct, ReconstructStretch}
use Rattle.laws.proofs.Conjunctions.{both_true}

-- what a call that answers 0 writes
pub written-zero : {A : Type 0} (m : ℕ) (new old : A) → m ≡ 0 → written m new old ≡ new
written-zero m new old e = rw e refl

-- ---- stretches

pub stretch-within : (b : ℕ) (z : Stretch) → stretch_ok b z ≡ true → z.first + z.width ≤ b
unfolding stretch_ok
stretch-within b z h = leb-true (z.first + z.width) b (both_true (leb 1 z.width) (leb (z.first + z.width) b) h).1

pub whole-ok : (n : ℕ) → row_ok n ≡ true → stretch_ok (n / 8) (whole_row n) ≡ true
unfolding row_ok stretch_ok
whole-ok n h =
    let least : 8 ≤ n = leb-true 8 n (both_true (leb 8 n) (leb n 65536) (both_true (eqb (n % 8) 0) (leb 8 n && leb n 65536) h).1).0 in
    ap₂ ◌&&◌ (le-leb 1 (n / 8) (omega arith)) (le-leb (0 + n / 8) (n / 8) (omega arith))

-- a test that passes where the one before it passes can be left out
left_out : (a b c : Bool) (ts : List (Bool × ℕ)) → (b ≡ true → c ≡ true) → first_refusal ((a, 1) ∷ (b, 2) ∷ (c, 8) ∷ ts) ≡ first_refusal ((a, 1) ∷ (b, 2) ∷ ts)
left_out false b c ts h = refl
left_out true false c ts h = refl
left_out true true c ts h = rw (h refl) refl

commit-number : (s : Shape) (n : ℕ) (lengths : List (ℕ × ℕ)) → commit_stretch_number s n (whole_row n) lengths ≡ commit_number s n lengths
unfolding commit_stretch_number commit_number
commit-number s n lengths = left_out (shape_ok s) (row_ok n) (stretch_ok (n / 8) (whole_row n)) ((fits lengths, 3) ∷ []) (whole-ok n)

reconstruct-number : (s : Shape) (n : ℕ) (ch opening : List ℕ) (lengths : List (ℕ × ℕ))
    → reconstruct_stretch_number s n (whole_row n) ch opening lengths ≡ reconstruct_number s n ch opening lengths
unfolding reconstruct_stretch_number reconstruct_number
reconstruct-number s n ch opening lengths =
    left_out (shape_ok s) (row_ok n) (stretch_ok (n / 8) (whole_row n)) ((fits lengths, 3) ∷ (grinding_ok s ch, 4) ∷ (nodes_ok s ch, 5) ∷ (slots_ok s ch opening, 6) ∷ []) (whole-ok n)

module _ (P : Primitives) (s : Shape) (n : ℕ) where
  module _ (root iv : List ℕ) (x x' : Committed) (r : Answer) where
    same : commit_stretch_number (resolved s) n (whole_row n) (commit_lengths (resolved s) (n / 8) root iv x) ≡ commit_number (resolved s) n (commit_lengths (resolved s) (n / 8) root iv x)
    same = commit-number (resolved s) n (commit_lengths (resolved s) (n / 8) root iv x)

    pub commit-whole : CommitStretch P s n (whole_row n) root iv x x' r → Commit P s n root iv x x' r
    commit-whole c = record { number = c.number ∙ same; count = c.count; buffers = c.buffers }

    pub whole-commit : Commit P s n root iv x x' r → CommitStretch P s n (whole_row n) root iv x x' r
    whole-commit c = record { number = c.number ∙ sym same; count = c.count; buffers = c.buffers }

  module _ (iv ch corrections opening : List ℕ) (x x' : Reconstructed) (r : Answer) where
    same_check : reconstruct_stretch_number (resolved s) n (whole_row n) ch opening (reconstruct_lengths (resolved s) (n / 8) iv ch corrections opening x)
        ≡ reconstruct_number (resolved s) n ch opening (reconstruct_lengths (resolved s) (n / 8) iv ch corrections opening x)
    same_check = reconstruct-number (resolved s) n ch opening (reconstruct_lengths (resolved s) (n / 8) iv ch corrections opening x)

    pub reconstruct-whole : ReconstructStretch P s n (whole_row n) iv ch corrections opening x x' r → Reconstruct P s n iv ch corrections opening x x' r
    reconstruct-whole c = record { number = c.number ∙ same_check; count = c.count; buffers = c.buffers }

    pub whole-reconstruct : Reconstruct P s n iv ch corrections opening x x' r → ReconstructStretch P s n (whole_row n) iv ch corrections opening x x' r
    whole-reconstruct c = record { number = c.number ∙ sym same_check; count = c.count; buffers = c.buffers }
