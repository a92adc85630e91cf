-- The record that is the contract of commit_stretch, refused and written; and what commit writes, buffer by buffer. s is the shape as given and t the resolved one, x what
-- the buffers held, r the answer.
use Prim.Native.Nat.{ℕ}
use mathlib.Core.Path.{◌≡◌, refl, sym, ap, ◌∙◌}
use mathlib.Core.List.{List}
use borrow.Author.Tests.{ne_eqb}
use Rattle.spec.specs.declared.Shape.{Shape}
use Rattle.spec.specs.declared.Stretch.{Stretch}
use Rattle.spec.specs.declared.Answer.{Answer}
use Rattle.spec.specs.Shapes.{resolved}
use Rattle.spec.specs.Primitives.{faest}
use Rattle.spec.specs.Leaves.{leaf_commitments, commitment_of}
use Rattle.spec.specs.Rows.{stretch_byte, matrix_of}
use Rattle.spec.specs.Signer.{signer_tree, signer_leaf_commitment, signer_u, signer_column, corrections}
use Rattle.spec.specs.Calls.{Committed, committed, commit_lengths, commit_stretch_number, CommitStretch}

module _ (s t : Shape) (e : t ≡ resolved s) (n : ℕ) (z : Stretch) (root iv : List ℕ) (x : Committed) (r : Answer) where
  module _ (d : r.number ≡ commit_stretch_number t n z (commit_lengths t z.width root iv x)) (c : r.count ≡ 0) where
    pub refused : (r.number ≡ 0 → ⊥) → CommitStretch faest s n z root iv x x r
    refused h = record { number = rw e at d; count = c; buffers = rw (ne_eqb r.number 0 h) refl }

    pub written : (y : Committed) → r.number ≡ 0 → y ≡ committed faest t z root iv → CommitStretch faest s n z root iv x y r
    written y h w = record { number = rw e at d; count = c; buffers = rw h (rw e at w) }

-- ---- what is written

module _ (s : Shape) (z : Stretch) (root iv : List ℕ) where
  abbrev Row : List ℕ → ℕ → ℕ → ℕ → ℕ
  Row tree = stretch_byte faest s z iv tree

  -- the buffers of a tree
  from : List ℕ → Committed
  from tree =
      record {
        commitment = commitment_of faest s (signer_leaf_commitment faest s iv tree);
        tree = tree;
        leaf_commitments = leaf_commitments s (signer_leaf_commitment faest s iv tree);
        u = signer_u s z.width (Row tree);
        v = matrix_of s z.width (signer_column s z.width (Row tree));
        corrections = corrections s z.width (Row tree);
      }

  pub commit-writes : (c tree l u v k : List ℕ) → tree ≡ signer_tree faest s root iv → c ≡ commitment_of faest s (signer_leaf_commitment faest s iv tree)
      → l ≡ leaf_commitments s (signer_leaf_commitment faest s iv tree) → u ≡ signer_u s z.width (Row tree) → v ≡ matrix_of s z.width (signer_column s z.width (Row tree)) → k ≡ corrections s z.width (Row tree)
      → ◌≡◌ {A = Committed} (record { commitment = c; tree = tree; leaf_commitments = l; u = u; v = v; corrections = k }) (committed faest s z root iv)
  unfolding committed from
  commit-writes c tree l u v k et ec el eu ev ek = rw (ec, el, eu, ev, ek) (ap from et)
