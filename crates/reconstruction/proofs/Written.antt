-- What reconstruct writes, buffer by buffer: all of them follow from the tree.
use Prim.Native.Nat.{ℕ}
use mathlib.Core.Path.{◌≡◌, ap}
use mathlib.Core.List.{List}
use Rattle.spec.specs.declared.Shape.{Shape}
use Rattle.spec.specs.declared.Stretch.{Stretch}
use Rattle.spec.specs.Primitives.{faest}
use Rattle.spec.specs.Leaves.{leaf_commitments, commitment_of}
use Rattle.spec.specs.Rows.{stretch_byte, matrix_of}
use Rattle.spec.specs.Verifier.{reconstructed_tree, verifier_leaf_commitment, verifier_column}
use Rattle.spec.specs.Calls.{Reconstructed, reconstructed}

module _ (s : Shape) (z : Stretch) (iv ch cs op : List ℕ) where
  abbrev Q : List ℕ → List ℕ
  Q tree = matrix_of s z.width (verifier_column s z.width (stretch_byte faest s z iv tree) ch cs)

  -- the buffers of a tree
  from : List ℕ → Reconstructed
  from tree =
      record {
        commitment = commitment_of faest s (verifier_leaf_commitment faest s iv ch op tree);
        tree = tree;
        leaf_commitments = leaf_commitments s (verifier_leaf_commitment faest s iv ch op tree);
        q = Q tree;
      }

  pub reconstruct-writes : (c tree l q : List ℕ) → tree ≡ reconstructed_tree faest s iv ch op → c ≡ commitment_of faest s (verifier_leaf_commitment faest s iv ch op tree)
      → l ≡ leaf_commitments s (verifier_leaf_commitment faest s iv ch op tree) → q ≡ Q tree
      → ◌≡◌ {A = Reconstructed} (record { commitment = c; tree = tree; leaf_commitments = l; q = q }) (reconstructed faest s z iv ch cs op)
  unfolding reconstructed from
  reconstruct-writes c tree l q et ec el eq = rw (ec, el, eq) (ap from et)
