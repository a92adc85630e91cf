-- The trees of the first i vectors stand, one behind another.
use Prim.Native.Nat.{◌-◌, ◌*◌, ◌≤◌}
use mathlib.Core.Path.{◌≡◌}
use lib.ListN.{length, take}
use Rattle.spec.specs.Bytes.{concat}
use Rattle.spec.specs.Version1.{faest1, first_node, reconstructed_vector_tree}
use Rattle.verifier_forest.proofs.reconstruct_trees.Given as goal

abbrev pub invariant-loop-i : goal.invariant-loop-i
invariant-loop-i l =
    (l.i ≤ l.tau) × (length l.trees ≡ length l.initial.trees) × (take (l.w * first_node l.s l.i) l.trees ≡ concat l.i (reconstructed_vector_tree faest1 l.s l.iv l.ch l.opening))

abbrev pub decreases-loop-i : goal.decreases-loop-i
decreases-loop-i l = l.tau - l.i
