-- After i turns the trees of the first i vectors stand, one behind another.
use mathlib.Core.Path.{◌≡◌}
use mathlib.Core.List.{List}
use Prim.Native.Nat.{ℕ, ◌-◌, ◌*◌, ◌≤◌}
use lib.ListN.{length, take}
use Rattle.spec.specs.declared.Shape.{Shape}
use Rattle.spec.specs.Bytes.{part, concat}
use Rattle.spec.specs.Tree.{expand_tree}
use Rattle.spec.specs.Shapes.{node_bytes, entries_of}
use Rattle.spec.specs.Version1.{faest1, children1, first_node, trees1_bytes}
use Rattle.signer_forest.proofs.grow_each.Given as goal

abbrev pub tree : Shape → List ℕ → List ℕ → ℕ → List ℕ
tree s roots iv i = expand_tree (node_bytes s) (part roots (node_bytes s * i) (node_bytes s)) (children1 faest1 s iv) (entries_of s i - 1)

abbrev pub invariant-loop-i : goal.invariant-loop-i
invariant-loop-i l = (l.i ≤ l.tau) × (length l.trees ≡ trees1_bytes l.s) × (take (node_bytes l.s * first_node l.s l.i) l.trees ≡ concat l.i (tree l.s l.roots l.iv))

abbrev pub decreases-loop-i : goal.decreases-loop-i
decreases-loop-i l = l.tau - l.i
