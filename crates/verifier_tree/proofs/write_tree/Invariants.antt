-- Once a nodes have their children, the first 2 a + 1 nodes stand, and as many slots are read as these a nodes reveal.
use mathlib.Core.Path.{◌≡◌}
use mathlib.Core.Bool.{true}
use Prim.Native.Nat.{◌+◌, ◌-◌, ◌*◌, ◌≤◌}
use lib.ListN.{length, take}
use Rattle.spec.specs.declared.Shape.{Shape}
use Rattle.spec.specs.Bytes.{zeros}
use Rattle.spec.specs.Tree.{expand_tree}
use Rattle.spec.specs.Shapes.{node_bytes, shape_ok}
use Rattle.verifier_tree.specs.ByNodes.{Before, children_by}
use Rattle.verifier_tree.proofs.write_tree.Given as goal

abbrev pub invariant-loop-a : goal.invariant-loop-a
invariant-loop-a l =
    (l.a ≤ l.l - 1)
    × (length l.tree ≡ l.w * (2 * l.l - 1))
    × Before l.nodes l.a l.p
    × ((s : Shape) → shape_ok s ≡ true → l.w ≡ node_bytes s → take (l.w * (2 * l.a + 1)) l.tree ≡ expand_tree l.w (zeros l.w) (children_by l.w l.nodes l.slots l.n s l.iv) l.a)

abbrev pub decreases-loop-a : goal.decreases-loop-a
decreases-loop-a l = l.l - 1 - l.a
