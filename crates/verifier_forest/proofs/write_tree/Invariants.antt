-- Once a nodes have their children, the first 2 a + 1 nodes stand, and the walk down to the hidden leaf has not passed its next node.
use Prim.Native.Nat.{ℕ, ◌+◌, ◌-◌, ◌*◌, ◌^◌, ◌<◌}
use mathlib.Core.Path.{◌≡◌}
use mathlib.Core.List.{List}
use lib.ListN.{length, take}
use Rattle.spec.specs.declared.Shape.{Shape}
use Rattle.spec.specs.Bytes.{zeros}
use Rattle.spec.specs.Tree.{expand_tree}
use Rattle.spec.specs.Version1.{faest1, reconstructed_children1}
use Rattle.verifier_forest.specs.ByWay.{VectorOf}
use Rattle.verifier_forest.proofs.Walk.{Walk}
use Rattle.verifier_forest.proofs.write_tree.Given as goal

abbrev pub invariant-loop-a : goal.invariant-loop-a
invariant-loop-a l =
    (l.inner ≡ 2 ^ l.d - 1)
    × (l.inner < 4096)
    × (length l.tree ≡ l.w * (2 * 2 ^ l.d - 1))
    × Walk l.d l.j l.a l.path l.l
    × ((s : Shape) (ch opening : List ℕ) (i : ℕ) → VectorOf l.w l.d l.j l.slots s ch opening i
    → take (l.w * (2 * l.a + 1)) l.tree ≡ expand_tree l.w (zeros l.w) (reconstructed_children1 faest1 s l.iv ch opening i) l.a)
