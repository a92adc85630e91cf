-- Once a nodes are expanded, the first 2 a + 1 nodes stand.
use mathlib.Core.Path.{◌≡◌}
use mathlib.Core.Bool.{true}
use Prim.Native.Nat.{◌+◌, ◌-◌, ◌*◌, ◌^◌, ◌≤◌, ◌<◌}
use lib.ListN.{length, take}
use Rattle.spec.specs.declared.Shape.{Shape}
use Rattle.spec.specs.Tree.{expand_tree}
use Rattle.spec.specs.Shapes.{node_bytes, shape_ok}
use Rattle.spec.specs.Leaves.{children}
use Rattle.job.specs.Versions.{primitives_of}
use Rattle.signer_tree.proofs.grow_tree.Given as goal

abbrev pub invariant-loop-a : goal.invariant-loop-a
invariant-loop-a l =
    (l.a ≤ l.inner) × (length l.tree ≡ l.n * (2 * l.inner + 1)) × (length l.tree < 2 ^ 32)
    × ((s : Shape) → shape_ok s ≡ true → l.n ≡ node_bytes s → take (l.n * (2 * l.a + 1)) l.tree ≡ expand_tree l.n l.root (children (primitives_of l.version) s l.iv) l.a)

abbrev pub decreases-loop-a : goal.decreases-loop-a
decreases-loop-a l = l.inner - l.a
