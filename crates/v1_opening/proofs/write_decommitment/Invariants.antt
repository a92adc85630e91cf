-- After l turns the first l siblings stand; the leaf commitment fills the rest.
use mathlib.Core.Path.{◌≡◌}
use mathlib.Core.List.{List}
use Prim.Native.Nat.{ℕ, ◌+◌, ◌-◌, ◌*◌, ◌≤◌}
use lib.ListN.{length, take}
use Rattle.spec.specs.Bytes.{part, concat}
use Rattle.spec.specs.Version1.{sibling_at}
use Rattle.v1_opening.proofs.write_decommitment.Given as goal

abbrev pub shown : ℕ → ℕ → ℕ → List ℕ → ℕ → List ℕ
shown n d j tree l = part tree (n * sibling_at d j (l + 1)) n

abbrev pub invariant-loop-l : goal.invariant-loop-l
invariant-loop-l l = (l.l ≤ l.d) × (length l.out ≡ l.n * l.d + 2 * l.n) × (take (l.n * l.l) l.out ≡ concat l.l (shown l.n l.d l.j l.tree))

abbrev pub decreases-loop-l : goal.decreases-loop-l
decreases-loop-l l = l.d - l.l
