-- After i turns the leaf commitments of the first i vectors stand at the front.
use mathlib.Core.Path.{◌≡◌, ◌∙◌}
use mathlib.Core.List.{List, [], ◌++◌}
use Prim.Native.Nat.{ℕ, ◌+◌, ◌-◌, ◌*◌, ◌≤◌}
use lib.ListN.{length, take}
use Rattle.spec.specs.declared.Shape.{Shape}
use Rattle.spec.specs.Bytes.{concat}
use Rattle.spec.specs.Shapes.{hidden_index}
use Rattle.spec.specs.Signer.{leaf_commitment_at}
use Rattle.opening.proofs.write_hidden.Given as goal

abbrev pub hidden : Shape → List ℕ → List ℕ → ℕ → List ℕ
hidden s ch lcs i = leaf_commitment_at s lcs i (hidden_index s ch i)

abbrev pub invariant-loop-i : goal.invariant-loop-i
invariant-loop-i l = (length l.out ≡ length l.initial.out) × (take (l.w * l.i) l.out ≡ concat l.i (hidden l.s l.ch l.lcs))
