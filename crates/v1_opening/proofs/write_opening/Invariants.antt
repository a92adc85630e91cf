-- After i turns the decommitments of the first i vectors stand, one behind another.
use mathlib.Core.Path.{◌≡◌}
use Prim.Native.Nat.{◌-◌, ◌≤◌}
use lib.ListN.{length, take}
use Rattle.spec.specs.Bytes.{concat}
use Rattle.spec.specs.Version1.{decommitment, decommitment_from, opening1_bytes}
use Rattle.v1_opening.proofs.write_opening.Given as goal

abbrev pub invariant-loop-i : goal.invariant-loop-i
invariant-loop-i l = (l.i ≤ l.tau) × (length l.opening ≡ opening1_bytes l.s) × (take (decommitment_from l.s l.i) l.opening ≡ concat l.i (decommitment l.s l.ch l.trees l.lcs))

abbrev pub decreases-loop-i : goal.decreases-loop-i
decreases-loop-i l = l.tau - l.i
