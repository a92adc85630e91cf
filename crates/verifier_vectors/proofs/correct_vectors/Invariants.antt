-- After the turn of i the first i + 1 vectors have their corrections.
use mathlib.Core.Path.{◌≡◌}
use Prim.Native.Nat.{ℕ, ◌-◌, ◌≤◌}
use lib.ListN.{length}
use Rattle.spec.specs.Rows.{matrix_of}
use Rattle.verifier_vector.specs.Vector.{uncorrected}
use Rattle.verifier_vectors.specs.Corrections.{Corrected}
use Rattle.verifier_vectors.proofs.correct_vectors.Given as goal

abbrev pub invariant-loop-i : goal.invariant-loop-i
invariant-loop-i l =
    (1 ≤ l.i) × (l.i ≤ l.s.tau) × (length l.q ≡ length l.initial.q) × ((row : ℕ → ℕ → ℕ → ℕ) → l.initial.q ≡ matrix_of l.s l.b (uncorrected l.s l.b row l.ch) → Corrected l.s l.b row l.ch l.corrections l.i l.q)

abbrev pub decreases-loop-i : goal.decreases-loop-i
decreases-loop-i l = l.s.tau - l.i
