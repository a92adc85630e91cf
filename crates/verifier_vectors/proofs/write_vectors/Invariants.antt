-- After i turns the first i vectors stand at the front of the buffers; at the end what is left of the matrix is cleared.
use mathlib.Core.Path.{◌≡◌}
use Prim.Native.Nat.{◌-◌, ◌*◌, ◌≤◌}
use lib.ListN.{length}
use Rattle.spec.specs.Shapes.{hash_bytes, leaf_commitments_bytes, matrix_bytes}
use Rattle.job.specs.Jobs.{entry_byte, given_commitment}
use Rattle.vector.specs.Vectors.{Before}
use Rattle.verifier_vector.specs.Vector.{uncorrected}
use Rattle.verifier_vectors.proofs.write_vectors.Given as goal

abbrev pub invariant-loop-i : goal.invariant-loop-i
invariant-loop-i l =
    (l.i ≤ l.g.shape.tau) × (length l.lcs ≡ leaf_commitments_bytes l.g.shape) × (length l.q ≡ matrix_bytes l.g.shape l.g.stretch.width) × (length l.hashes ≡ hash_bytes l.g.shape * l.g.shape.tau)
    × Before l.g.shape l.g.stretch.width (given_commitment l.g l.ch l.opening l.tree) (uncorrected l.g.shape l.g.stretch.width (entry_byte l.g l.tree) l.ch) l.i l.lcs l.q l.hashes

abbrev pub decreases-loop-i : goal.decreases-loop-i
decreases-loop-i l = l.g.shape.tau - l.i
