-- After j turns vectors 0 to j stand at the front of the buffers, and j corrections. The measure is the number of vectors left.
-- ---- correction j: its place
use Prim.Native.Nat.{◌+◌, ◌-◌, ◌*◌, ◌≤◌}
use mathlib.Core.Path.{◌≡◌}
use lib.ListN.{length, take}
use Rattle.spec.specs.Bytes.{concat}
use Rattle.spec.specs.Shapes.{hash_bytes, leaf_commitments_bytes, matrix_bytes, corrections_bytes}
use Rattle.spec.specs.Signer.{signer_u, signer_column, correction}
use Rattle.job.specs.Jobs.{entry_commitment, entry_byte}
use Rattle.vector.specs.Vectors.{Before}
use Rattle.signer_vectors.proofs.write_vectors.Given as goal

abbrev pub invariant-loop-j : goal.invariant-loop-j
invariant-loop-j l =
    (l.j ≤ l.g.shape.tau - 1) × (length l.lcs ≡ leaf_commitments_bytes l.g.shape) × (length l.v ≡ matrix_bytes l.g.shape l.g.stretch.width) × (length l.corrections ≡ corrections_bytes l.g.shape l.g.stretch.width)
    × (length l.hashes ≡ hash_bytes l.g.shape * l.g.shape.tau) × (l.u ≡ signer_u l.g.shape l.g.stretch.width (entry_byte l.g l.tree))
    × (take (l.g.stretch.width * l.j) l.corrections ≡ concat l.j (λ i. correction l.g.shape l.g.stretch.width (entry_byte l.g l.tree) (i + 1)))
    × Before l.g.shape l.g.stretch.width (entry_commitment l.g l.tree) (signer_column l.g.shape l.g.stretch.width (entry_byte l.g l.tree)) (l.j + 1) l.lcs l.v l.hashes

abbrev pub decreases-loop-j : goal.decreases-loop-j
decreases-loop-j l = l.g.shape.tau - 1 - l.j
