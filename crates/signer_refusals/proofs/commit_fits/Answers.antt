-- Each length is that of its name.
use Rattle.std.proofs.Math.Bool.{and-true}
use Rattle.signer_refusals.proofs.commit_fits.Goals as goal

pub returns : goal.returns
returns c =
    rw (and-true, ← c.node_bytes.ensures.0, ← c.hash_bytes.ensures.0, ← c.tree_bytes.ensures.0, ← c.leaf_commitments_bytes.ensures.0, ← c.matrix_bytes.ensures.0, ← c.corrections_bytes.ensures.0) c.eq.ensures
