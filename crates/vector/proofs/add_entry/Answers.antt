-- The local array has room for the seed of every level.
use mathlib.Core.Path.{◌∙◌}
use native.Mathlib.Omega.{arith}
use lib.ListN.{replicate}
use Rattle.vector.proofs.Buffers.{lent}
use Rattle.vector.proofs.add_entry.Goals as goal

pub slice_bounds-seed-end : goal.slice_bounds-seed-end
slice_bounds-seed-end c = (let m = c.node_bytes-n.ensures.2 in omega arith)

pub add_leaf-requires : goal.add_leaf-requires
add_leaf-requires c =
    let n = c.node_bytes-n in
    record { lent = c.requires.lent; seed_len = (lent 0 n.result n.result (replicate 32 0) (omega arith) (let m = n.ensures.2 in omega arith) ∙ n.ensures.0, c.requires.commitment_len.0, c.requires.commitment_len.1) }

pub returns : goal.returns
returns c = c.add_leaf.ensures
