-- Each buffer by what its callee ensures.
use Prim.Native.Nat.{ℕ}
use mathlib.Core.Path.{ap, ap₂, ◌∙◌}
use mathlib.Core.List.{List}
use lib.ListN.{length}
use Rattle.spec.specs.Hashes.{hash1}
use Rattle.spec.specs.Shapes.{rate}
use Rattle.spec.specs.Primitives.{faest}
use Rattle.spec.specs.Leaves.{leaf_key, commitment_of}
use Rattle.spec.specs.Rows.{row_byte, stretch_byte}
use Rattle.spec.specs.Signer.{signer_leaf_commitment}
use Rattle.job.specs.Versions.{primitives_of, leaf_node, nodes_bytes, leaf_seed_of, leaf_commitment_of}
use Rattle.job.specs.Jobs.{entry_commitment, entry_byte}
use Rattle.job.proofs.Each.{two_fits}
use Rattle.leaf.proofs.Keys.{keys-same}
use Rattle.spec.specs.Calls.{committed}
use Rattle.signer_commit.proofs.Answers.{commit-writes}
use Rattle.signer_commit.proofs.write_all.Goals as goal

pub grow-requires : goal.grow-requires
grow-requires c = (c.requires.s_value.0, c.requires.s_value.2, c.requires.commitment_len.1)

pub write_vectors-requires : goal.write_vectors-requires
unfolding nodes_bytes
write_vectors-requires c =
    let g = c.args in
    let p = c.requires.s_value in
    let q = c.requires.commitment_len in
    let keys = keys-same g.s _ _ _ c.load_iv-x.ensures c.hash_keys.ensures in
    let lent-tree = c.grow.auto.tree ∙ q.1 in
    record { lent = (record { job = record { shape = p.0; kind = two_fits g.s; row = p.1 }; tree = lent-tree }, keys, q.2, p.5); u_len = (q.3, q.4, q.5) }

pub h1-requires : goal.h1-requires
h1-requires c = (let r = c.rate_bytes-r.ensures in (r.2, r.1))

pub returns : goal.returns
unfolding faest leaf_key commitment_of row_byte stretch_byte signer_leaf_commitment primitives_of leaf_node leaf_seed_of leaf_commitment_of entry_commitment entry_byte
returns c =
    let g = c.args in
    let x = c.load_iv-x in
    let made = c.write_vectors.ensures in
    let hashes = c.write_vectors.new.hashes in
    let hash =
    c.h1.ensures ∙ ap (λ (r : ℕ). hash1 r hashes (length g.commitment.now)) c.rate_bytes-r.ensures.0
    ∙ ap₂ (λ (m : List ℕ) (n : ℕ). hash1 (rate g.s) m n) made.hashes_after c.requires.commitment_len.0 in
    commit-writes g.s g.z g.root.now x.result _ _ _ _ _ _ c.grow.ensures hash made.lcs_after made.u_after made.v_after made.corrections_after
    ∙ ap (committed faest g.s g.z g.root.now) x.ensures
