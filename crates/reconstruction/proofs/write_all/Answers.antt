-- Each buffer by what its callee ensures.
use Prim.Native.Nat.{ℕ}
use mathlib.Core.Path.{ap, ap₂, ◌∙◌}
use mathlib.Core.List.{List}
use lib.ListN.{length}
use Rattle.spec.specs.Hashes.{hash1}
use Rattle.spec.specs.Shapes.{rate}
use Rattle.spec.specs.Primitives.{faest}
use Rattle.spec.specs.Leaves.{leaf_key, commitment_of}
use Rattle.spec.specs.Rows.{row_byte, stretch_byte}
use Rattle.spec.specs.Verifier.{hidden_leaf_commitment, verifier_leaf_commitment}
use Rattle.job.specs.Versions.{primitives_of, leaf_node, nodes_bytes, leaf_seed_of, leaf_commitment_of, opening_length, hidden_from}
use Rattle.job.specs.Jobs.{entry_commitment, entry_byte, given_commitment}
use Rattle.job.proofs.Each.{two_fits}
use Rattle.leaf.proofs.Keys.{keys-same}
use Rattle.vector.proofs.Numbers.{width_small}
use Rattle.spec.specs.Calls.{reconstructed}
use Rattle.reconstruction.proofs.Written.{reconstruct-writes}
use Rattle.reconstruction.proofs.write_all.Goals as goal

pub reconstruct_tree-requires : goal.reconstruct_tree-requires
reconstruct_tree-requires c =
    let p = c.requires.s_value in
    let q = c.requires.iv_len in
    (p.0, q.1, p.2, p.3, q.3, c.requires.commitment_len.1)

pub write_vectors-requires : goal.write_vectors-requires
unfolding nodes_bytes opening_length
write_vectors-requires c =
    let g = c.args in
    let p = c.requires.s_value in
    let q = c.requires.iv_len in
    let o = c.requires.commitment_len in
    let keys = keys-same g.s _ _ _ c.load_iv-x.ensures c.hash_keys.ensures in
    let lent-tree = c.reconstruct_tree.auto.tree ∙ o.1 in
    record { lent = (record { job = record { shape = p.0; kind = two_fits g.s; row = p.1 }; tree = lent-tree }, keys, q.1, q.3); lcs_len = (o.2, o.3, p.5) }

pub correct_vectors-requires : goal.correct_vectors-requires
correct_vectors-requires c =
    let q = c.requires.iv_len in
    (c.requires.s_value.0, width_small c.args.z c.requires.s_value.1, q.1, q.2, c.write_vectors.auto.q ∙ c.requires.commitment_len.3)

pub h1-requires : goal.h1-requires
h1-requires c = (let r = c.rate_bytes-r.ensures in (r.2, r.1))

pub returns : goal.returns
unfolding faest leaf_key commitment_of row_byte stretch_byte hidden_leaf_commitment verifier_leaf_commitment primitives_of leaf_node leaf_seed_of leaf_commitment_of hidden_from entry_commitment entry_byte given_commitment
returns c =
    let g = c.args in
    let x = c.load_iv-x in
    let vectors = c.write_vectors in
    let made = vectors.ensures in
    let hash =
    c.h1.ensures ∙ ap (λ (r : ℕ). hash1 r vectors.new.hashes (length g.commitment.now)) c.rate_bytes-r.ensures.0
    ∙ ap₂ (λ (m : List ℕ) (n : ℕ). hash1 (rate g.s) m n) made.hashes_after c.requires.commitment_len.0 in
    reconstruct-writes g.s g.z x.result g.ch.now g.corrections.now g.opening.now _ _ _ _ c.reconstruct_tree.ensures hash made.lcs_after (c.correct_vectors.ensures _ made.q_after)
    ∙ ap (λ (i : List ℕ). reconstructed faest g.s g.z i g.ch.now g.corrections.now g.opening.now) x.ensures
