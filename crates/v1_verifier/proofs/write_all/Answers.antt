-- Each buffer by what its callee ensures.
use Prim.Native.Nat.{ℕ}
use mathlib.Core.Path.{ap, ap₂, ◌∙◌}
use mathlib.Core.List.{List}
use lib.ListN.{length}
use Rattle.spec.specs.Hashes.{hash1}
use Rattle.spec.specs.Shapes.{rate}
use Rattle.spec.specs.Version1.{faest1, row1_byte}
use Rattle.spec.specs.Version1Calls.{reconstructed1}
use Rattle.vector.proofs.InnerJob.{lent-job, no_keys}
use Rattle.v1_rules.proofs.Numbers.{shape-parts}
use Rattle.v1_verifier.proofs.Written.{lent-lengths, uncorrected-rows, reconstruct-writes}
use Rattle.v1_verifier.proofs.write_all.Goals as goal

pub rate_bytes-r-requires : goal.rate_bytes-r-requires
rate_bytes-r-requires c = (shape-parts _ c.requires.s_value.0).0

pub reconstruct_trees-requires : goal.reconstruct_trees-requires
reconstruct_trees-requires c =
    let p = c.requires.iv_len in
    ((shape-parts _ c.requires.s_value.0).0, p.1, p.3, c.requires.commitment_len.1)

pub write_vectors-requires : goal.write_vectors-requires
write_vectors-requires c =
    let g = c.args in
    let p = c.requires.s_value in
    let q = c.requires.iv_len in
    let o = c.requires.commitment_len in
    let job = c.job_of-g in
    let x = c.load_iv-x.result in
    let trees = c.reconstruct_trees.auto.trees ∙ o.1 in
    let l = lent-lengths g.s g.b x job.result job.ensures g.ch.now g.opening.now g.lcs.now g.q.now g.hashes.now q.1 q.3 o.2 o.3 p.3 in
    record { lent = (lent-job g.s g.b x job.result job.ensures _ p.0 p.1 trees, no_keys g.s g.b x job.result job.ensures g.keys.now p.2, l.0, l.1); lcs_len = (l.2, l.3, l.4) }

pub correct_vectors-requires : goal.correct_vectors-requires
correct_vectors-requires c =
    let q = c.requires.iv_len in
    ((shape-parts _ c.requires.s_value.0).0, c.requires.s_value.1, q.1, q.2, c.write_vectors.auto.q ∙ c.requires.commitment_len.3)

pub h1-requires : goal.h1-requires
h1-requires c = (let r = c.rate_bytes-r.ensures in (r.2, r.1))

pub returns : goal.returns
returns c =
    let g = c.args in
    let x = c.load_iv-x in
    let job = c.job_of-g in
    let trees = c.reconstruct_trees in
    let vectors = c.write_vectors in
    let made = vectors.ensures in
    let hash =
    c.h1.ensures ∙ ap (λ (r : ℕ). hash1 r vectors.new.hashes (length g.commitment.now)) c.rate_bytes-r.ensures.0
    ∙ ap₂ (λ (m : List ℕ) (n : ℕ). hash1 (rate g.s) m n) made.hashes_after c.requires.commitment_len.0 in
    let rows = uncorrected-rows g.s g.b x.result job.result job.ensures g.ch.now trees.new.trees _ made.q_after in
    reconstruct-writes g.s g.b x.result job.result job.ensures g.ch.now g.corrections.now g.opening.now _ _ _ _ trees.ensures hash made.lcs_after (c.correct_vectors.ensures (row1_byte faest1 g.s x.result trees.new.trees) rows)
    ∙ ap (λ (i : List ℕ). reconstructed1 faest1 g.s g.b i g.ch.now g.corrections.now g.opening.now) x.ensures
