-- Each buffer by what its callee ensures.
use Prim.Native.Nat.{ℕ}
use mathlib.Core.Path.{ap, ap₂, ◌∙◌}
use mathlib.Core.List.{List}
use lib.ListN.{length}
use Rattle.spec.specs.Hashes.{hash1}
use Rattle.spec.specs.Shapes.{rate}
use Rattle.spec.specs.Version1.{faest1}
use Rattle.spec.specs.Version1Calls.{committed1}
use Rattle.v1_rules.proofs.Numbers.{shape-parts}
use Rattle.vector.proofs.InnerJob.{lent-job, no_keys}
use Rattle.v1_signer.proofs.Written.{lent-lengths, commit-writes}
use Rattle.v1_signer.proofs.write_all.Goals as goal

pub rate_bytes-r-requires : goal.rate_bytes-r-requires
rate_bytes-r-requires c = (shape-parts _ c.requires.s_value.0).0

pub grow_trees-requires : goal.grow_trees-requires
grow_trees-requires c = ((shape-parts _ c.requires.s_value.0).0, c.requires.s_value.2, c.requires.commitment_len.1)

pub write_vectors-requires : goal.write_vectors-requires
write_vectors-requires c =
    let g = c.args in
    let p = c.requires.s_value in
    let q = c.requires.commitment_len in
    let job = c.job_of-g in
    let x = c.load_iv-x.result in
    let trees = c.grow_trees.auto.trees ∙ q.1 in
    let l = lent-lengths g.s g.b x job.result job.ensures g.lcs.now g.hashes.now g.u.now g.v.now g.corrections.now q.2 p.5 q.3 q.4 q.5 in
    record { lent = (lent-job g.s g.b x job.result job.ensures _ p.0 p.1 trees, no_keys g.s g.b x job.result job.ensures g.keys.now p.4, l.0, l.1); u_len = (l.2, l.3, l.4) }

pub h1-requires : goal.h1-requires
h1-requires c = (let r = c.rate_bytes-r.ensures in (r.2, r.1))

pub returns : goal.returns
returns c =
    let g = c.args in
    let x = c.load_iv-x in
    let job = c.job_of-g in
    let vectors = c.write_vectors in
    let made = vectors.ensures in
    let hash =
    c.h1.ensures ∙ ap (λ (r : ℕ). hash1 r vectors.new.hashes (length g.commitment.now)) c.rate_bytes-r.ensures.0
    ∙ ap₂ (λ (m : List ℕ) (n : ℕ). hash1 (rate g.s) m n) made.hashes_after c.requires.commitment_len.0 in
    commit-writes g.s g.b x.result job.result job.ensures g.root.now _ _ _ _ _ _ c.grow_trees.ensures hash made.lcs_after made.u_after made.v_after made.corrections_after
    ∙ ap (committed1 faest1 g.s g.b g.root.now) x.ensures
