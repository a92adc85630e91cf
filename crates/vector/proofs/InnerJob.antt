-- The job of version 1's calls, lent with its trees; its leaves have no hash keys. By computing.
use Prim.Native.Nat.{ℕ, ◌*◌, ◌≤◌}
use mathlib.Core.Path.{◌≡◌, sym}
use mathlib.Core.Bool.{true, true≢false}
use mathlib.Core.List.{List}
use lib.ListN.{length}
use Rattle.spec.specs.declared.Shape.{Shape}
use Rattle.spec.specs.Shapes.{level, node_bytes, leaf_commitment_bytes, deeper, leaves}
use Rattle.spec.specs.Version1.{shape1_ok, leaf_commitment_bytes1, trees1_bytes}
use Rattle.job.specs.declared.Job.{Job}
use Rattle.job.specs.Versions.{nodes_bytes}
use Rattle.v1_rules.specs.Inner.{job_of}
use Rattle.v1_rules.proofs.Inner.{inner-ready}
use Rattle.leaf.specs.HashKeys.{HashKeys}
use Rattle.vector.specs.Entries.{Lent}

module _ (s : Shape) (b : ℕ) (iv : List ℕ) (g : Job) (e : g ≡ job_of s b iv) where
  pub lent-job : (trees : List ℕ) → shape1_ok s ≡ true → b ≤ 8192 → length trees ≡ trees1_bytes s → Lent g trees
  unfolding level node_bytes deeper leaves trees1_bytes nodes_bytes
  lent-job trees ok h l = rw e (record { job = inner-ready s b iv ok h; tree = l })

  pub no_keys : (keys : List ℕ) → length keys ≡ leaf_commitment_bytes1 s * s.tau → HashKeys g.shape g.iv keys
  unfolding level node_bytes leaf_commitment_bytes leaf_commitment_bytes1
  no_keys keys l = rw e (record { size = l; made = λ o. absurd (true≢false (sym o)) })
