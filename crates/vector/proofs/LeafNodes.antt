-- Where the leaf of an entry stands among the lent nodes, of either version; and the length of its commitment.
use Prim.Native.Nat.{ℕ, ◌+◌, ◌-◌, ◌*◌, ◌≤◌, ◌<◌}
use mathlib.Core.Path.{◌≡◌, refl, sym, ◌∙◌}
use mathlib.Core.List.{List, ◌++◌}
use native.Mathlib.Omega.{arith}
use lib.ListN.{length, length-drop}
use Rattle.spec.specs.declared.Shape.{Shape}
use Rattle.spec.specs.Shapes.{node_bytes, leaf_commitment_bytes, rate, leaves, leaf_of, tree_bytes}
use Rattle.spec.specs.Primitives.{faest}
use Rattle.spec.specs.Version1.{faest1, first_node, leaf_in, leaf_commitment_bytes1, hashed_leaf, leaf_commitment1, trees1_bytes}
use Rattle.job.specs.declared.Version.{Version}
use Rattle.job.specs.declared.Version.TheVariants.{One, Two}
use Rattle.job.specs.declared.Job.{Job}
use Rattle.job.specs.Versions.{leaf_node, nodes_bytes, KindFits, leaf_commitment_of}
use Rattle.job.specs.Jobs.{entry_commitment}
use Rattle.laws.proofs.Concat.{mul-within}
use Rattle.planning_laws.proofs.LeafKindFacts.{commitment-length}
use Rattle.leaf.proofs.Hashed.{width_one, h0-length}

-- node r of n
node_end : (s : Shape) (r n : ℕ) → r < n → node_bytes s * r + node_bytes s ≤ node_bytes s * n
node_end s r n h = mul-within (node_bytes s) r n h

module _ (v : Version) (s : Shape) (i j r : ℕ) where
  abbrev Found : Type 0
  Found = (r ≡ leaf_node v s i j) × (node_bytes s * r + node_bytes s ≤ nodes_bytes v s) × (r < 172032)

  pub found-one : v ≡ One → r ≡ first_node s i + leaf_in s i j → r + s.tau < 2 * leaves s → r < 172032 → Found
  unfolding leaf_node nodes_bytes trees1_bytes
  found-one e p h l = rw e (p, node_end s r (2 * leaves s - s.tau) (omega arith), l)

  pub found-two : v ≡ Two → r ≡ leaf_of s i j → r + 1 < 2 * leaves s → r < 172032 → Found
  unfolding leaf_node nodes_bytes tree_bytes
  found-two e p h l = rw e (p, node_end s r (2 * leaves s - 1) (omega arith), l)

-- ---- a leaf commitment has its length

one-length : (s : Shape) (iv key : List ℕ) → length (leaf_commitment1 faest1 s iv key) ≡ leaf_commitment_bytes1 s
unfolding faest faest1 hashed_leaf leaf_commitment1
one-length s iv key =
    let e = h0-length (rate s) (key ++ iv) (node_bytes s + leaf_commitment_bytes1 s) in
    simp length-drop (omega arith)

by-version : (v : Version) (s : Shape) (iv : List ℕ) (i : ℕ) (key : List ℕ) → KindFits v s → length (leaf_commitment_of v s iv i key) ≡ leaf_commitment_bytes s
unfolding leaf_commitment_of
by-version One s iv i key k = one-length s iv key ∙ sym (width_one s (k refl))
by-version Two s iv i key k = commitment-length faest s iv i key

pub entry_length : (g : Job) (nodes : List ℕ) (i e : ℕ) → KindFits g.version g.shape → length (entry_commitment g nodes i e) ≡ leaf_commitment_bytes g.shape
unfolding entry_commitment
entry_length g nodes i e k = by-version g.version g.shape g.iv i _ k
