-- The shape inside the calls of version 1: that of the caller with the leaf kind whose leaf commitments have two nodes' length and no hash key. What commit writes, and
-- what the opening and the trees give, does not look at the kind. By computing.
use Prim.Native.Nat.{ℕ, ◌≤◌}
use mathlib.Core.Path.{◌≡◌, refl, sym, ap, ◌∙◌, fun_ext}
use native.Mathlib.Nat.{zero-add}
use native.Mathlib.Omega.{arith}
use mathlib.Core.Bool.{true}
use mathlib.Core.List.{List}
use Rattle.spec.specs.declared.Shape.{Shape}
use Rattle.spec.specs.Shapes.{level, node_bytes, leaf_commitment_bytes, hash_bytes, key_words, rate, deeper, depth_of, entries_of, first_bit, first_entry, leaves, shape_ok}
use Rattle.spec.specs.Primitives.{faest, prg}
use Rattle.spec.specs.Leaves.{node_at, vector_commitments, leaf_commitments, vector_hash, commitment_of}
use Rattle.spec.specs.Rows.{u_byte, column_byte, matrix_of}
use Rattle.spec.specs.Signer.{signer_u, signer_column, correction, corrections}
use Rattle.spec.specs.Version1.{shape1_ok, faest1, prg1, vector_root, children1, vector_tree, signer_trees, first_node, leaf_in, leaf_key1, leaf_commitment_bytes1, hashed_leaf, leaf_seed1, leaf_commitment1, signer_leaf_commitment1, row1_byte, decommitment_from, hidden_leaf_commitment1, verifier_leaf_commitment1}
use Rattle.spec.specs.Version1Calls.{committed1}
use Rattle.job.specs.Versions.{leaf_node, leaf_commitment_of, hidden_from}
use Rattle.job.specs.Jobs.{Ready, entry_commitment, entry_byte, given_commitment}
use Rattle.job.proofs.Each.{commitment-1, byte-1}
use Rattle.v1_rules.proofs.Numbers.{shape-parts}
use Rattle.v1_rules.specs.Inner.{with_kind, inner, job_of}

pub inner-ok : (s : Shape) → s.kind ≡ 0 → shape_ok s ≡ true → shape_ok (inner s) ≡ true
unfolding level deeper depth_of shape_ok
inner-ok s e h = ap (λ (k : ℕ). shape_ok (with_kind k s)) (sym e) ∙ h

pub inner-commits : (s : Shape) (b : ℕ) (root iv : List ℕ) → committed1 faest1 (inner s) b root iv ≡ committed1 faest1 s b root iv
unfolding level node_bytes hash_bytes key_words rate deeper depth_of entries_of first_bit first_entry leaves faest prg node_at vector_commitments leaf_commitments vector_hash commitment_of u_byte column_byte matrix_of signer_u signer_column correction corrections faest1 prg1 vector_root children1 vector_tree signer_trees first_node leaf_in leaf_key1 leaf_commitment_bytes1 hashed_leaf leaf_seed1 leaf_commitment1 signer_leaf_commitment1 row1_byte committed1
inner-commits s b root iv = refl

pub inner-forest : (s : Shape) (root iv : List ℕ) → signer_trees faest1 s root iv ≡ signer_trees faest1 (inner s) root iv
unfolding level node_bytes key_words deeper depth_of entries_of prg faest1 prg1 vector_root children1 vector_tree signer_trees
inner-forest s root iv = refl

-- ---- the job: it is ready, and its rows are the whole ones

pub inner-ready : (s : Shape) (b : ℕ) (iv : List ℕ) → shape1_ok s ≡ true → b ≤ 8192 → Ready (job_of s b iv)
inner-ready s b iv ok h = (let p = shape-parts s ok in record { shape = inner-ok s p.2 p.0; kind = λ e. refl; row = omega arith })

pub inner-rows : (s : Shape) (b : ℕ) (iv nodes : List ℕ) → entry_byte (job_of s b iv) nodes ≡ row1_byte faest1 (inner s) iv nodes
inner-rows s b iv nodes =
    fun_ext (λ i. fun_ext (λ e. fun_ext (λ p. byte-1 (inner s) (record { first = 0; width = b }) iv nodes i e p ∙ ap (row1_byte faest1 (inner s) iv nodes i e) (zero-add p))))

pub inner-commitments : (s : Shape) (b : ℕ) (iv nodes : List ℕ) → entry_commitment (job_of s b iv) nodes ≡ signer_leaf_commitment1 faest1 (inner s) iv nodes
inner-commitments s b iv nodes = commitment-1 (inner s) (record { first = 0; width = b }) iv nodes

-- ---- the checking half

pub inner-given : (s : Shape) (b : ℕ) (iv nodes ch op : List ℕ) → given_commitment (job_of s b iv) ch op nodes ≡ verifier_leaf_commitment1 faest1 (inner s) iv ch op nodes
unfolding leaf_commitment_bytes leaf_key1 leaf_commitment_bytes1 decommitment_from hidden_leaf_commitment1 verifier_leaf_commitment1 leaf_node leaf_commitment_of hidden_from entry_commitment given_commitment
inner-given s b iv nodes ch op = refl
