-- A call's job: what holds of it once the call's tests are passed, and what its entries give.
use Rattle.std.specs.Prelude.{ℕ, ◌+◌, ◌^◌, ◌≤◌, ◌≡◌, true, cond, List, eqb}
use Rattle.spec.specs.Bytes.{part}
use Rattle.spec.specs.Shapes.{leaf_commitment_bytes, shape_ok, hidden_index}
use Rattle.spec.specs.Leaves.{node_at}
use Rattle.job.specs.declared.Job.{Job}
use Rattle.job.specs.declared.Nonce.{Nonce}
use Rattle.job.specs.Versions.{primitives_of, leaf_node, KindFits, leaf_seed_of, leaf_commitment_of, hidden_from}

-- the shape is allowed, its kind is one of the version's, and the stretch lies within the longest row
pub record Ready (g : Job) : Type 0 where
  pub shape : shape_ok g.shape ≡ true
  pub kind : KindFits g.version g.shape
  pub row : g.stretch.first + g.stretch.width ≤ 8192

abbrev pub nonce_of : Job → ℕ → Nonce
nonce_of g tweak = record { iv = g.iv; tweak = tweak; version = g.version }

-- ---- entry e of vector i, from the nodes lent: its leaf, its leaf commitment, and byte p of the stretch of its row

abbrev pub entry_key : Job → List ℕ → ℕ → ℕ → List ℕ
entry_key g nodes i e = node_at g.shape nodes (leaf_node g.version g.shape i e)

unfoldable pub entry_commitment : Job → List ℕ → ℕ → ℕ → List ℕ
entry_commitment g nodes i e = leaf_commitment_of g.version g.shape g.iv i (entry_key g nodes i e)

unfoldable pub entry_byte : Job → List ℕ → ℕ → ℕ → ℕ → ℕ
entry_byte g nodes i e p =
    (primitives_of g.version).prg_byte g.shape (leaf_seed_of g.version g.shape g.iv i (entry_key g nodes i e)) g.iv (i + 2 ^ 31) (g.stretch.first + p)

-- what the checking half has in the place of entry j: of the hidden one the leaf commitment that the opening gives
unfoldable pub given_commitment : Job → List ℕ → List ℕ → List ℕ → ℕ → ℕ → List ℕ
given_commitment g ch opening nodes i j =
    cond (eqb j (hidden_index g.shape ch i)) (part opening (hidden_from g.version g.shape i) (leaf_commitment_bytes g.shape)) (entry_commitment g nodes i j)
