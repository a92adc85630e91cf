-- What is lent with a job, and what a run of entries does to the leaf commitments of its vector.
use Rattle.std.specs.Prelude.{ℕ, ◌*◌, ◌≤◌, ◌<◌, ◌≡◌, List, length}
use Rattle.std.specs.Int.Bits.{bit_xor}
use Rattle.spec.specs.Bytes.{part}
use Rattle.spec.specs.Shapes.{entries_of}
use Rattle.job.specs.declared.Job.{Job}
use Rattle.job.specs.Versions.{nodes_bytes}
use Rattle.job.specs.Jobs.{Ready, entry_byte}
use Rattle.vector.specs.declared.Run.{Run}

-- the rows of a run, by the numbers of their entries
abbrev pub numbered : Job → List ℕ → Run → ℕ → ℕ → ℕ
numbered g tree r x = entry_byte g tree r.vector (bit_xor x r.mask)

-- what is lent with a job: the nodes of its tree, or of its trees
pub record Lent (g : Job) (nodes : List ℕ) : Type 0 where
  pub job : Ready g
  pub tree : length nodes ≡ nodes_bytes g.version g.shape

-- the numbers of a run are those of entries of its vector
pub record Inside (g : Job) (r : Run) : Type 0 where
  pub vector : r.vector < g.shape.tau
  pub order : r.from ≤ r.to
  pub all : r.to ≤ entries_of g.shape r.vector
  pub mask : r.mask < entries_of g.shape r.vector

-- number x is that of entry x xor the mask, w the length of a leaf commitment. The entries of the numbers from `from` on and below n have their leaf commitments in their places, and those of the
-- numbers below `from` have what they had
pub record Written (w : ℕ) (own : ℕ → List ℕ) (mask from n : ℕ) (old new : List ℕ) : Type 0 where
  pub size : length new ≡ length old
  pub fresh : (x : ℕ) → from ≤ x → x < n → part new (w * bit_xor x mask) w ≡ own (bit_xor x mask)
  pub kept : (x : ℕ) → x < from → part new (w * bit_xor x mask) w ≡ part old (w * bit_xor x mask) w
