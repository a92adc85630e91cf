-- Document 02, E1: a stretch equals the same bytes of the full result, for both halves, over the contracts of the calls. ../proofs/Stretches.antt proves it for every record of
-- primitives.
use Rattle.std.specs.Prelude.{ℕ, ◌+◌, ◌-◌, ◌*◌, ◌/◌, ◌<◌, ◌≡◌, List}
use Rattle.spec.specs.declared.Shape.{Shape}
use Rattle.spec.specs.declared.Stretch.{Stretch}
use Rattle.spec.specs.declared.Answer.{Answer}
use Rattle.spec.specs.Bytes.{part}
use Rattle.spec.specs.Shapes.{resolved, level}
use Rattle.spec.specs.Primitives.{Primitives}
use Rattle.spec.specs.Calls.{Committed, Commit, CommitStretch, Reconstructed, Reconstruct, ReconstructStretch}

-- `whole` has n strings of b bytes, one after another, and `cut` the stretch z of each
abbrev pub Cut : ℕ → ℕ → Stretch → List ℕ → List ℕ → Type 0
Cut n b z whole cut = (c : ℕ) → c < n → part cut (z.width * c) z.width ≡ part whole (b * c + z.first) z.width

-- what commit and commit_stretch wrote; s is the resolved shape, b the bytes of a row
pub record SignerCut (s : Shape) (b : ℕ) (z : Stretch) (whole cut : Committed) : Type 0 where
  pub commitment : cut.commitment ≡ whole.commitment
  pub tree : cut.tree ≡ whole.tree
  pub leaf_commitments : cut.leaf_commitments ≡ whole.leaf_commitments
  pub u : Cut 1 b z whole.u cut.u
  pub v : Cut (level s) b z whole.v cut.v
  pub corrections : Cut (s.tau - 1) b z whole.corrections cut.corrections

-- what reconstruct and reconstruct_stretch wrote
pub record VerifierCut (s : Shape) (b : ℕ) (z : Stretch) (whole cut : Reconstructed) : Type 0 where
  pub commitment : cut.commitment ≡ whole.commitment
  pub tree : cut.tree ≡ whole.tree
  pub leaf_commitments : cut.leaf_commitments ≡ whole.leaf_commitments
  pub q : Cut (level s) b z whole.q cut.q

-- the calls answer 0. reconstruct_stretch is lent the corrections cut likewise
pub record StretchesAgree (P : Primitives) : Type 0 where
  pub signer :
      (s : Shape) (n : ℕ) (z : Stretch) (root iv : List ℕ) (x whole y cut : Committed) (r q : Answer)
      → Commit P s n root iv x whole r
      → CommitStretch P s n z root iv y cut q
      → r.number ≡ 0
      → q.number ≡ 0
      → SignerCut (resolved s) (n / 8) z whole cut
  pub verifier :
      (s : Shape) (n : ℕ) (z : Stretch) (iv ch corrections corrections' opening : List ℕ) (x whole y cut : Reconstructed) (r q : Answer)
      → Reconstruct P s n iv ch corrections opening x whole r
      → ReconstructStretch P s n z iv ch corrections' opening y cut q
      → r.number ≡ 0
      → q.number ≡ 0
      → Cut ((resolved s).tau - 1) (n / 8) z corrections corrections'
      → VerifierCut (resolved s) (n / 8) z whole cut
