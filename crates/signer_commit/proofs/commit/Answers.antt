-- The call of the stretch that is the whole row.
use Rattle.spec.specs.Primitives.{faest}
use Rattle.laws.proofs.Calls.{commit-whole}
use Rattle.signer_commit.proofs.commit.Goals as goal

pub returns : goal.returns
returns c = commit-whole faest _ _ _ _ _ _ _ c.commit_stretch.ensures
