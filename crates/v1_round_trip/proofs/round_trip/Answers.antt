-- The contracts of the three calls make the claim.
use borrow.Author.Rules.{rules}
use Rattle.v1_round_trip.proofs.Claim.{claim}
use Rattle.v1_round_trip.proofs.round_trip.Goals as goal

pub shape_of-commitment : goal.shape_of-commitment
shape_of-commitment c = c.commit-made.auto.commitment

pub shape_of-trees : goal.shape_of-trees
shape_of-trees c = c.commit-made.auto.trees

pub shape_of-leaf_commitments : goal.shape_of-leaf_commitments
shape_of-leaf_commitments c = c.commit-made.auto.leaf_commitments

pub shape_of-u : goal.shape_of-u
shape_of-u c = c.commit-made.auto.u

pub shape_of-v : goal.shape_of-v
shape_of-v c = c.commit-made.auto.v

pub shape_of-corrections : goal.shape_of-corrections
shape_of-corrections c = c.commit-made.auto.corrections

pub shape_of-opening : goal.shape_of-opening
shape_of-opening c = c.open-opened.auto.opening

pub shape_of-commitment2 : goal.shape_of-commitment2
shape_of-commitment2 c = c.reconstruct-checked.auto.commitment

pub shape_of-trees2 : goal.shape_of-trees2
shape_of-trees2 c = c.reconstruct-checked.auto.trees

pub shape_of-leaf_commitments2 : goal.shape_of-leaf_commitments2
shape_of-leaf_commitments2 c = c.reconstruct-checked.auto.leaf_commitments

pub shape_of-q : goal.shape_of-q
shape_of-q c = c.reconstruct-checked.auto.q

pub returns : goal.returns
returns c =
    claim _ _ _ _ _ _ _ _ _ _ _ _ _ _ c.commit-made.ensures
    c.open-opened.ensures
    c.reconstruct-checked.ensures
