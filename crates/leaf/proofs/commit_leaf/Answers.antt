-- By the version; a leaf of version 1 is hashed, one of version 2 goes by its kind.
use Rattle.job.specs.Versions.{leaf_seed_of, leaf_commitment_of}
use Rattle.leaf.proofs.commit_leaf.Goals as goal

pub hash_leaf_in_place-requires : goal.hash_leaf_in_place-requires
hash_leaf_in_place-requires c =
    let p = c.requires in
    (p.0, p.1 c.in-One.is, p.2, p.3, p.4)

pub returns-in-One : goal.returns-in-One
unfolding leaf_seed_of leaf_commitment_of
returns-in-One c = λ i tweak m. rw c.in-One.is c.hash_leaf_in_place.ensures

pub returns-in-Two : goal.returns-in-Two
unfolding leaf_seed_of leaf_commitment_of
returns-in-Two c = λ i tweak m. rw c.in-Two.is (c.leaf_of_kind.ensures i tweak m)
