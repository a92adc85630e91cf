-- By the version.
use Rattle.vector.proofs.LeafNodes.{found-one, found-two}
use Rattle.vector.proofs.leaf_node.Goals as goal

pub returns-in-One : goal.returns-in-One
returns-in-One c = (let r = c.leaf_node.ensures in found-one _ _ _ _ _ c.in-One.is r.0 r.1 r.2)

pub returns-in-Two : goal.returns-in-Two
returns-in-Two c = (let r = c.leaf_of.ensures in found-two _ _ _ _ _ c.in-Two.is r.0 r.2 r.3)
