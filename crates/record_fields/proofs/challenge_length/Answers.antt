-- A challenge is as long as a node.
use Rattle.spec.specs.Shapes.{node_bytes, challenge_bytes}
use Rattle.record_fields.proofs.challenge_length.Goals as goal

pub returns : goal.returns
unfolding node_bytes challenge_bytes
returns c = (c.node_bytes.ensures.0, c.node_bytes.ensures.2)
