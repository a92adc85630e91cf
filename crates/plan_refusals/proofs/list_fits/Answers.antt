-- A challenge has as many bytes as a node.
use Rattle.std.proofs.Math.Bool.{and-true}
use Rattle.spec.specs.Shapes.{node_bytes, challenge_bytes}
use Rattle.plan_refusals.proofs.list_fits.Goals as goal

pub returns : goal.returns
unfolding node_bytes challenge_bytes
returns c = rw (and-true, ← c.node_bytes.ensures.0) c.eq.ensures
