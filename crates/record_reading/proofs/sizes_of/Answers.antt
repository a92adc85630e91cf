-- The lengths are those of the version, the resolved shape and the rows, which the front says.
use native.Mathlib.Omega.{arith}
use mathlib.Core.Path.{ap, ap₂, ◌∙◌}
use Rattle.spec.specs.Shapes.{challenge_bytes, hash_bytes, opening_bytes, corrections_bytes}
use Rattle.record.specs.Record.{head_bytes}
use Rattle.record_reading.proofs.sizes_of.Goals as goal

pub returns : goal.returns
returns c rec p =
    record {
      read = p.read;
      head = c.head_length.ensures.0 ∙ ap head_bytes p.version;
      challenge = c.challenge_length.ensures.0 ∙ ap challenge_bytes p.resolved;
      corrections = c.corrections_bytes.ensures.0 ∙ ap₂ corrections_bytes p.resolved p.bytes;
      opening = c.opening_bytes.ensures.0 ∙ ap opening_bytes p.resolved;
      commitment = c.hash_bytes.ensures.0 ∙ ap hash_bytes p.resolved;
      most = omega arith;
    }
