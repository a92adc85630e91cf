-- Each length is that of its name.
use Rattle.std.proofs.Math.Bool.{and-true}
use Rattle.record_writer.proofs.write_fits.Goals as goal

pub returns : goal.returns
returns c =
    rw (and-true, ← c.challenge_length.ensures.0, ← c.corrections_bytes.ensures.0, ← c.opening_bytes.ensures.0, ← c.hash_bytes.ensures.0, ← c.record_length.ensures.0) c.eq.ensures
