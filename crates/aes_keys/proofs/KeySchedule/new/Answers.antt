-- The round keys are stored as they are, and they are those of the key.
use native.Mathlib.Omega.{arith}
use Rattle.aes_keys.proofs.KeySchedule.new.Goals as goal

pub of_round_keys-requires : goal.of_round_keys-requires
of_round_keys-requires c = let p = c.requires in (omega (arith, p.0), omega (arith, p.1), omega (arith, p.2))

pub returns : goal.returns
returns c = record { count = c.of_round_keys.ensures.count; keyed = rw c.of_round_keys.ensures.keys c.key_schedule.ensures }
