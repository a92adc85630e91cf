-- The round key at its place is the key's, by the schedule that it is.
use mathlib.Core.Path.{◌∙◌}
use native.Mathlib.Omega.{arith}
use Rattle.aes_keys.proofs.Schedules.{round-key-at}
use Rattle.aes_keys.proofs.KeySchedule.round_key.Goals as goal

pub returns : goal.returns
returns c = λ nk key x.
    let n = x.count in
    c.stored_key.ensures ∙ round-key-at nk key c.args.self.now.round_keys c.args.i x.keyed (omega (arith, c.requires))
