-- The round key at its place.
use native.Mathlib.Omega.{arith}
use mathlib.Core.Path.{ap, ◌∙◌}
use mathlib.Core.List.{[]}
use lib.ListN.{get_or}
use Rattle.std.proofs.lemmas.List.{get_or_default}
use Rattle.aes_keys.specs.Scheduled.{Schedule}
use Rattle.aes_keys.proofs.KeySchedule.stored_key.Goals as goal

pub returns : goal.returns
returns c =
    let keys = c.self.inside.round_keys in
    let i = c.args.i in
    c.columns.ensures ∙ get_or_default keys i _ [] (omega (arith, c.requires, c.self.told)) ∙ ap (λ (s : Schedule). get_or s.round_keys i []) c.self.view_is
