-- Column by column.
use mathlib.Core.Path.{◌≡◌}
use borrow.Author.Rules.{rules}
use lib.ListN.{length}
use Rattle.aes_keys.proofs.Schedules.{four}
use Rattle.aes_keys.proofs.RoundKey.of.Goals as goal

pub returns : goal.returns
returns c =
    let g = c.args in
    let ea : length g.a ≡ 4 = search rules in
    let eb : length g.b ≡ 4 = search rules in
    let ec : length g.c ≡ 4 = search rules in
    let ed : length g.d ≡ 4 = search rules in
    cc (four 0 g.a ea, four 0 g.b eb, four 0 g.c ec, four 0 g.d ed)
