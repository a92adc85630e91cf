-- A list of four columns is these columns.
use mathlib.Core.Path.{◌≡◌, ◌∙◌}
use mathlib.Core.List.{[]}
use borrow.Author.Rules.{rules}
use lib.ListN.{length}
use Rattle.aes_keys.proofs.Schedules.{four}
use Rattle.aes_keys.proofs.stored.Goals as goal

pub returns : goal.returns
returns c = (let e : length c.args.k ≡ 4 = search rules in c.of.ensures ∙ four [] c.args.k e)
