-- The number of four digits, written out.
use mathlib.Core.Path.{◌≡◌}
use native.Mathlib.Omega.{arith}
use borrow.Author.Rules.{rules}
use lib.ListN.{length}
use Rattle.aes_steps.proofs.PackedWords.{number_word}
use Rattle.aes_steps.proofs.pack.Goals as goal

pub returns : goal.returns
returns c =
    let a = c.args.a in
    let e : length a ≡ 4 = search rules in
    omega (arith, number_word a e)
