-- Each step on the packed word is a step on its bytes, and these make up MIXCOLUMNS.
use mathlib.Core.Path.{◌≡◌, ◌∙◌}
use Prim.Native.Nat.{ℕ}
use borrow.Author.Rules.{rules}
use lib.ListN.{length, get_or}
use mir.Syntax.{w8}
use mir.Val.{Fits}
use Rattle.aes_steps.proofs.PackedWords.{packed-word}
use Rattle.aes_steps.proofs.MixedColumns.{mix-packed}
use Rattle.aes_steps.proofs.mix_column.Goals as goal

pub returns : goal.returns
returns c =
    let a = c.args.a in
    let e : length a ≡ 4 = search rules in
    let f : (i : ℕ) → Fits w8 (get_or a i 0) = search rules in
    c.unpack.ensures
    ∙ mix-packed a _ _ _ _ _ (λ i. (f i).fits) (packed-word a _ e (λ i. (f i).fits) c.pack-w.ensures)
    c.packed_rot.ensures c.packed_xtimes.ensures
    c.packed_rot-2.ensures c.packed_rot-3.ensures
