-- Word by word, of which the first has the number i + 0 in the definition.
use mathlib.Core.Path.{sym, ap, ◌∙◌}
use native.Mathlib.Nat.{add-zero}
use Rattle.spec.specs.Aes.{word_at}
use Rattle.aes_keys.proofs.four_words.Goals as goal

pub returns : goal.returns
returns c =
    let g = c.args in
    let first = c.word.ensures ∙ ap (word_at g.b.now) (sym (add-zero g.i)) in
    cc (first, c.word-2.ensures, c.word-3.ensures, c.word-4.ensures)
