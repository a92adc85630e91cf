-- By the test whether the count is given.
use mathlib.Core.Path.{refl, sym, ◌∙◌}
use Rattle.spec.specs.HostCalls.{count_slice}
use Rattle.host_words.proofs.give.Goals as goal

pub put_word-requires : goal.put_word-requires
put_word-requires c = c.requires (sym c.count_given.ensures ∙ c.if-count_given.true)

pub returns-then-count_given : goal.returns-then-count_given
unfolding count_slice
returns-then-count_given c =
    (refl, rw (sym c.count_given.ensures ∙ c.if-count_given.true) c.put_word.ensures)

pub returns-else-count_given : goal.returns-else-count_given
unfolding count_slice
returns-else-count_given c = (refl, rw (sym c.count_given.ensures ∙ c.if-count_given.false) refl)
