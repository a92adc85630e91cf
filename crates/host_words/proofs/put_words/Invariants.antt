-- After i turns the first i numbers stand at the front.
use mathlib.Core.Path.{◌≡◌}
use lib.ListN.{length}
use Rattle.host_words.proofs.Words.{words_to}
use Rattle.host_words.proofs.put_words.Given as goal

abbrev pub invariant-loop-i : goal.invariant-loop-i
invariant-loop-i l = (length l.out ≡ length l.initial.out) × (l.out ≡ words_to l.words l.i l.initial.out)
