-- By the length of the text: 32, 33, or another.
use mathlib.Core.Path.{◌∙◌}
use Rattle.listing_line.proofs.Challenge.{challenge-32, challenge-33, challenge-else}
use Rattle.listing_line.proofs.challenge_ok.Goals as goal

pub returns-then-n-eq32 : goal.returns-then-n-eq32
returns-then-n-eq32 c = c.hex_below.ensures ∙ challenge-32 _ c.if-n-eq32.true

pub returns-then-n-eq33 : goal.returns-then-n-eq33
returns-then-n-eq33 c = rw c.hex_below-then-n-eq33.ensures (challenge-33 _ c.if-n-eq33.true)

pub returns : goal.returns
returns c = challenge-else _ c.if-n-eq32.false c.if-n-eq33.false
