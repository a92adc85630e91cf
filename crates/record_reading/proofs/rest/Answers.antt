-- Each place of the record is the place behind the field before it, where the reader stands.
use native.Mathlib.Omega.{arith}
use mathlib.Core.Path.{refl, ◌∙◌}
use Rattle.record.specs.Record.{rest_ok, corrections_place, opening_place, commitment_place, record_end}
use Rattle.record_reading.proofs.rest.Goals as goal

pub rest_of-requires : goal.rest_of-requires
rest_of-requires c = omega (arith, c.requires.most)

pub returns : goal.returns
unfolding rest_ok corrections_place opening_place commitment_place record_end
returns c =
    let p = c.requires in
    c.rest_of.ensures ∙ rw (p.head, p.challenge, p.corrections, p.opening, p.commitment) refl
