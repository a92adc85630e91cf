-- The bits of vector i lie in the challenge.
use Prim.Native.Nat.{◌<◌}
use mathlib.Core.Path.{ap₂, ◌∙◌}
use native.Mathlib.Omega.{arith}
use native.Mathlib.Nat.{lt_of_lt_of_le}
use Rattle.spec.specs.Challenge.{index_at}
use Rattle.spec.specs.Shapes.{entries_of, hidden_index}
use Rattle.planning_laws.proofs.ShapeFacts.{shape-facts, widths, vector-bits, entries-small}
use Rattle.challenge.proofs.hidden_index.Goals as goal

pub index-requires : goal.index-requires
index-requires c =
    let a = c.args in
    let p = c.requires in
    let f = shape-facts a.s p.0 in
    let w = widths a.s f in
    let v = vector-bits a.s a.i f p.2 in
    let e = c.first_bit.ensures.0 in
    let d = c.depth_of.ensures in
    (omega (arith, p.1), omega (arith, p.1), d.1)

pub returns : goal.returns
unfolding hidden_index entries_of
returns c =
    let a = c.args in
    let f = shape-facts a.s c.requires.0 in
    let e = c.first_bit.ensures.0 in
    let d = c.depth_of.ensures.0 in
    let r = c.index.ensures in
    let l : c.index.result < entries_of a.s a.i = rw (← d) r.1 in
    (r.0 ∙ ap₂ (index_at a.ch.now) e d, l, lt_of_lt_of_le l (entries-small a.s a.i f))
