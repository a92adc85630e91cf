-- The grinding bits end with the challenge's last bit.
use mathlib.Core.Path.{ap, ◌∙◌}
use Prim.Native.Nat.{ℕ}
use native.Mathlib.Omega.{arith}
use Rattle.spec.specs.Challenge.{clear_at}
use Rattle.spec.specs.Shapes.{grinding_ok}
use Rattle.planning_laws.proofs.ShapeFacts.{shape-facts, widths, bit-all}
use Rattle.challenge.proofs.grinding_ok.Goals as goal

pub first_bit-requires : goal.first_bit-requires
first_bit-requires c = (c.requires.0, omega arith)

pub clear-requires : goal.clear-requires
clear-requires c =
    let s = c.args.s in
    let p = c.requires in
    let f = shape-facts s p.0 in
    let w = widths s f in
    let b = bit-all s f in
    let e = c.first_bit.ensures.0 in
    (omega (arith, p.1), omega (arith, p.1))

pub returns : goal.returns
unfolding grinding_ok
returns c =
    let s = c.args.s in
    c.clear.ensures ∙ ap (λ (n : ℕ). clear_at c.args.ch.now n s.w) c.first_bit.ensures.0
