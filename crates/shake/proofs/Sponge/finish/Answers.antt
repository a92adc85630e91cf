-- The padding is one more part, and with it the message is whole blocks.
use mathlib.Core.Path.{sym, ap, ◌∙◌}
use Prim.Native.Nat.{◌-◌}
use native.Mathlib.Omega.{arith}
use lib.ListN.{length}
use Rattle.spec.specs.Sponge.{shake_suffix}
use Rattle.shake.proofs.Absorbing.{length-padding, holds-all}
use Rattle.shake.proofs.Sponge.finish.Goals as goal

pub slice_bounds-absorb_part-end : goal.slice_bounds-absorb_part-end
slice_bounds-absorb_part-end c =
    let s = c.args.self in
    let room = s.room in
    sym (ap length c.padding_block-block.ensures ∙ length-padding shake_suffix (s.rate - s.fill) (omega arith))

pub absorb_part-requires : goal.absorb_part-requires
absorb_part-requires c =
    let s = c.args.self in
    let room = s.room in
    let n = ap length c.padding_block-block.ensures ∙ length-padding shake_suffix (s.rate - s.fill) (omega arith) in
    omega arith

pub returns : goal.returns
returns c =
    let s = c.args.self in
    let padded = c.absorb_part.result in
    let rate = c.absorb_part.ensures.rate in
    (rate, λ m h. holds-all s.rate shake_suffix m s.lanes s.fill h padded.lanes padded.fill (rw (rate, c.padding_block-block.ensures) at (c.absorb_part.ensures.holds m h)))
