use mathlib.Core.Path.{◌≡◌}
use Prim.Native.Nat.{◌+◌, ◌-◌}
use native.Mathlib.Omega.{arith}
use lib.Seq.{take-add, take_all}
use Rattle.shake.proofs.Absorbing.{absorbs-none, absorbs_more}
use Rattle.shake.proofs.Sponge.absorb.Goals as goal

pub loop-at-init : goal.loop-at-init
loop-at-init c = (omega arith, absorbs-none c.args.self)

pub loop-at-smaller : goal.loop-at-smaller
loop-at-smaller c =
    let room = c.loop-at.sponge.room in
    omega arith

pub loop-at-preserved : goal.loop-at-preserved
loop-at-preserved c =
    let l = c.loop-at in
    let n = c.min-n.result in
    let e : l.at + n - l.at ≡ n = omega arith in
    (omega arith, rw take-add (absorbs_more l.invariant.1 (rw e at c.absorb_part-sponge.ensures)))

pub returns : goal.returns
returns c =
    let l = c.loop-at in
    rw (take_all l.at c.args.message.now c.loop-at-test.false) at l.invariant.1
