use Prim.Native.Nat.{◌+◌, ◌-◌, ◌<◌}
use mathlib.Core.Path.{◌≡◌, ◌∙◌}
use native.Mathlib.Omega.{arith}
use Rattle.spec.specs.Challenge.{index_at}
use Rattle.planning_laws.proofs.Bits.{bit-lt, index-none, index-lt, index-small, index-step, index-all}
use Rattle.challenge.proofs.index.Goals as goal

pub loop-j-init : goal.loop-j-init
loop-j-init c = index-none _ _ _ (omega arith)

pub overflow_mul-v : goal.overflow_mul-v
overflow_mul-v c =
    let a = c.args in
    let l = c.loop-j in
    omega (arith, index-small a.ch.now (a.at + l.j) (a.k - l.j) (omega arith))

pub overflow_add-v : goal.overflow_add-v
overflow_add-v c =
    let a = c.args in
    let l = c.loop-j in
    let r : c.bit.result < 2 = rw c.bit.ensures (bit-lt _ _) in
    omega (arith, index-small a.ch.now (a.at + l.j) (a.k - l.j) (omega arith))

pub loop-j-preserved : goal.loop-j-preserved
loop-j-preserved c =
    let a = c.args in
    let l = c.loop-j in
    cc (index-step a.ch.now a.at a.k l.j (omega arith) (omega arith))

pub returns : goal.returns
returns c =
    let a = c.args in
    let l = c.loop-j in
    let e : l.v ≡ index_at a.ch.now a.at a.k = l.invariant ∙ index-all a.ch.now a.at a.k l.j (omega arith) in
    (e, rw e (index-lt a.ch.now a.at a.k))
