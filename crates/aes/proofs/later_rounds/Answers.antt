use mathlib.Core.Path.{◌≡◌, refl}
use Prim.Native.Nat.{◌+◌, ◌-◌}
use native.Mathlib.Omega.{arith}
use borrow.Author.Rules.{rules}
use Rattle.aes.proofs.Rounds.{after-two}
use Rattle.aes.proofs.later_rounds.Goals as goal

pub loop-i-init : goal.loop-i-init
loop-i-init c = (search rules, omega arith, refl, λ nk key a x e. e)

pub loop-i-preserved : goal.loop-i-preserved
loop-i-preserved c =
    let l = c.loop-i in (
      search rules,
      omega arith,
      omega arith,
      λ nk key a x e.
          let n = x.count in
          after-two c.args.schedule.now nk key x _ _ _ _ _ l.i (omega arith) (omega (arith, c.rounds-n.ensures)) c.stored_key.ensures
          c.stored_key-in-loop-i.ensures c.two_rounds-y.ensures (l.invariant.3 nk key a x e),
    )

pub returns : goal.returns
returns c = λ nk key a x e.
    let l = c.loop-i in
    let n = x.count in
    let i : l.i - 1 ≡ nk + 5 = omega (arith, c.rounds-n.ensures.count) in
    rw i at (l.invariant.3 nk key a x e)
