use mathlib.Core.Path.{◌≡◌}
use Prim.Native.Nat.{◌-◌}
use native.Mathlib.Omega.{arith}
use borrow.Author.Rules.{rules}
use Rattle.aes.proofs.Rounds.{steps-round, after-none, after-more, after-two, cipher-is}
use Rattle.aes.proofs.encrypt.Goals as goal

pub loop-i-init : goal.loop-i-init
loop-i-init c = λ nk key x. after-none c.args.schedule.now nk key x _

pub loop-i-preserved : goal.loop-i-preserved
loop-i-preserved c = λ nk key x.
    let l = c.loop-i in
    let n = x.count in
    let one = steps-round _ _ _ _ _ _ c.sub_bytes.ensures c.shift_rows.ensures c.mix_columns.ensures c.add_round_key-y.ensures in
    after-more c.args.schedule.now nk key x _ _ _ _ l.i (omega arith) (omega (arith, c.rounds-n.ensures)) c.stored_key-in-loop-i.ensures one (l.invariant nk key x)

pub loop-i-2-init : goal.loop-i-2-init
loop-i-2-init c = (omega arith, omega arith, omega arith, λ nk key a x e. e)

pub loop-i-2-preserved : goal.loop-i-2-preserved
loop-i-2-preserved c =
    let l = c.loop-i-2 in (
      search rules,
      omega arith,
      omega arith,
      λ nk key a x e.
          let n = x.count in
          after-two c.args.schedule.now nk key x _ _ _ _ _ l.i (omega arith) (omega (arith, c.rounds-n.ensures)) c.stored_key-in-loop-i-2.ensures
          c.stored_key-in-loop-i-2-2.ensures c.two_rounds-y.ensures (l.invariant.3 nk key a x e),
    )

pub returns : goal.returns
returns c = λ nk key x.
    let n = c.rounds-n in
    let l = c.loop-i in
    let m = c.loop-i-2 in
    let nine : l.i - 1 ≡ 9 = omega arith in
    let all : m.i - 1 ≡ n.result - 1 = omega arith in
    cipher-is c.args.schedule.now nk key x _ _ _ _ _ _ n.result n.ensures.count c.stored_key.ensures c.add_round_key-x.ensures
    (rw all at (m.invariant.3 nk key _ x (rw nine at (l.invariant nk key x)))) c.stored_key-2.ensures c.last_round.ensures
