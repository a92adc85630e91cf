use mathlib.Core.Path.{◌≡◌, sym, ap, ◌∙◌}
use Prim.Native.Nat.{◌+◌, ◌-◌}
use native.Mathlib.Omega.{arith}
use Rattle.spec.specs.Aes.{bytes_of, rounds, key_expansion}
use Rattle.aes.proofs.Rounds.{steps-round, after-none, after-more, cipher-is}
use Rattle.aes.proofs.encrypt_pair.Goals as goal
use Rattle.aes.proofs.encrypt_pair.Goals.{then-n-gt-FEWEST, else-n-gt-FEWEST}

pub loop-i-init : goal.loop-i-init
loop-i-init c = λ nk key x. let none = after-none c.args.schedule.now nk key x in (none _, none _)

pub loop-i-preserved : goal.loop-i-preserved
loop-i-preserved c = λ nk key x.
    let l = c.loop-i in
    let n = x.count in
    let one = steps-round _ _ _ _ _ _ c.sub_bytes.ensures c.shift_rows.ensures c.mix_columns-c.ensures c.add_round_key-e.ensures in
    let two = steps-round _ _ _ _ _ _ c.sub_bytes-in-loop-i.ensures c.shift_rows-in-loop-i.ensures c.mix_columns-d.ensures c.add_round_key-f.ensures in
    let more = after-more c.args.schedule.now nk key x in
    let before = l.invariant nk key x in (
      more _ _ _ _ l.i (omega arith) (omega (arith, c.rounds-n.ensures)) c.stored_key-in-loop-i.ensures one before.0,
      more _ _ _ _ l.i (omega arith) (omega (arith, c.rounds-n.ensures)) c.stored_key-in-loop-i-2.ensures two before.1,
    )

pub returns-clause-first : goal.returns-clause-first
returns-clause-first c = λ nk key x.
    let w = key_expansion nk key in
    let n = c.rounds-n in
    let l = c.loop-i in
    let count = x.count in
    let nine : l.i - 1 ≡ 9 = omega arith in
    let nth : n.result - 1 ≡ nk + 5 = omega (arith, n.ensures.count) in
    let ninth = (l.invariant nk key x).0 in
    let before-last : c.if-n-gt-FEWEST.x ≡ rounds w c.add_round_key-x.result (n.result - 1) =
    elim c.if-n-gt-FEWEST.branch [
      | then-n-gt-FEWEST t ↦ t.x-is ∙ t.later_rounds-c.ensures nk key _ x (rw nine at ninth) ∙ ap (rounds w c.add_round_key-x.result) (sym nth)
      | else-n-gt-FEWEST t ↦ let same : l.i - 1 ≡ n.result - 1 = omega (arith, t.if-n-gt-FEWEST.false, n.ensures.bounds) in t.x-is ∙ rw same at ninth
    ] in
    c.bytes_of.ensures
    ∙ ap bytes_of (cipher-is c.args.schedule.now nk key x _ _ _ _ _ _ n.result n.ensures.count c.stored_key.ensures c.add_round_key-x.ensures before-last c.stored_key-3.ensures c.last_round.ensures)

pub returns-clause-second : goal.returns-clause-second
returns-clause-second c = λ nk key x.
    let w = key_expansion nk key in
    let n = c.rounds-n in
    let l = c.loop-i in
    let count = x.count in
    let nine : l.i - 1 ≡ 9 = omega arith in
    let nth : n.result - 1 ≡ nk + 5 = omega (arith, n.ensures.count) in
    let ninth = (l.invariant nk key x).1 in
    let before-last : c.if-n-gt-FEWEST.y ≡ rounds w c.add_round_key-y.result (n.result - 1) =
    elim c.if-n-gt-FEWEST.branch [
      | then-n-gt-FEWEST t ↦ t.y-is ∙ t.later_rounds-d.ensures nk key _ x (rw nine at ninth) ∙ ap (rounds w c.add_round_key-y.result) (sym nth)
      | else-n-gt-FEWEST t ↦ let same : l.i - 1 ≡ n.result - 1 = omega (arith, t.if-n-gt-FEWEST.false, n.ensures.bounds) in t.y-is ∙ rw same at ninth
    ] in
    c.bytes_of-2.ensures
    ∙ ap bytes_of (cipher-is c.args.schedule.now nk key x _ _ _ _ _ _ n.result n.ensures.count c.stored_key-2.ensures c.add_round_key-y.ensures before-last c.stored_key-4.ensures c.last_round-2.ensures)
