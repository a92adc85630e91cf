use Rattle.std.proofs.Common.{◌≡◌, ℕ, ◌+◌, ◌-◌, ◌*◌, ◌^◌, sym, refl, ap, ◌∙◌, zero-mul, arith, length-set}
use Rattle.spec.specs.Bytes.{big_endian}
use Rattle.generator.proofs.Carrying.{carry-on, byte-stored, all-carried}
use Rattle.generator.proofs.add_to_iv.Goals as goal

pub returns-then-carry-eq0 : goal.returns-then-carry-eq0
returns-then-carry-eq0 c =
    let l = c.loop-i in
    let v = l.invariant in
    let z : l.carry * 2 ^ (8 * (16 - (16 - l.i))) ≡ l.carry * 2 ^ 128 = rw (c.if-carry-eq0.true, zero-mul) refl in
    all-carried _ l.out _ l.carry v.1 v.2.0 (ap (λ (x : ℕ). big_endian l.out + x) (sym z) ∙ v.2.1)

pub loop-i-preserved : goal.loop-i-preserved
loop-i-preserved c =
    let l = c.loop-i in
    let v = l.invariant in
    let b = v.1 (15 - l.i) in
    let at : 15 - l.i ≡ 16 - l.i - 1 = omega arith in
    let next : 16 - (l.i + 1) ≡ 16 - l.i - 1 = omega arith in (
      omega arith,
      byte-stored l.out (15 - l.i) _ (let e = v.2.0 in omega arith) (omega arith) v.1,
      (length-set l.out (15 - l.i) _ ∙ v.2.0, rw (at, next) (carry-on _ l.out _ l.carry (16 - l.i) (omega arith) (omega arith) v.2)),
    )

pub returns : goal.returns
returns c =
    let l = c.loop-i in
    let v = l.invariant in
    let z : 16 - l.i ≡ 0 = (let t = c.loop-i-test.false in omega arith) in
    all-carried _ l.out _ l.carry v.1 v.2.0 (rw z at v.2.1)
