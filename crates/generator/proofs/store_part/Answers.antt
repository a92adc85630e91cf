use Rattle.std.proofs.Common.{◌≡◌, refl, arith, length-set, rules}
use Rattle.generator.proofs.Storing.{continued-none, continued-more}
use Rattle.generator.proofs.store_part.Goals as goal

pub loop-k-init : goal.loop-k-init
loop-k-init c = let a = c.args in (search rules, search rules, continued-none a.block _ a.from a.p)

pub bounds-out-p : goal.bounds-out-p
bounds-out-p c = let e = c.loop-k.invariant.1 in omega arith

pub loop-k-preserved : goal.loop-k-preserved
loop-k-preserved c =
    let a = c.args in
    let l = c.loop-k in
    let e = l.invariant.1 in
    (search rules, simp length-set e, continued-more a.block _ a.from a.p l.out l.k _ (omega arith) (omega arith) refl l.invariant.2)

pub shape_of-out : goal.shape_of-out
shape_of-out c = c.loop-k.invariant.1

pub returns : goal.returns
returns c =
    let l = c.loop-k in
    let e : l.k ≡ c.min-n.result = omega arith in
    record {
      forward = omega arith;
      inside = omega arith;
      some = λ h. omega arith;
      whole = λ h. omega arith;
      written = rw e at l.invariant.2;
    }
