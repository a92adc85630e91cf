use Rattle.std.proofs.Common.{◌≡◌, ℕ, get_or, sym, ap, zero-add, arith, length-set, rules}
use Rattle.generator.proofs.Storing.{continued-none, continued-more}
use Rattle.generator.proofs.store_whole.Goals as goal

pub loop-k-init : goal.loop-k-init
loop-k-init c = (search rules, search rules, continued-none c.args.block _ 0 c.args.p)

pub bounds-out-p : goal.bounds-out-p
bounds-out-p c = let e = c.loop-k.invariant.1 in omega arith

pub loop-k-preserved : goal.loop-k-preserved
loop-k-preserved c =
    let a = c.args in
    let l = c.loop-k in
    let e = l.invariant.1 in (
      search rules,
      simp length-set e,
      continued-more a.block _ 0 a.p l.out l.k _ (omega arith) (omega arith) (ap (λ (i : ℕ). get_or a.block i 0) (sym (zero-add l.k))) l.invariant.2,
    )

pub shape_of-out : goal.shape_of-out
shape_of-out c = c.loop-k.invariant.1

pub returns : goal.returns
returns c =
    let l = c.loop-k in
    let e : l.k ≡ 16 = omega arith in
    record {
      forward = omega arith;
      inside = omega arith;
      some = λ h. omega arith;
      whole = λ h. omega arith;
      written = rw e at l.invariant.2;
    }
