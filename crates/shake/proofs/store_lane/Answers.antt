use mathlib.Core.Path.{◌≡◌, sym, ap, ◌∙◌}
use mathlib.Core.List.{List}
use Prim.Native.Nat.{ℕ}
use native.Mathlib.Omega.{arith}
use lib.ListN.{length, set}
use Rattle.laws.proofs.Filling.{filled_none, filled-set, filled-end, length-filled}
use Rattle.spec.specs.Bytes.{tabulate, digits}
use Rattle.shake.proofs.store_lane.Invariants.{byte}
use Rattle.shake.proofs.store_lane.Goals as goal

pub loop-i-init : goal.loop-i-init
loop-i-init c = sym (filled_none (byte c.args.x) c.args.out.now)

pub bounds-out-i : goal.bounds-out-i
bounds-out-i c =
    let l = c.loop-i in
    let same = ap length l.invariant ∙ length-filled (byte c.args.x) c.args.out.now l.i (omega arith) in
    omega arith

pub loop-i-preserved : goal.loop-i-preserved
loop-i-preserved c =
    let a = c.args in
    let l = c.loop-i in
    ap (λ (t : List ℕ). set t l.i (byte a.x l.i)) l.invariant ∙ filled-set (byte a.x) a.out.now l.i (omega arith)

pub shape_of-out : goal.shape_of-out
shape_of-out c =
    let a = c.args in
    let l = c.loop-i in
    ap length l.invariant ∙ length-filled (byte a.x) a.out.now l.i (omega arith)

pub returns : goal.returns
unfolding digits
returns c =
    let l = c.loop-i in
    let all : l.i ≡ 8 = omega arith in
    l.invariant ∙ filled-end (byte c.args.x) c.args.out.now l.i (omega arith) ∙ ap (λ (n : ℕ). tabulate n (byte c.args.x)) all
