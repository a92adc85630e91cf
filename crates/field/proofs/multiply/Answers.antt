use Prim.Native.Nat.{◌-◌}
use native.Mathlib.Omega.{arith}
use Rattle.spec.specs.Bytes.{zeros}
use Rattle.field.proofs.Elements.{number-zeros}
use Rattle.field.proofs.Products.{multiplied-none, multiplied-next, multiplied-all}
use Rattle.field.proofs.multiply.Goals as goal

pub loop-j-init : goal.loop-j-init
unfolding zeros
loop-j-init g c = multiplied-none g.met.F.Field.laws c.args.t.now c.args.s.now (zeros g.row.N) (number-zeros g.row.N)

pub loop-j-preserved : goal.loop-j-preserved
loop-j-preserved g c =
    let l = c.loop-j in
    multiplied-next g.met.F.Field.laws c.args.t.now c.args.s.now l.r c.window-high.result c.window-r.result l.j (omega arith) (omega arith) (c.type_inv.s (l.j - 1)).fits
    c.window-high.ensures c.window-r.ensures l.invariant

pub returns : goal.returns
returns g c =
    let l = c.loop-j in
    multiplied-all g.met.F.Field.laws c.args.t.now c.args.s.now l.r l.j (omega arith) l.invariant
