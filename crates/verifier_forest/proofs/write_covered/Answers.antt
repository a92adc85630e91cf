-- Both children are within the tree, and the second put leaves the first as it is.
use Prim.Native.Nat.{◌*◌}
use native.Mathlib.Omega.{arith}
use Rattle.laws.proofs.Lists.{length_part}
use Rattle.verifier_forest.proofs.Pair.{places, written}
use Rattle.verifier_forest.proofs.write_covered.Goals as goal

pub overflow_mul-from : goal.overflow_mul-from
overflow_mul-from c = (let q = c.requires in let p = places c.args.w c.args.a c.args.b _ q.0 q.1 q.3 in omega (arith, c.requires.4))

pub overflow_add-from : goal.overflow_add-from
overflow_add-from c = (let q = c.requires in let p = places c.args.w c.args.a c.args.b _ q.0 q.1 q.3 in omega (arith, c.requires.4))

pub overflow_add-from-2 : goal.overflow_add-from-2
overflow_add-from-2 c = (let q = c.requires in let p = places c.args.w c.args.a c.args.b _ q.0 q.1 q.3 in omega (arith, c.requires.4))

pub overflow_mul-from-2 : goal.overflow_mul-from-2
overflow_mul-from-2 c = (let q = c.requires in let p = places c.args.w c.args.a c.args.b _ q.0 q.1 q.3 in omega (arith, c.requires.4))

pub overflow_add-from-3 : goal.overflow_add-from-3
overflow_add-from-3 c = (let q = c.requires in let p = places c.args.w c.args.a c.args.b _ q.0 q.1 q.3 in omega (arith, c.requires.4))

pub slice_bounds-clear_from-end : goal.slice_bounds-clear_from-end
slice_bounds-clear_from-end c = (let q = c.requires in let p = places c.args.w c.args.a c.args.b _ q.0 q.1 q.3 in omega arith)

pub overflow_mul-a : goal.overflow_mul-a
overflow_mul-a c = (let q = c.requires in let p = places c.args.w c.args.a c.args.b _ q.0 q.1 q.3 in omega (arith, c.requires.4))

pub overflow_add-a : goal.overflow_add-a
overflow_add-a c = (let q = c.requires in let p = places c.args.w c.args.a c.args.b _ q.0 q.1 q.3 in omega (arith, c.requires.4))

pub overflow_mul-w-2 : goal.overflow_mul-w-2
overflow_mul-w-2 c = (let q = c.requires in let p = places c.args.w c.args.a c.args.b _ q.0 q.1 q.3 in omega (arith, c.requires.4))

pub copy_part-requires : goal.copy_part-requires
copy_part-requires c =
    let q = c.requires in let p = places c.args.w c.args.a c.args.b _ q.0 q.1 q.3 in
    (c.requires.2, omega (arith, c.clear_from.auto.out))

pub returns : goal.returns
returns c =
    let g = c.args in
    let p = c.requires in
    written g.w g.a g.b g.tree.now _ _ p.0 p.1 p.3 (length_part g.slots.now (g.w * g.l) g.w p.2) c.clear_from.ensures _
    c.copy_part.ensures
