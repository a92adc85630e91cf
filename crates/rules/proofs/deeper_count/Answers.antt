-- The bits of the vectors and the grinding bits are at most the level's.
use native.Mathlib.Omega.{arith}
use Rattle.planning_laws.proofs.ShapeFacts.{shape-facts, deeper-is}
use Rattle.rules.proofs.deeper_count.Goals as goal

pub overflow_sub-result : goal.overflow_sub-result
overflow_sub-result c = (let f = shape-facts c.args.s c.requires in omega (arith, f.total))

pub overflow_mul-result : goal.overflow_mul-result
overflow_mul-result c = (let f = shape-facts c.args.s c.requires in omega (arith, f.total))

pub overflow_sub-result-2 : goal.overflow_sub-result-2
overflow_sub-result-2 c = (let f = shape-facts c.args.s c.requires in omega (arith, f.total))

pub returns : goal.returns
returns c =
    let s = c.args.s in
    let f = shape-facts s c.requires in
    let d = deeper-is s in
    let l = c.level_bits.ensures.0 in
    (omega arith, omega (arith, f.few))
