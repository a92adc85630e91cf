use mathlib.Core.Path.{◌≡◌, sym, ap, ◌∙◌}
use Prim.Native.Nat.{ℕ, ◌+◌, ◌*◌}
use native.Mathlib.Nat.{mul-zero}
use native.Mathlib.Omega.{arith}
use lib.ListN.{length, take}
use lib.Seq.{take_all}
use Rattle.spec.specs.Bytes.{concat}
use Rattle.spec.specs.Shapes.{level, node_bytes, first_bit}
use Rattle.spec.specs.Version1.{decommitment, opening1_of, decommitment_from, opening1_bytes}
use Rattle.planning_laws.proofs.Depths.{bit-none}
use Rattle.planning_laws.proofs.ShapeFacts.{shape-facts, bit-all}
use Rattle.v1_opening.proofs.write_opening.Goals as goal

pub loop-i-init : goal.loop-i-init
unfolding concat decommitment_from
loop-i-init c =
    let s = c.args.s in
    let none : node_bytes s * (first_bit s 0 + 2 * 0) ≡ 0 = ap (λ (m : ℕ). node_bytes s * m) (let e = bit-none s in let z : first_bit s 0 + 2 * 0 ≡ 0 = omega arith in z) ∙ mul-zero (node_bytes s) in
    (omega arith, c.requires.trees_len.2, ap (λ (m : ℕ). take m c.args.opening.now) none)

pub write_vector-requires : goal.write_vector-requires
write_vector-requires c =
    let p = c.requires in
    record { s_value = (p.s_value.0, p.s_value.1, p.s_value.2, omega arith); trees_len = (p.trees_len.0, p.trees_len.1, c.loop-i.invariant.1) }

pub loop-i-preserved : goal.loop-i-preserved
loop-i-preserved c =
    let l = c.loop-i in
    let made = c.write_vector in
    (omega arith, made.auto.opening ∙ l.invariant.1, made.ensures l.invariant.2)

pub returns : goal.returns
unfolding opening1_of decommitment_from opening1_bytes
returns c =
    let g = c.args in
    let s = g.s in
    let l = c.loop-i in
    let w = c.requires.s_value.1 in
    let last : l.i ≡ s.tau = omega arith in
    let bits = ap (first_bit s) last in
    let all = bit-all s (shape-facts s c.requires.s_value.0) in
    let long : length l.opening ≡ node_bytes s * (first_bit s l.i + 2 * l.i) = l.invariant.1 ∙ ap (λ (m : ℕ). node_bytes s * m) (let z : level s + 2 * s.tau ≡ first_bit s l.i + 2 * l.i = omega arith in z) in
    sym (take_all (decommitment_from s l.i) l.opening (omega arith)) ∙ l.invariant.2 ∙ ap (λ (m : ℕ). concat m (decommitment s g.ch.now g.trees.now g.lcs.now)) last
