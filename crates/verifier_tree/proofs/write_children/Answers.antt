-- Node a is expanded, or its two children are written one after the other.
use mathlib.Core.Path.{◌≡◌, ap, ◌∙◌}
use mathlib.Core.List.{List, ◌++◌}
use Prim.Native.Nat.{ℕ, ◌+◌, ◌*◌, ◌≤◌}
use native.Mathlib.Nat.{le_refl}
use native.Mathlib.Omega.{arith}
use lib.ListN.{take, drop}
use Rattle.spec.specs.Bytes.{part}
use Rattle.laws.proofs.Tests.{failed, passed}
use Rattle.verifier_tree.specs.ByNodes.{at_or_after, read_with}
use Rattle.laws.proofs.Concat.{mul-limit}
use Rattle.tree.proofs.Growing.{node-place}
use Rattle.verifier_tree.proofs.Places.{node-passed, node_kept, children-kept}
use Rattle.verifier_tree.proofs.Children.{other-reads, other-children, listed-reads, left-within, right-within, listed-children}
use Rattle.job.specs.Versions.{primitives_of}
use Rattle.verifier_tree.proofs.write_children.Goals as goal

-- node a is small, since its children are in the tree
small : (w a d : ℕ) → 16 ≤ w → w * (2 * a + 3) ≤ d → 16 * (2 * a + 3) ≤ d
small w a d h l = (let m = mul-limit 16 (2 * a + 3) w (2 * a + 3) h (le_refl (2 * a + 3)) in omega arith)

-- where the children of node a stand in the tree
left-room : (w a d : ℕ) → w * (2 * a + 3) ≤ d → w * (2 * a + 1) + w ≤ d
left-room w a d h = (let x = node-place w a 1 in let y = node-place w a 3 in omega arith)

right-room : (w a d : ℕ) → w * (2 * a + 3) ≤ d → w * (2 * a + 2) + w ≤ d
right-room w a d h = (let x = node-place w a 2 in let y = node-place w a 3 in omega arith)

pub expand_node-requires : goal.expand_node-requires
expand_node-requires c = (let p = c.requires in (p.7, p.8, p.9, p.5, p.6))

pub returns-then-not-is_next : goal.returns-then-not-is_next
unfolding primitives_of
returns-then-not-is_next c =
    let g = c.args in
    let p = c.requires in
    let nodes = g.nodes.now in
    let d = g.tree.now in
    let m = failed c.is_next.ensures c.if-not-is_next.true in (
      (
        p.2.0 ∙ node_kept nodes g.a p.0 m,
        p.2.1 ∙ children-kept nodes g.a p.0 p.1 m,
        p.2.2 ∙ other-reads g.w nodes g.slots.now g.n g.a p.1 p.3 m,
      ),
      λ s ok e. c.expand_node.ensures s ok e
          ∙ ap (λ (y : List ℕ). take (g.w * (2 * g.a + 1)) d ++ (y ++ drop (g.w * (2 * g.a + 3)) d))
          (other-children g.w nodes g.slots.now g.n g.a p.1 p.3 s g.iv (part d (g.w * g.a) g.w) m),
    )

pub overflow_mul-a : goal.overflow_mul-a
overflow_mul-a c = (let m = small c.args.w c.args.a _ c.requires.7 c.requires.5 in omega (arith, c.requires.6))

pub overflow_add-a : goal.overflow_add-a
overflow_add-a c = (let m = small c.args.w c.args.a _ c.requires.7 c.requires.5 in omega (arith, c.requires.6))

pub write_child-left-requires : goal.write_child-left-requires
write_child-left-requires c =
    let g = c.args in
    let p = c.requires in
    let m = passed c.is_next.ensures c.if-not-is_next.false in
    (p.0, p.2.1, left-within g.w g.nodes.now g.slots.now g.n g.a p.1 p.3 g.p.read m p.2.2, p.4, left-room g.w g.a _ p.5)

pub overflow_mul-a-2 : goal.overflow_mul-a-2
overflow_mul-a-2 c = (let m = small c.args.w c.args.a _ c.requires.7 c.requires.5 in omega (arith, c.requires.6))

pub overflow_add-a-2 : goal.overflow_add-a-2
overflow_add-a-2 c = (let m = small c.args.w c.args.a _ c.requires.7 c.requires.5 in omega (arith, c.requires.6))

pub write_child-both-requires : goal.write_child-both-requires
write_child-both-requires c =
    let g = c.args in
    let p = c.requires in
    let m = passed c.is_next.ensures c.if-not-is_next.false in
    let w = c.write_child-left in (
      p.0,
      w.ensures.0 ∙ ap (at_or_after g.nodes.now) (let z : 2 * g.a + 1 + 1 ≡ 2 * g.a + 2 = omega arith in z),
      right-within g.w g.nodes.now g.slots.now g.n g.a p.1 p.3 g.p.read w.result.read m p.2.2 w.ensures.1,
      p.4,
      right-room g.w g.a _ (rw w.auto.tree p.5),
    )

pub overflow_sub-result : goal.overflow_sub-result
overflow_sub-result c =
    let z =
    node-passed c.args.nodes.now c.args.a c.requires.0
    (passed c.is_next.ensures c.if-not-is_next.false) in
    omega (arith, c.requires.2.0)

pub returns : goal.returns
returns c =
    let g = c.args in
    let p = c.requires in
    let nodes = g.nodes.now in
    let m = passed c.is_next.ensures c.if-not-is_next.false in
    let v = c.write_child-left in
    let w = c.write_child-both in (
      (
        (let z = node-passed nodes g.a p.0 m in omega (arith, p.2.0)),
        w.ensures.0 ∙ ap (at_or_after nodes) (let z : 2 * g.a + 2 + 1 ≡ 2 * (g.a + 1) + 1 = omega arith in z),
        w.ensures.1
            ∙ ap (read_with nodes (2 * g.a + 2)) (v.ensures.1 ∙ ap (read_with nodes (2 * g.a + 1)) p.2.2)
            ∙ listed-reads g.w nodes g.slots.now g.n g.a p.1 p.3 m,
      ),
      λ s ok e.
          listed-children g.w nodes g.slots.now g.n g.a p.1 p.3 s g.iv (part g.tree.now (g.w * g.a) g.w) g.p.read v.result.read g.tree.now
          v.new.tree w.new.tree m p.2.2 v.ensures.1 p.4 p.5 v.ensures.2 w.ensures.2,
    )
