-- A listed node is cleared and takes no slot, and one of the list is passed; any other is copied from the next slot.
use mathlib.Core.Path.{sym, ap, ◌∙◌}
use mathlib.Core.List.{List, ◌++◌}
use Prim.Native.Nat.{ℕ, ◌+◌, ◌-◌, ◌*◌}
use native.Mathlib.Omega.{arith}
use lib.ListN.{take, drop}
use Rattle.laws.proofs.Concat.{mul-within}
use Rattle.verifier_tree.proofs.Places.{node-passed, node_kept}
use Rattle.verifier_tree.proofs.Children.{put-zeros, listed-read, other-read, listed-node, other-node}
use Rattle.verifier_tree.proofs.write_child.Goals as goal

pub overflow_sub-result : goal.overflow_sub-result
overflow_sub-result c =
    let z = node-passed c.args.nodes.now c.args.c c.requires.0 (sym c.is_next.ensures ∙ c.if-is_next.true) in
    omega arith

pub returns-then-is_next : goal.returns-then-is_next
returns-then-is_next c =
    let g = c.args in
    let p = c.requires in
    let nodes = g.nodes.now in
    let d = g.tree.now in
    let m = sym c.is_next.ensures ∙ c.if-is_next.true in (
      (let z = node-passed nodes g.c p.0 m in omega arith),
      listed-read g.w nodes g.slots.now g.n g.p.read g.c m,
      put-zeros (g.w * g.c) g.w d c.clear_from.new.out (omega arith) c.clear_from.ensures
          ∙ ap (λ (y : List ℕ). take (g.w * g.c) d ++ (y ++ drop (g.w * g.c + g.w) d)) (listed-node g.w nodes g.slots.now g.n g.p.read g.c m),
    )

pub overflow_add-next : goal.overflow_add-next
overflow_add-next c =
    let g = c.args in
    let r = other-read g.w g.nodes.now g.slots.now g.n g.p.read g.c (sym c.is_next.ensures ∙ c.if-is_next.false) in
    omega arith

pub overflow_sub-n : goal.overflow_sub-n
overflow_sub-n c =
    let g = c.args in
    let r = other-read g.w g.nodes.now g.slots.now g.n g.p.read g.c (sym c.is_next.ensures ∙ c.if-is_next.false) in
    omega arith

pub overflow_mul-w-2 : goal.overflow_mul-w-2
overflow_mul-w-2 c =
    let g = c.args in
    let r = other-read g.w g.nodes.now g.slots.now g.n g.p.read g.c (sym c.is_next.ensures ∙ c.if-is_next.false) in
    let m = mul-within g.w (g.n - (g.p.read + 1)) g.n (omega arith) in
    omega arith

pub copy_part-requires : goal.copy_part-requires
copy_part-requires c =
    let g = c.args in
    let r = other-read g.w g.nodes.now g.slots.now g.n g.p.read g.c (sym c.is_next.ensures ∙ c.if-is_next.false) in
    let m = mul-within g.w (g.n - (g.p.read + 1)) g.n (omega arith) in
    (omega arith, omega arith)

pub returns : goal.returns
returns c =
    let g = c.args in
    let p = c.requires in
    let nodes = g.nodes.now in
    let d = g.tree.now in
    let m = sym c.is_next.ensures ∙ c.if-is_next.false in (
      p.1 ∙ node_kept nodes g.c p.0 m,
      other-read g.w nodes g.slots.now g.n g.p.read g.c m,
      c.copy_part.ensures
          ∙ ap (λ (y : List ℕ). take (g.w * g.c) d ++ (y ++ drop (g.w * g.c + g.w) d)) (other-node g.w nodes g.slots.now g.n g.p.read g.c m),
    )
