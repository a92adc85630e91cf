-- The buffer has room for the roots of every shape: 32 of 32 bytes.
use mathlib.Core.Path.{◌≡◌, ap, ◌∙◌}
use mathlib.Core.Bool.{true}
use Prim.Native.Nat.{ℕ, ◌*◌, ◌≤◌}
use native.Mathlib.Omega.{arith}
use Rattle.spec.specs.declared.Shape.{Shape}
use Rattle.spec.specs.Shapes.{shape_ok}
use Rattle.laws.proofs.Concat.{mul-limit}
use Rattle.planning_laws.proofs.ShapeFacts.{shape-facts}
use Rattle.signer_forest.proofs.Places.{lent}
use Rattle.signer_forest.proofs.grow_trees.Goals as goal

room : (s : Shape) (n : ℕ) → shape_ok s ≡ true → n ≤ 32 → n * s.tau ≤ 1024
room s n ok h = mul-limit n s.tau 32 32 h (shape-facts s ok).tau-max

pub overflow_mul-end : goal.overflow_mul-end
overflow_mul-end c = let r = room c.args.s c.node_bytes.result c.requires.0 c.node_bytes.ensures.2 in omega arith

pub slice_bounds-roots-end : goal.slice_bounds-roots-end
slice_bounds-roots-end c = let r = room c.args.s c.node_bytes.result c.requires.0 c.node_bytes.ensures.2 in omega arith

pub grow_through-requires : goal.grow_through-requires
grow_through-requires c =
    let g = c.args in
    let n = c.node_bytes in
    let end = n.result * g.s.tau in
    (c.requires.0, c.requires.1, c.requires.2, lent 0 end end _ (omega arith) (let r = room c.args.s c.node_bytes.result c.requires.0 c.node_bytes.ensures.2 in omega arith) ∙ ap (λ (m : ℕ). m * g.s.tau) n.ensures.0)
