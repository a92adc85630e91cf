-- No root and no challenge of a shape is empty: by the width of a node.
use mathlib.Core.Path.{◌≡◌}
use mathlib.Core.Bool.{true, false}
use native.Mathlib.Omega.{arith}
use lib.Dec.{eqb}
use borrow.Author.Tests.{ne_eqb}
use Rattle.spec.specs.declared.Shape.{Shape}
use Rattle.spec.specs.Shapes.{node_bytes, challenge_bytes, shape_ok}
use Rattle.planning_laws.proofs.ShapeFacts.{shape-facts, widths}

pub root-some : (s : Shape) → shape_ok s ≡ true → eqb 0 (node_bytes s) ≡ false
root-some s ok = ne_eqb 0 (node_bytes s) (λ z. let w = widths s (shape-facts s ok) in omega arith)

pub challenge-some : (s : Shape) → shape_ok s ≡ true → eqb 0 (challenge_bytes s) ≡ false
challenge-some s ok = ne_eqb 0 (challenge_bytes s) (λ z. let w = widths s (shape-facts s ok) in omega arith)
