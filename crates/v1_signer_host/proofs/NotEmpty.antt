-- No root and no challenge of a shape of version 1 is empty: by the width of a node.
use mathlib.Core.Path.{◌≡◌}
use mathlib.Core.Bool.{true, false}
use native.Mathlib.Omega.{arith}
use lib.Dec.{eqb}
use borrow.Author.Tests.{ne_eqb}
use Rattle.spec.specs.declared.Shape.{Shape}
use Rattle.spec.specs.Shapes.{node_bytes, challenge_bytes}
use Rattle.spec.specs.Version1.{shape1_ok}
use Rattle.planning_laws.proofs.ShapeFacts.{shape-facts, widths}
use Rattle.v1_rules.proofs.Numbers.{shape-parts}

pub root-some : (s : Shape) → shape1_ok s ≡ true → eqb 0 (node_bytes s) ≡ false
root-some s ok = ne_eqb 0 (node_bytes s) (λ z. let w = widths s (shape-facts s (shape-parts s ok).0) in omega arith)

pub challenge-some : (s : Shape) → shape1_ok s ≡ true → eqb 0 (challenge_bytes s) ≡ false
challenge-some s ok = ne_eqb 0 (challenge_bytes s) (λ z. let w = widths s (shape-facts s (shape-parts s ok).0) in omega arith)
