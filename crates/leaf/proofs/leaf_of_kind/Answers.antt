-- By the kind; the local array has room for the stretched leaf of every level.
use mathlib.Core.Path.{ap₂, ◌∙◌}
use Prim.Native.Nat.{◌+◌, ◌-◌}
use native.Mathlib.Nat.{sub-zero}
use native.Mathlib.Omega.{arith}
use lib.ListN.{replicate}
use Rattle.laws.proofs.Lists.{length_part}
use Rattle.laws.proofs.Tests.{failed, passed}
use Rattle.leaf.proofs.leaf_of_kind.Goals as goal

pub em_leaf-requires : goal.em_leaf-requires
em_leaf-requires c =
    let p = c.requires in
    (p.0, failed c.is_ordinary.ensures c.if-not-is_ordinary.true, p.1, p.2, p.3, p.4)

pub returns-then-not-is_ordinary : goal.returns-then-not-is_ordinary
returns-then-not-is_ordinary c = λ i tweak m. c.em_leaf.ensures i tweak

pub stretch_leaf-requires : goal.stretch_leaf-requires
stretch_leaf-requires c =
    let o = passed c.is_ordinary.ensures c.if-not-is_ordinary.false in
    let n = c.node_bytes in
    let l = c.commitment_bytes in
    let p = c.requires in
    let m = n.result + l.result in
    (p.0, o, p.1, p.2, length_part (replicate 128 0) 0 (m - 0) (omega (arith, n.ensures.2, l.ensures.1)) ∙ sub-zero m ∙ ap₂ ◌+◌ n.ensures.0 l.ensures.0, p.3, p.4)
