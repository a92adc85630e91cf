-- What `fill` writes is the output of the generator that the roots are parts of.
use mathlib.Core.Path.{sym, ap, ◌∙◌}
use mathlib.Core.List.{List}
use Prim.Native.Nat.{ℕ, ◌+◌, ◌-◌, ◌*◌, ◌%◌}
use native.Mathlib.Omega.{arith}
use Rattle.spec.specs.Bytes.{part, tabulate, concat}
use Rattle.spec.specs.Tree.{expand_tree}
use Rattle.spec.specs.Shapes.{node_bytes, entries_of, key_words}
use Rattle.spec.specs.Primitives.{prg}
use Rattle.spec.specs.Version1.{faest1, prg1, vector_root, children1, vector_tree, signer_trees}
use Rattle.job.specs.declared.Version.TheVariants.{One}
use Rattle.job.specs.Versions.{primitives_of, byte_of}
use Rattle.job.proofs.Each.{prg-byte}
use Rattle.laws.proofs.Concat.{mul-limit}
use Rattle.laws.proofs.Lists.{tabulate-from-0}
use Rattle.planning_laws.proofs.ShapeFacts.{shape-facts, widths}
use Rattle.signer_forest.proofs.grow_through.Goals as goal

pub fill-requires : goal.fill-requires
fill-requires c =
    let s = c.args.s in
    let p = c.requires in
    let f = shape-facts s p.0 in
    let w = widths s f in
    let most = mul-limit (node_bytes s) s.tau 32 32 w.node-max f.tau-max in
    let long = p.1 in
    let size = p.3 in
    (omega arith, omega arith, ap (λ (m : ℕ). m % 8) p.1 ∙ w.node-eight, omega arith)

pub grow_each-requires : goal.grow_each-requires
grow_each-requires c =
    let p = c.requires in
    (p.0, c.fill.auto.out ∙ p.3, p.2)

pub returns : goal.returns
unfolding prg prg1 vector_root vector_tree signer_trees primitives_of
returns c =
    let g = c.args in
    let s = g.s in
    let p = c.requires in
    let key = g.root.now in
    let w = widths s (shape-facts s p.0) in
    let f : ℕ → ℕ = byte_of (key_words s) key (record { iv = g.iv; tweak = 0; version = One }) in
    let filled =
    c.fill.ensures (key_words s) (p.1 ∙ w.node-words)
    ∙ ap (λ (m : ℕ). tabulate m (λ q. f (0 + q))) p.3
    ∙ tabulate-from-0 (node_bytes s * s.tau) f
    ∙ ap (tabulate (node_bytes s * s.tau)) (sym (prg-byte One s key g.iv 0))
    in
    c.grow_each.ensures
    ∙ ap (λ (x : List ℕ). concat s.tau (λ i. expand_tree (node_bytes s) (part x (node_bytes s * i) (node_bytes s)) (children1 faest1 s g.iv) (entries_of s i - 1))) filled
