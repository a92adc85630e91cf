-- The nodes stand behind the bytes at the front, and the zeros fill the rest of the opening.
use mathlib.Core.Path.{◌≡◌, ap, ap₂, ◌∙◌}
use mathlib.Core.List.{List, ◌++◌}
use Prim.Native.Nat.{ℕ, ◌+◌, ◌-◌, ◌*◌}
use native.Mathlib.Omega.{arith}
use lib.ListN.{length, get_or, take}
use Rattle.spec.specs.Bytes.{part, concat, zeros}
use Rattle.spec.specs.Shapes.{node_bytes, leaf_commitment_bytes, leaves, tree_bytes, opening_bytes}
use Rattle.spec.specs.Leaves.{node_at}
use Rattle.laws.proofs.Concat.{mul-within, mul-limit, mul-rest}
use Rattle.planning_laws.proofs.ShapeFacts.{shape-facts}
use Rattle.opening.proofs.write_slots.Goals as goal

pub overflow_mul-first : goal.overflow_mul-first
overflow_mul-first c =
    let f = shape-facts c.args.s c.requires.s_value.0 in
    let w = c.commitment_bytes in
    let m = mul-limit w.result c.args.s.tau 96 32 w.ensures.1 f.tau-max in
    omega arith

pub write_nodes-requires : goal.write_nodes-requires
unfolding tree_bytes opening_bytes
write_nodes-requires c =
    let s = c.args.s in
    let w = c.node_bytes-w in
    let v = c.commitment_bytes in
    let p = c.requires in
    let slots : w.result * s.t ≡ node_bytes s * s.t = ap (λ (n : ℕ). n * s.t) w.ensures.0 in
    let front : v.result * s.tau ≡ leaf_commitment_bytes s * s.tau = ap (λ (n : ℕ). n * s.tau) v.ensures.0 in
    let all : w.result * (2 * leaves s - 1) ≡ node_bytes s * (2 * leaves s - 1) = ap (λ (n : ℕ). n * (2 * leaves s - 1)) w.ensures.0 in
    let used = mul-rest w.result c.args.n s.t p.n_le_t.0 in
    (omega arith, p.n_le_t.1, omega arith, λ m h. let q = mul-within w.result (get_or c.args.nodes.now m 0) (2 * leaves s - 1) (p.n_le_t.2 m h) in omega arith)

pub overflow_mul-w : goal.overflow_mul-w
unfolding opening_bytes
overflow_mul-w c =
    let f = shape-facts c.args.s c.requires.s_value.0 in
    let w = c.node_bytes-w in
    let p = c.requires.n_le_t in
    let m = mul-limit w.result c.args.n 32 512 w.ensures.2 (omega arith) in
    omega arith

pub overflow_add-first : goal.overflow_add-first
overflow_add-first c =
    let f = shape-facts c.args.s c.requires.s_value.0 in
    let w = c.node_bytes-w in
    let v = c.commitment_bytes in
    let p = c.requires.n_le_t in
    let m = mul-limit w.result c.args.n 32 512 w.ensures.2 (omega arith) in
    let k = mul-limit v.result c.args.s.tau 96 32 v.ensures.1 f.tau-max in
    omega arith

pub clear_from-requires : goal.clear_from-requires
unfolding opening_bytes
clear_from-requires c =
    let s = c.args.s in
    let w = c.node_bytes-w in
    let v = c.commitment_bytes in
    let k = c.write_nodes.auto.out in
    let p = c.requires in
    let slots : w.result * s.t ≡ node_bytes s * s.t = ap (λ (n : ℕ). n * s.t) w.ensures.0 in
    let front : v.result * s.tau ≡ leaf_commitment_bytes s * s.tau = ap (λ (n : ℕ). n * s.tau) v.ensures.0 in
    let used = mul-rest w.result c.args.n s.t p.n_le_t.0 in
    omega arith

pub returns : goal.returns
unfolding opening_bytes node_at
returns c =
    let written = c.write_nodes in
    let w = c.node_bytes-w in
    let v = c.commitment_bytes in
    let k = written.auto.out in
    let p = c.requires in
    let g = c.args in
    let s = g.s in
    let slots : w.result * s.t ≡ node_bytes s * s.t = ap (λ (n : ℕ). n * s.t) w.ensures.0 in
    let front : v.result * s.tau ≡ leaf_commitment_bytes s * s.tau = ap (λ (n : ℕ). n * s.tau) v.ensures.0 in
    let used = mul-rest w.result g.n s.t p.n_le_t.0 in
    let rest : length written.new.out - (v.result * s.tau + w.result * g.n) ≡ w.result * (s.t - g.n) = omega arith in
    c.clear_from.ensures ∙ ap₂ (λ (x : List ℕ) (n : ℕ). x ++ zeros n) written.ensures rest
    ∙ ap₂ (λ (m n : ℕ). (take m g.out.now ++ concat g.n (λ x. part g.tree.now (n * get_or g.nodes.now x 0) n)) ++ zeros (n * (s.t - g.n))) front w.ensures.0
