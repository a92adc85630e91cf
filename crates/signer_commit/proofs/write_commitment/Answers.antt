-- The local arrays have room for 32 vectors.
use Prim.Native.Nat.{ℕ, ◌*◌}
use mathlib.Core.Path.{sym, ap, ◌∙◌}
use native.Mathlib.Nat.{zero-add}
use native.Mathlib.Omega.{arith}
use lib.ListN.{replicate}
use Rattle.laws.proofs.Concat.{mul-limit}
use Rattle.planning_laws.proofs.ShapeFacts.{shape-facts}
use Rattle.vector.proofs.Buffers.{lent}
use Rattle.signer_commit.proofs.write_commitment.Goals as goal

pub overflow_mul-w : goal.overflow_mul-w
overflow_mul-w c =
    let f = shape-facts c.args.s c.requires.s_value.0 in
    let w = c.commitment_bytes-w in
    let m = mul-limit w.result c.args.s.tau 96 32 w.ensures.1 f.tau-max in
    omega arith

pub slice_bounds-keys-end : goal.slice_bounds-keys-end
slice_bounds-keys-end c =
    let f = shape-facts c.args.s c.requires.s_value.0 in
    let w = c.commitment_bytes-w in
    let m = mul-limit w.result c.args.s.tau 96 32 w.ensures.1 f.tau-max in
    omega arith

pub overflow_mul-h : goal.overflow_mul-h
overflow_mul-h c =
    let f = shape-facts c.args.s c.requires.s_value.0 in
    let w = c.hash_bytes-h in
    let m = mul-limit w.result c.args.s.tau 64 32 w.ensures.1 f.tau-max in
    omega arith

pub slice_bounds-hashes-end : goal.slice_bounds-hashes-end
slice_bounds-hashes-end c =
    let f = shape-facts c.args.s c.requires.s_value.0 in
    let w = c.hash_bytes-h in
    let m = mul-limit w.result c.args.s.tau 64 32 w.ensures.1 f.tau-max in
    omega arith

pub write_all-requires : goal.write_all-requires
write_all-requires c =
    let p = c.requires.s_value in
    let tau = c.args.s.tau in
    let f = shape-facts c.args.s c.requires.s_value.0 in
    let w = c.commitment_bytes-w in
    let h = c.hash_bytes-h in
    let keys = lent 0 (w.result * tau) _ (replicate 3072 0) (ap (λ (n : ℕ). n * tau) w.ensures.0 ∙ sym (zero-add _)) (let m = mul-limit w.result tau 96 32 w.ensures.1 f.tau-max in omega arith) in
    let hashes = lent 0 (h.result * tau) _ (replicate 2048 0) (ap (λ (n : ℕ). n * tau) h.ensures.0 ∙ sym (zero-add _)) (let m = mul-limit h.result tau 64 32 h.ensures.1 f.tau-max in omega arith) in
    record { s_value = (p.0, p.1, p.2, p.3, keys, hashes); commitment_len = c.requires.commitment_len }

pub returns : goal.returns
returns c = c.write_all.ensures
