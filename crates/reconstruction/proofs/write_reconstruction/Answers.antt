-- The local arrays have room for 32 vectors.
use Prim.Native.Nat.{ℕ, ◌*◌, ◌≤◌}
use mathlib.Core.Path.{sym, ap, ◌∙◌}
use native.Mathlib.Nat.{zero-add}
use native.Mathlib.Omega.{arith}
use lib.ListN.{replicate}
use Rattle.laws.proofs.Concat.{mul-limit}
use Rattle.planning_laws.proofs.ShapeFacts.{shape-facts}
use Rattle.vector.proofs.Buffers.{lent}
use Rattle.reconstruction.proofs.write_reconstruction.Goals as goal
use Rattle.reconstruction.proofs.write_reconstruction.Goals.{After-commitment_bytes-w, After-hash_bytes-h}

keys-end : (c : After-commitment_bytes-w) → c.commitment_bytes-w.result * c.args.s.tau ≤ 3072
keys-end c = (let w = c.commitment_bytes-w in mul-limit w.result c.args.s.tau 96 32 w.ensures.1 (shape-facts c.args.s c.requires.s_value.0).tau-max)

hashes-end : (c : After-hash_bytes-h) → c.hash_bytes-h.result * c.args.s.tau ≤ 2048
hashes-end c = (let h = c.hash_bytes-h in mul-limit h.result c.args.s.tau 64 32 h.ensures.1 (shape-facts c.args.s c.requires.s_value.0).tau-max)

pub overflow_mul-w : goal.overflow_mul-w
overflow_mul-w c = let m = keys-end (goal.at.overflow_mul-w c).After-commitment_bytes-w in omega arith

pub slice_bounds-keys-end : goal.slice_bounds-keys-end
slice_bounds-keys-end c = keys-end (goal.at.slice_bounds-keys-end c).After-commitment_bytes-w

pub overflow_mul-h : goal.overflow_mul-h
overflow_mul-h c = let m = hashes-end (goal.at.overflow_mul-h c).After-hash_bytes-h in omega arith

pub slice_bounds-hashes-end : goal.slice_bounds-hashes-end
slice_bounds-hashes-end c = hashes-end (goal.at.slice_bounds-hashes-end c).After-hash_bytes-h

pub write_all-requires : goal.write_all-requires
write_all-requires c =
    let p = c.requires.s_value in
    let tau = c.args.s.tau in
    let w = c.commitment_bytes-w in
    let h = c.hash_bytes-h in
    let keys = lent 0 (w.result * tau) _ (replicate 3072 0) (ap (λ (n : ℕ). n * tau) w.ensures.0 ∙ sym (zero-add _)) (keys-end (goal.at.write_all-requires c).After-commitment_bytes-w) in
    let hashes = lent 0 (h.result * tau) _ (replicate 2048 0) (ap (λ (n : ℕ). n * tau) h.ensures.0 ∙ sym (zero-add _)) (hashes-end (goal.at.write_all-requires c).After-hash_bytes-h) in
    record { s_value = (p.0, p.1, p.2, p.3, keys, hashes); iv_len = c.requires.iv_len; commitment_len = c.requires.commitment_len }

pub returns : goal.returns
returns c = c.write_all.ensures
