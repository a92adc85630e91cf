-- The local arrays have room for 32 vectors.
use Prim.Native.Nat.{ℕ, ◌+◌, ◌*◌, ◌≤◌}
use mathlib.Core.Path.{◌≡◌, sym, ap, ◌∙◌}
use native.Mathlib.Nat.{zero-add}
use native.Mathlib.Omega.{arith}
use lib.ListN.{replicate}
use Rattle.spec.specs.Shapes.{hash_bytes}
use Rattle.spec.specs.Version1.{leaf_commitment_bytes1}
use Rattle.laws.proofs.Concat.{mul-limit}
use Rattle.planning_laws.proofs.ShapeFacts.{shape-facts}
use Rattle.vector.proofs.Buffers.{lent}
use Rattle.v1_rules.proofs.Numbers.{shape-parts}
use Rattle.v1_verifier.proofs.write_reconstruction.Goals as goal
use Rattle.v1_verifier.proofs.write_reconstruction.Goals.{After-hash_bytes}

room : (c : After-hash_bytes) → c.hash_bytes.result * c.args.s.tau ≤ 64 * 32
room c = mul-limit c.hash_bytes.result c.args.s.tau 64 32 c.hash_bytes.ensures.1 (shape-facts c.args.s (shape-parts _ c.requires.s_value.0).0).tau-max

pub hash_bytes-requires : goal.hash_bytes-requires
hash_bytes-requires c = (shape-parts _ c.requires.s_value.0).0

pub overflow_mul-n : goal.overflow_mul-n
overflow_mul-n c = let m = room (goal.at.overflow_mul-n c).After-hash_bytes in omega arith

pub slice_bounds-write_all-end : goal.slice_bounds-write_all-end
slice_bounds-write_all-end c = let m = room (goal.at.slice_bounds-write_all-end c).After-hash_bytes in omega arith

pub slice_bounds-hashes-end : goal.slice_bounds-hashes-end
slice_bounds-hashes-end c = let m = room (goal.at.slice_bounds-hashes-end c).After-hash_bytes in omega arith

pub write_all-requires : goal.write_all-requires
unfolding hash_bytes leaf_commitment_bytes1
write_all-requires c =
    let p = c.requires.s_value in
    let tau = c.args.s.tau in
    let h = c.hash_bytes in
    let m = room (goal.at.write_all-requires c).After-hash_bytes in
    let part : h.result * tau ≡ 0 + hash_bytes c.args.s * tau = ap (λ (n : ℕ). n * tau) h.ensures.0 ∙ sym (zero-add _) in
    let keys = lent 0 (h.result * tau) _ (replicate 2048 0) part (omega arith) in
    record { s_value = (p.0, p.1, keys, keys); iv_len = c.requires.iv_len; commitment_len = c.requires.commitment_len }

pub returns : goal.returns
returns c = c.write_all.ensures
