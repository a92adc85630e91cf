-- By the version: the law of each says that the place lies within an opening, and an opening's bytes are few.
use Prim.Native.Nat.{ℕ, ◌+◌, ◌*◌, ◌≤◌}
use mathlib.Core.Path.{ap, ap₂}
use native.Mathlib.Omega.{arith}
use Rattle.laws.proofs.Concat.{mul-limit}
use Rattle.planning_laws.proofs.ShapeFacts.{shape-facts}
use Rattle.verifier_vectors.proofs.HiddenPlaces.{within-one, within-two}
use Rattle.verifier_vectors.proofs.hidden_from.Goals as goal

-- the siblings of a vector, and the hidden leaf commitments of the vectors before it, have few bytes
siblings-small : (w d : ℕ) → w ≤ 32 → d ≤ 12 → w * d ≤ 32 * 12
siblings-small w d h k = mul-limit w d 32 12 h k

pub overflow_mul-result : goal.overflow_mul-result
overflow_mul-result c = let m = siblings-small c.node_bytes.result c.depth_of.result c.node_bytes.ensures.2 c.depth_of.ensures.1 in omega arith

pub overflow_add-result : goal.overflow_add-result
overflow_add-result c = (let m = siblings-small c.node_bytes.result c.depth_of.result c.node_bytes.ensures.2 c.depth_of.ensures.1 in let d = c.decommitment_from.ensures.1 in omega arith)

pub overflow_mul-result-in-Two : goal.overflow_mul-result-in-Two
overflow_mul-result-in-Two c =
    let f = shape-facts c.args.g.shape c.requires.0.shape in
    let i : c.args.i ≤ 32 = (let l = f.tau-max in let p = c.requires.1 in omega arith) in
    let m = mul-limit c.commitment_bytes.result c.args.i 96 32 c.commitment_bytes.ensures.1 i in
    omega arith

pub returns-in-One : goal.returns-in-One
returns-in-One c =
    let ready = c.requires.0 in
    let s = c.args.g.shape in
    within-one _ s (shape-facts s ready.shape) ready.kind c.args.i _ c.requires.1 c.in-One.is
    (ap₂ ◌+◌ c.decommitment_from.ensures.0 (ap₂ ◌*◌ c.node_bytes.ensures.0 c.depth_of.ensures.0))

pub returns-in-Two : goal.returns-in-Two
returns-in-Two c =
    let ready = c.requires.0 in
    let s = c.args.g.shape in
    within-two _ s (shape-facts s ready.shape) ready.kind c.args.i _ c.requires.1 c.in-Two.is (ap (λ (w : ℕ). w * c.args.i) c.commitment_bytes.ensures.0)
