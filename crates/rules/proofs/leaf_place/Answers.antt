-- By whether the entry is one of the first 2^k.
use Prim.Native.Nat.{ℕ, ◌+◌, ◌-◌, ◌*◌, ◌^◌, ◌<◌, ◌≤◌}
use mathlib.Core.Path.{◌≡◌}
use mathlib.Core.Bool.{true}
use native.Mathlib.Omega.{arith}
use native.Mathlib.Nat.{mul-le-mul}
use Rattle.spec.specs.declared.Shape.{Shape}
use Rattle.spec.specs.Shapes.{shape_ok, deeper, entries_of, leaves, leaf_of}
use Rattle.planning_laws.proofs.Depths.{leaf-near, leaf-far, far-entry, leaves-split, interleaved-lt}
use Rattle.planning_laws.proofs.ShapeFacts.{shape-facts, leaves-max}
use Rattle.rules.proofs.leaf_place.Goals as goal

-- n is 2^k, r the number of the deeper vectors
near : (s : Shape) (i j n : ℕ) → (shape_ok s ≡ true) × (i < s.tau) × (j < entries_of s i) → n ≡ 2 ^ s.k → j < n
    → (leaf_of s i j ≡ leaves s - 1 + (s.tau * j + i)) × (s.tau * j + i < leaves s) × (leaves s ≤ 86016)
near s i j n p e h =
    let a = leaf-near s i j (omega arith) in
    let b = interleaved-lt s.tau (2 ^ s.k) j i (omega arith) p.1 in
    let c = leaves-split s in
    (omega arith, omega arith, leaves-max s (shape-facts s p.0))

far : (s : Shape) (i j n r : ℕ) → (shape_ok s ≡ true) × (i < s.tau) × (j < entries_of s i) → n ≡ 2 ^ s.k → r ≡ deeper s → n ≤ j
    → (leaf_of s i j ≡ leaves s - 1 + (s.tau * n + r * (j - n) + i)) × (s.tau * n + r * (j - n) + i < leaves s) × (leaves s ≤ 86016)
far s i j n r p e q h =
    rw (e, q)
    (let m = far-entry s i j (omega arith) p.2 in
    let a = leaf-far s i j (omega arith) in
    let b = interleaved-lt (deeper s) (2 ^ s.k) (j - 2 ^ s.k) i m.1 m.0 in
    let c = leaves-split s in
    (omega arith, omega arith, leaves-max s (shape-facts s p.0)))

pub power-near-requires : goal.power-near-requires
power-near-requires c = (let f = shape-facts c.args.s c.requires.0 in f.k-max)

pub overflow_mul-result : goal.overflow_mul-result
overflow_mul-result c =
    let a = c.args in
    let m = near a.s a.i a.j _ c.requires c.power-near.ensures.0 c.if-j-near.true in
    omega arith

pub overflow_add-result : goal.overflow_add-result
overflow_add-result c =
    let a = c.args in
    let m = near a.s a.i a.j _ c.requires c.power-near.ensures.0 c.if-j-near.true in
    omega arith

pub returns-then-j-near : goal.returns-then-j-near
returns-then-j-near c =
    let a = c.args in
    let m = near a.s a.i a.j _ c.requires c.power-near.ensures.0 c.if-j-near.true in
    (m.0, m.1, omega arith)

pub overflow_mul-result-2 : goal.overflow_mul-result-2
overflow_mul-result-2 c =
    let a = c.args in
    let f = shape-facts a.s c.requires.0 in
    let t : a.s.tau ≤ 32 = f.tau-max in
    let e = c.power-near.ensures in
    let l : c.power-near.result ≤ 4096 = e.2 in
    let m : a.s.tau * c.power-near.result ≤ 32 * 4096 = mul-le-mul t l in
    omega arith

pub overflow_mul-result-3 : goal.overflow_mul-result-3
overflow_mul-result-3 c =
    let a = c.args in
    let m = far a.s a.i a.j _ _ c.requires c.power-near.ensures.0 c.deeper_count.ensures.0 (omega (arith, c.if-j-near.false)) in
    omega arith

pub overflow_add-result-2 : goal.overflow_add-result-2
overflow_add-result-2 c =
    let a = c.args in
    let m = far a.s a.i a.j _ _ c.requires c.power-near.ensures.0 c.deeper_count.ensures.0 (omega (arith, c.if-j-near.false)) in
    omega arith

pub overflow_add-result-3 : goal.overflow_add-result-3
overflow_add-result-3 c =
    let a = c.args in
    let m = far a.s a.i a.j _ _ c.requires c.power-near.ensures.0 c.deeper_count.ensures.0 (omega (arith, c.if-j-near.false)) in
    omega arith

pub returns : goal.returns
returns c =
    let a = c.args in
    let m = far a.s a.i a.j _ _ c.requires c.power-near.ensures.0 c.deeper_count.ensures.0 (omega (arith, c.if-j-near.false)) in
    (m.0, m.1, omega arith)
