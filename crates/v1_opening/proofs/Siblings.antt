-- The sibling of a node on the way to a leaf, as the code numbers it: the shift makes the first node of its level, and the number lies in the tree.
use Prim.Native.Nat.{ℕ, ◌+◌, ◌-◌, ◌*◌, ◌/◌, ◌%◌, ◌^◌, ◌≤◌, ◌<◌}
use mathlib.Core.Path.{◌≡◌, refl, ap, ap₂, ◌∙◌, subst}
use native.Mathlib.Nat.{two-pow-succ, mod-eq_of_lt}
use native.Mathlib.Numerals.{add-one}
use native.Mathlib.Omega.{arith}
use lib.Bits.{bit_xor, xor_lt}
use lib.Pow.{pow_pos, pow_mono, shr_lt}
use Rattle.spec.specs.Version1.{sibling_at}

-- the nodes of level l + 1
pub shifted : (l : ℕ) → l < 12 → 2 * 2 ^ l % 2 ^ 64 ≡ 2 ^ (l + 1)
shifted l h =
    let e = ap (λ (n : ℕ). 2 ^ n) (add-one l) ∙ two-pow-succ l in
    let m : 2 ^ (l + 1) ≤ 4096 = pow_mono {i = l + 1} {j = 12} (omega arith) in
    let h64 : 2 * 2 ^ l < 2 ^ 64 = omega arith in
    let z = mod-eq_of_lt h64 in
    omega arith

-- with x 0 the number of the node on the way, with 1 the one beside it: numbers of the level
pub beside : (d j l x : ℕ) → j < 2 ^ d → l < d → x ≤ 1 → bit_xor (j / 2 ^ (d - 1 - l)) x < 2 ^ (l + 1)
beside d j l x h k b =
    let r = d - 1 - l in
    let whole : d ≡ l + 1 + r = omega arith in
    let q : j / 2 ^ r < 2 ^ (l + 1) = shr_lt (l + 1) r (subst (λ (n : ℕ). j < 2 ^ n) whole h) in
    let one : 1 < 2 ^ (l + 1) = (let a = ap (λ (n : ℕ). 2 ^ n) (add-one l) ∙ two-pow-succ l in let p = pow_pos l in omega arith) in
    xor_lt (l + 1) (j / 2 ^ r) x q (omega arith)

pub sibling-as : (d j l a : ℕ) → l < d → a ≡ 2 ^ (l + 1) → a - 1 + bit_xor (j / 2 ^ (d - 1 - l)) 1 ≡ sibling_at d j (l + 1)
unfolding sibling_at
sibling-as d j l a k e = ap₂ (λ (x y : ℕ). x - 1 + bit_xor (j / 2 ^ y) 1) e (let z : d - 1 - l ≡ d - (l + 1) = omega arith in z)

-- it is in the tree: the nodes of a level and of those before it are
pub sibling-in : (d j l : ℕ) → j < 2 ^ d → l < d → sibling_at d j (l + 1) < 2 * 2 ^ d - 1
sibling-in d j l h k =
    let e = sibling-as d j l (2 ^ (l + 1)) k refl in
    let b = beside d j l 1 h k (omega arith) in
    let m = pow_mono {i = l + 1} {j = d} (omega arith) in
    omega arith
