-- Segments that follow one another: each ends where a later one starts, or before. By induction on the later one.
use Prim.Native.Nat.{ℕ, zero, suc, ◌+◌, ◌≤◌, ◌<◌}
use mathlib.Core.Path.{◌≡◌, subst}
use native.Mathlib.Decide.{dec_lt}
use native.Mathlib.Omega.{arith}

-- segment i starts at `at i` and is `size i` long
pub segment-before : (at size : ℕ → ℕ) (n i : ℕ) → ((a : ℕ) → a < n → at (suc a) ≡ at a + size a) → i < n → at i + size i ≤ at n
segment-before at size zero i h l = absurd (omega arith)
segment-before at size (suc n) i h l = go (dec_lt i n) (λ m. segment-before at size n i (λ a k. h a (omega arith)) m)
  where
    go : Dec (i < n) → (i < n → at i + size i ≤ at n) → at i + size i ≤ at (suc n)
    go (yes m) ih = (let a = ih m in let b = h n (omega arith) in omega arith)
    go (no m) ih =
        let e : i ≡ n = omega arith in
        subst (λ (x : ℕ). at i + size i ≤ at (suc x)) e (let b = h i l in omega arith)
