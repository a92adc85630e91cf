-- The two depths: what a vector's depth is, that the bits and the entries of the vectors follow one another, and that each entry has a leaf of its own. By
-- whether a vector is one of the deeper ones, and an entry one of the first 2^k.
use Prim.Native.Nat.{ℕ, suc, ◌+◌, ◌-◌, ◌*◌, ◌/◌, ◌%◌, ◌^◌, ◌≤◌, ◌<◌, min}
use mathlib.Core.Path.{◌≡◌, refl, sym, ap, ◌∙◌}
use native.Mathlib.Omega.{arith}
use native.Mathlib.Nat.{mul-le-mul, le_refl, suc-mul, mul-suc, mul_comm, add-mul, zero-mul, two-pow-succ}
use native.Mathlib.Numerals.{add-one}
use native.Mathlib.Decide.{dec_lt}
use lib.Arith.{digits_div, digits_mod}
use borrow.Author.Tests.{lt-ltb, le-ltb}
use Rattle.spec.specs.declared.Shape.{Shape}
use Rattle.spec.specs.Shapes.{deeper, depth_of, entries_of, first_bit, first_entry, leaves, leaf_of}

-- ---- a vector's depth and entries

pub depth-deep : (s : Shape) (i : ℕ) → i < deeper s → depth_of s i ≡ s.k + 1
unfolding depth_of
depth-deep s i h = rw (lt-ltb i (deeper s) h) refl

pub depth-flat : (s : Shape) (i : ℕ) → deeper s ≤ i → depth_of s i ≡ s.k
unfolding depth_of
depth-flat s i h = rw (le-ltb i (deeper s) h) refl

-- k at least, and no vector is deeper than vector 0
pub depth-range : (s : Shape) (i : ℕ) → (s.k ≤ depth_of s i) × (depth_of s i ≤ depth_of s 0)
depth-range s i = go (dec_lt i (deeper s)) (dec_lt 0 (deeper s))
  where
    go : Dec (i < deeper s) → Dec (0 < deeper s) → (s.k ≤ depth_of s i) × (depth_of s i ≤ depth_of s 0)
    go (yes d) e = (let a = depth-deep s i d in let b = depth-deep s 0 (omega arith) in (omega arith, omega arith))
    go (no d) (yes e) = (let a = depth-flat s i (omega arith) in let b = depth-deep s 0 e in (omega arith, omega arith))
    go (no d) (no e) = (let a = depth-flat s i (omega arith) in let b = depth-flat s 0 (omega arith) in (omega arith, omega arith))

entries-deep : (s : Shape) (i : ℕ) → i < deeper s → entries_of s i ≡ 2 ^ s.k + 2 ^ s.k
unfolding entries_of
entries-deep s i h = ap (λ (n : ℕ). 2 ^ n) (depth-deep s i h ∙ add-one s.k) ∙ two-pow-succ s.k

entries-flat : (s : Shape) (i : ℕ) → deeper s ≤ i → entries_of s i ≡ 2 ^ s.k
unfolding entries_of
entries-flat s i h = ap (λ (n : ℕ). 2 ^ n) (depth-flat s i h)

-- ---- bits and entries follow one another

pub bit-none : (s : Shape) → first_bit s 0 ≡ 0
unfolding first_bit
bit-none s = (let a = zero-mul s.k in omega arith)

pub bit-next : (s : Shape) (i : ℕ) → first_bit s (suc i) ≡ first_bit s i + depth_of s i
unfolding first_bit
bit-next s i = go (dec_lt i (deeper s))
  where
    go : Dec (i < deeper s) → suc i * s.k + min (suc i) (deeper s) ≡ i * s.k + min i (deeper s) + depth_of s i
    go (yes d) = (let a = suc-mul i s.k in let b = depth-deep s i d in omega arith)
    go (no d) = (let a = suc-mul i s.k in let b = depth-flat s i (omega arith) in omega arith)

pub entry-none : (s : Shape) → first_entry s 0 ≡ 0
unfolding first_entry
entry-none s = ap (λ (n : ℕ). n * 2 ^ s.k) (let z : 0 + min 0 (deeper s) ≡ 0 = omega arith in z) ∙ zero-mul (2 ^ s.k)

pub entry_next : (s : Shape) (i : ℕ) → first_entry s (suc i) ≡ first_entry s i + entries_of s i
unfolding first_entry
entry_next s i = go (dec_lt i (deeper s))
  where
    go : Dec (i < deeper s) → (suc i + min (suc i) (deeper s)) * 2 ^ s.k ≡ (i + min i (deeper s)) * 2 ^ s.k + entries_of s i
    go (yes d) =
        let n : ℕ = i + min i (deeper s) in
        let e : suc i + min (suc i) (deeper s) ≡ suc (suc n) = omega arith in
        ap (λ (m : ℕ). m * 2 ^ s.k) e
        ∙ (let a = suc-mul (suc n) (2 ^ s.k) in let b = suc-mul n (2 ^ s.k) in let c = entries-deep s i d in omega arith)
    go (no d) =
        let n : ℕ = i + min i (deeper s) in
        let e : suc i + min (suc i) (deeper s) ≡ suc n = omega arith in
        ap (λ (m : ℕ). m * 2 ^ s.k) e ∙ (let a = suc-mul n (2 ^ s.k) in let c = entries-flat s i (omega arith) in omega arith)

pub entry-all : (s : Shape) → deeper s ≤ s.tau → first_entry s s.tau ≡ leaves s
unfolding first_entry leaves
entry-all s h = ap (λ (n : ℕ). (s.tau + n) * 2 ^ s.k) (let z : min s.tau (deeper s) ≡ deeper s = omega arith in z)

-- ---- leaves

-- t numbers for each of p places, interleaved
pub interleaved-lt : (t p b i : ℕ) → b < p → i < t → t * b + i < t * p
interleaved-lt t p b i h l =
    let m : t * suc b ≤ t * p = mul-le-mul (le_refl t) h in
    omega (arith, mul-suc t b)

interleaved-one : (t i j m n : ℕ) → i < t → m < t → t * j + i ≡ t * n + m → (i ≡ m) × (j ≡ n)
interleaved-one t i j m n h l e =
    let a = mul_comm t j in
    let b = mul_comm t n in
    let g : j * t + i ≡ n * t + m = omega arith in
    (sym (digits_mod j h) ∙ ap (λ (x : ℕ). x % t) g ∙ digits_mod n l, sym (digits_div j h) ∙ ap (λ (x : ℕ). x / t) g ∙ digits_div n l)

-- an entry among the first 2^k, and one behind them
pub leaf-near : (s : Shape) (i j : ℕ) → j < 2 ^ s.k → leaf_of s i j ≡ leaves s - 1 + s.tau * j + i
unfolding leaf_of
leaf-near s i j h = rw (lt-ltb j (2 ^ s.k) h) refl

pub leaf-far : (s : Shape) (i j : ℕ) → 2 ^ s.k ≤ j → leaf_of s i j ≡ leaves s - 1 + (s.tau * 2 ^ s.k + deeper s * (j - 2 ^ s.k)) + i
unfolding leaf_of
leaf-far s i j h = rw (le-ltb j (2 ^ s.k) h) refl

-- an entry behind the first 2^k is one of a deeper vector
pub far-entry : (s : Shape) (i j : ℕ) → 2 ^ s.k ≤ j → j < entries_of s i → (i < deeper s) × (j - 2 ^ s.k < 2 ^ s.k)
far-entry s i j h l = go (dec_lt i (deeper s))
  where
    go : Dec (i < deeper s) → (i < deeper s) × (j - 2 ^ s.k < 2 ^ s.k)
    go (yes d) = (d, (let e = entries-deep s i d in omega arith))
    go (no d) = absurd (let e = entries-flat s i (omega arith) in omega arith)

pub leaves-split : (s : Shape) → leaves s ≡ s.tau * 2 ^ s.k + deeper s * 2 ^ s.k
unfolding leaves
leaves-split s = add-mul s.tau (deeper s) (2 ^ s.k)

-- an entry of a vector is a leaf
pub leaf-of-entry : (s : Shape) (i j : ℕ) → i < s.tau → j < entries_of s i → (leaves s ≤ leaf_of s i j + 1) × (leaf_of s i j + 1 < 2 * leaves s)
leaf-of-entry s i j h l = go (dec_lt j (2 ^ s.k))
  where
    all : leaves s ≡ s.tau * 2 ^ s.k + deeper s * 2 ^ s.k
    all = leaves-split s

    go : Dec (j < 2 ^ s.k) → (leaves s ≤ leaf_of s i j + 1) × (leaf_of s i j + 1 < 2 * leaves s)
    go (yes d) =
        let e = leaf-near s i j d in
        let g = interleaved-lt s.tau (2 ^ s.k) j i d h in
        let a = all in
        (omega arith, omega arith)
    go (no d) =
        let q = far-entry s i j (omega arith) l in
        let e = leaf-far s i j (omega arith) in
        let g = interleaved-lt (deeper s) (2 ^ s.k) (j - 2 ^ s.k) i q.1 q.0 in
        let a = all in
        (omega arith, omega arith)

-- and of no other
pub leaf-one : (s : Shape) (i j m n : ℕ) → i < s.tau → j < entries_of s i → m < s.tau → n < entries_of s m → leaf_of s i j ≡ leaf_of s m n → (i ≡ m) × (j ≡ n)
leaf-one s i j m n hi hj hm hn e = go (dec_lt j (2 ^ s.k)) (dec_lt n (2 ^ s.k))
  where
    go : Dec (j < 2 ^ s.k) → Dec (n < 2 ^ s.k) → (i ≡ m) × (j ≡ n)
    go (yes a) (yes b) = (let x = leaf-near s i j a in let y = leaf-near s m n b in interleaved-one s.tau i j m n hi hm (omega arith))
    go (yes a) (no b) =
        absurd
        (let x = leaf-near s i j a in let y = leaf-far s m n (omega arith) in let g = interleaved-lt s.tau (2 ^ s.k) j i a hi in omega arith)
    go (no a) (yes b) =
        absurd
        (let x = leaf-far s i j (omega arith) in let y = leaf-near s m n b in let g = interleaved-lt s.tau (2 ^ s.k) n m b hm in omega arith)
    go (no a) (no b) =
        let x = leaf-far s i j (omega arith) in
        let y = leaf-far s m n (omega arith) in
        let p = far-entry s i j (omega arith) hj in
        let q = far-entry s m n (omega arith) hn in
        let r = interleaved-one (deeper s) i (j - 2 ^ s.k) m (n - 2 ^ s.k) p.0 q.0 (omega arith) in
        (r.0, (let z = r.1 in omega arith))
