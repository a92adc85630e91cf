-- The xor of the members of a run whose number has bit j set, from a sum that runs: after n members, what is kept for bit j is the xor of those below n whose
-- bit is set, and the running sum on top of it where bit j of n is set. One member more changes it only where bit j of n changes, and then by the sum. And a
-- run of 2 ^ k members in the order of their numbers xored with a mask. By the laws of xor.
use mathlib.Core.Path.{◌≡◌, refl, sym, ap, ap₂, ◌∙◌}
use Prim.Native.Nat.{ℕ, zero, suc, ◌+◌, ◌-◌, ◌*◌, ◌/◌, ◌%◌, ◌^◌, ◌<◌}
use native.Mathlib.Nat.{zero-mul, one-mul, zero-div, div-eq_of_lt, add-div_left, pow-suc, two-pow-succ, mod-lt, mul-mod_left}
use native.Mathlib.Numerals.{add-one}
use native.Mathlib.Omega.{arith}
use lib.Pow.{pow_pos, pow-add, shl-shr}
use lib.Arith.{digits_div, digits_mod}
use lib.Bits.{bit_xor, differ, xor_step, xor_shr, xor_zero_l, xor_comm}
use Rattle.spec.specs.Bytes.{bit, xor_below}
use Rattle.laws.proofs.Digits.{bit-lt}
use Rattle.laws.proofs.Xor.{digit-cases, xor_assoc, xor-odd, xor-cancel, xor-cancel-r, digit-xor, differ-mul}
use Rattle.laws.proofs.Sums.{xor_same, xor-append}

-- ---- bits

pub bit-zero : (j : ℕ) → bit j 0 ≡ 0
bit-zero j = ap (λ (n : ℕ). n % 2) (zero-div (2 ^ j))

pub bit-xor : (j m n : ℕ) → bit j (bit_xor m n) ≡ differ (bit j m) (bit j n)
bit-xor j m n = ap (λ (x : ℕ). x % 2) (xor_shr m n j) ∙ xor-odd (m / 2 ^ j) (n / 2 ^ j)

pub bit_below : (h x : ℕ) → x < 2 ^ h → bit h x ≡ 0
bit_below h x l = ap (λ (n : ℕ). n % 2) (div-eq_of_lt l)

pub bit-power : (j h : ℕ) → j < h → bit j (2 ^ h) ≡ 0
bit-power j h l =
    let e : 2 ^ h ≡ 2 ^ (h - j - 1) * 2 * 2 ^ j =
    ap (λ (n : ℕ). 2 ^ n) (let z : h ≡ suc (h - j - 1) + j = omega arith in z) ∙ pow-add 2 (suc (h - j - 1)) j ∙ ap (λ (x : ℕ). x * 2 ^ j) (pow-suc 2 (h - j - 1))
    in
    ap (λ (x : ℕ). x / 2 ^ j % 2) e ∙ ap (λ (x : ℕ). x % 2) (shl-shr (2 ^ (h - j - 1) * 2) j) ∙ mul-mod_left (2 ^ (h - j - 1)) 2

bit-upper : (h x : ℕ) → x < 2 ^ h → bit h (2 ^ h + x) ≡ 1
bit-upper h x l = ap (λ (n : ℕ). n % 2) (add-div_left x (pow_pos h) ∙ ap (λ (n : ℕ). n + 1) (div-eq_of_lt l))

-- ---- the running sum

-- the xor of the members below n whose number has bit j set
abbrev pub marked : ℕ → ℕ → (ℕ → ℕ) → ℕ
marked j n f = xor_below n (λ x. bit j x * f x)

-- member n is added to the sum r, and the new sum where bit j changes
pub marked_next : (j n : ℕ) (f : ℕ → ℕ) (r : ℕ)
    → bit_xor (bit_xor (marked j n f) (bit j n * r)) (bit j (bit_xor n (n + 1)) * bit_xor r (f n)) ≡ bit_xor (marked j (n + 1) f) (bit j (n + 1) * bit_xor r (f n))
unfolding xor_below
marked_next j n f r =
    let a = bit j n in
    let b = bit j (n + 1) in
    let v = marked j n f in
    let r' = bit_xor r (f n) in
    ap (bit_xor (bit_xor v (a * r))) (ap (λ (d : ℕ). d * r') (bit-xor j n (n + 1)) ∙ differ-mul a b r' (bit-lt j n) (bit-lt j (n + 1)))
    ∙ sym (xor_assoc (bit_xor v (a * r)) (a * r') (b * r'))
    ∙ ap (λ (x : ℕ). bit_xor x (b * r'))
    (xor_assoc v (a * r) (a * r')
    ∙ ap (bit_xor v) (ap (bit_xor (a * r)) (digit-xor a r (f n) (bit-lt j n)) ∙ xor-cancel (a * r) (a * f n))
    ∙ ap (λ (m : ℕ). marked j m f) (sym (add-one n)))

none : (n : ℕ) → xor_below n (λ x. 0) ≡ 0
unfolding xor_below
none zero = refl
none (suc n) = ap (λ (x : ℕ). bit_xor x 0) (none n)

-- the highest bit: the members of the second half
pub marked-highest : (h : ℕ) (f : ℕ → ℕ) → marked h (2 ^ suc h) f ≡ bit_xor (xor_below (2 ^ h) f) (xor_below (2 ^ suc h) f)
marked-highest h f =
    let n = 2 ^ h in
    let second = xor_below n (λ x. f (n + x)) in
    ap (λ (m : ℕ). marked h m f) (two-pow-succ h)
    ∙ xor-append n n (λ x. bit h x * f x)
    ∙ ap₂ bit_xor
    (xor_same n (λ x. bit h x * f x) (λ x. 0) (λ x l. ap (λ (d : ℕ). d * f x) (bit_below h x l) ∙ zero-mul (f x)) ∙ none n)
    (xor_same n (λ x. bit h (n + x) * f (n + x)) (λ x. f (n + x)) (λ x l. ap (λ (d : ℕ). d * f (n + x)) (bit-upper h x l) ∙ one-mul (f (n + x))))
    ∙ xor_zero_l second
    ∙ sym (ap (bit_xor (xor_below n f)) (ap (λ (m : ℕ). xor_below m f) (two-pow-succ h) ∙ xor-append n n f) ∙ xor-cancel (xor_below n f) second)

-- ---- the order of numbers xored with a mask

pairs : (n : ℕ) (f : ℕ → ℕ) → xor_below (n * 2) f ≡ xor_below n (λ y. bit_xor (f (y * 2)) (f (y * 2 + 1)))
unfolding xor_below
pairs zero f = ap (λ (n : ℕ). xor_below n f) (zero-mul 2)
pairs (suc n) f =
    ap (λ (m : ℕ). xor_below m f) (let z : suc n * 2 ≡ suc (suc (n * 2)) = omega arith in z)
    ∙ xor_assoc (xor_below (n * 2) f) (f (n * 2)) (f (suc (n * 2)))
    ∙ ap₂ (λ (x m : ℕ). bit_xor x (bit_xor (f (n * 2)) (f m))) (pairs n f) (sym (add-one (n * 2)))

pub xor-permuted : (k m : ℕ) (f : ℕ → ℕ) → m < 2 ^ k → xor_below (2 ^ k) (λ x. f (bit_xor x m)) ≡ xor_below (2 ^ k) f
unfolding xor_below
xor-permuted zero m f l = (let e : m ≡ 0 = omega arith in ap (λ (n : ℕ). bit_xor 0 (f (bit_xor 0 n))) e)
xor-permuted (suc k) m f l =
    ap (λ (n : ℕ). xor_below n (λ x. f (bit_xor x m))) (pow-suc 2 k)
    ∙ pairs (2 ^ k) (λ x. f (bit_xor x m))
    ∙ xor_same (2 ^ k) (λ y. bit_xor (f (bit_xor (y * 2) m)) (f (bit_xor (y * 2 + 1) m))) (λ y. pair (bit_xor y (m / 2))) (λ y h. both y)
    ∙ xor-permuted k (m / 2) pair (let z : m < 2 ^ k * 2 = rw (pow-suc 2 k) at l in omega arith)
    ∙ sym (ap (λ (n : ℕ). xor_below n f) (pow-suc 2 k) ∙ pairs (2 ^ k) f)
  where
    pair : ℕ → ℕ
    pair z = bit_xor (f (z * 2)) (f (z * 2 + 1))

    step : (y d : ℕ) → d < 2 → bit_xor (y * 2 + d) m ≡ bit_xor y (m / 2) * 2 + differ d (m % 2)
    step y d h = xor_step (y * 2 + d) m ∙ ap₂ (λ (a b : ℕ). bit_xor a (m / 2) * 2 + differ b (m % 2)) (digits_div y h) (digits_mod y h)

    at-digit : (z d : ℕ) → d < 2 → bit_xor (f (z * 2 + differ 0 d)) (f (z * 2 + differ 1 d)) ≡ pair z
    at-digit z d =
        digit-cases (λ (d : ℕ). bit_xor (f (z * 2 + differ 0 d)) (f (z * 2 + differ 1 d)) ≡ pair z)
        (ap (λ (n : ℕ). bit_xor (f n) (f (z * 2 + 1))) (let e : z * 2 + 0 ≡ z * 2 = omega arith in e))
        (ap (λ (n : ℕ). bit_xor (f (z * 2 + 1)) (f n)) (let e : z * 2 + 0 ≡ z * 2 = omega arith in e) ∙ xor_comm (f (z * 2 + 1)) (f (z * 2)))
        d

    both : (y : ℕ) → bit_xor (f (bit_xor (y * 2) m)) (f (bit_xor (y * 2 + 1) m)) ≡ pair (bit_xor y (m / 2))
    both y =
        ap₂ (λ (a b : ℕ). bit_xor (f a) (f b))
        (ap (λ (n : ℕ). bit_xor n m) (let e : y * 2 ≡ y * 2 + 0 = omega arith in e) ∙ step y 0 (omega arith))
        (step y 1 (omega arith))
        ∙ at-digit (bit_xor y (m / 2)) (m % 2) (mod-lt m (omega arith))

-- numbers in their order, and members in theirs
pub marked-permuted : (k m j : ℕ) (f : ℕ → ℕ) → m < 2 ^ k → marked j (2 ^ k) (λ x. f (bit_xor x m)) ≡ xor_below (2 ^ k) (λ e. bit j (bit_xor e m) * f e)
marked-permuted k m j f l =
    xor_same (2 ^ k) (λ x. bit j x * f (bit_xor x m)) (λ x. bit j (bit_xor (bit_xor x m) m) * f (bit_xor x m))
    (λ x h. ap (λ (n : ℕ). bit j n * f (bit_xor x m)) (sym (xor-cancel-r x m)))
    ∙ xor-permuted k m (λ e. bit j (bit_xor e m) * f e) l
