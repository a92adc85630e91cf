-- Polynomials over GF(2): the product is linear in each factor; `remainder` leaves a polynomial of degree below that of m, which differs from the one it
-- was given by a multiple of m, and only one polynomial does. By induction on the number of terms; the top term decides.
use mathlib.Core.Path.{◌≡◌, refl, sym, ap, ap₂, ◌∙◌, subst}
use Prim.Native.Nat.{ℕ, zero, suc, ◌+◌, ◌-◌, ◌*◌, ◌/◌, ◌%◌, ◌^◌, ◌≤◌, ◌<◌}
use native.Mathlib.Nat.{mod-lt, mul_comm, mul_assoc, zero-mul, one-mul, add-zero, zero-add, zero-div, mul-one, div-lt_iff_lt-mul, div-eq_of_lt, pow-suc, add_comm, lt_of_lt_of_le}
use native.Mathlib.Omega.{arith}
use lib.Arith.{lt-one, digits_div, digits_lt}
use lib.Pow.{pow_pos, pow_mono, shl-shr, shr-shr, shr_lt, split}
use lib.Bits.{bit_xor, block_half, block_odd, xor_lt, xor_zero_r, xor_self, xor_comm, xor_shr, xor_block}
use Rattle.spec.specs.Bytes.{bit}
use Rattle.spec.specs.Polynomials.{product, remainder}
use Rattle.laws.proofs.Xor.{digit-cases, xor_assoc, xor-swap, xor-cancel, xor-odd, xor-half, digit-xor, differ-mul, digit-mul-lt}

pub half_lt : {a : ℕ} (n : ℕ) → a < 2 ^ suc n → a / 2 < 2 ^ n
half_lt {a} n h = (div-lt_iff_lt-mul {k = 2} (omega arith)).1 (subst (λ (m : ℕ). a < m) (pow-suc 2 n) h)

pub xor-double : (a b : ℕ) → bit_xor (a * 2) (b * 2) ≡ bit_xor a b * 2
xor-double a b =
    ap₂ bit_xor (sym (add-zero (a * 2))) (sym (add-zero (b * 2)))
    ∙ xor_block 1 a b 0 0 (omega arith) (omega arith)
    ∙ add-zero (bit_xor a b * 2)

-- ---- the product

pub product-xor-l : (n a b s : ℕ) → product n (bit_xor a b) s ≡ bit_xor (product n a s) (product n b s)
unfolding product
product-xor-l zero a b s = refl
product-xor-l (suc n) a b s =
    ap₂ bit_xor (digit-xor (s % 2) a b (mod-lt s (omega arith)))
    (ap (λ (c : ℕ). product n c (s / 2)) (sym (xor-double a b)) ∙ product-xor-l n (a * 2) (b * 2) (s / 2))
    ∙ xor-swap (s % 2 * a) (s % 2 * b) (product n (a * 2) (s / 2)) (product n (b * 2) (s / 2))

pub product-xor-r : (n a s t : ℕ) → product n a (bit_xor s t) ≡ bit_xor (product n a s) (product n a t)
unfolding product
product-xor-r zero a s t = refl
product-xor-r (suc n) a s t =
    ap₂ bit_xor
    (ap (λ (d : ℕ). d * a) (xor-odd s t) ∙ differ-mul (s % 2) (t % 2) a (mod-lt s (omega arith)) (mod-lt t (omega arith)))
    (ap (product n (a * 2)) (xor-half s t) ∙ product-xor-r n (a * 2) (s / 2) (t / 2))
    ∙ xor-swap (s % 2 * a) (t % 2 * a) (product n (a * 2) (s / 2)) (product n (a * 2) (t / 2))

pub product-zero-r : (n a : ℕ) → product n a 0 ≡ 0
unfolding product
product-zero-r zero a = refl
product-zero-r (suc n) a = ap₂ bit_xor (zero-mul a) (product-zero-r n (a * 2))

-- one term more at the top
pub product-top : (n a s d : ℕ) → s < 2 ^ n → d < 2 → product (suc n) a (d * 2 ^ n + s) ≡ bit_xor (product n a s) (d * (a * 2 ^ n))
unfolding product
product-top zero a s d hs hd =
    let e : d * 2 ^ 0 + s ≡ d = (let z = lt-one hs in let o = mul-one d in omega arith) in
    let m : d % 2 ≡ d = omega arith in
    xor_zero_r ((d * 2 ^ 0 + s) % 2 * a)
    ∙ ap (λ (x : ℕ). x % 2 * a) e
    ∙ ap₂ (λ (x y : ℕ). x * y) m (sym (mul-one a))
product-top (suc n) a s d hs hd =
    ap₂ (λ (x y : ℕ). bit_xor (x * a) (product (suc n) (a * 2) y)) (block_odd d n s) (block_half d n s)
    ∙ ap (bit_xor (s % 2 * a))
    (product-top n (a * 2) (s / 2) d (half_lt n hs) hd
    ∙ ap (λ (x : ℕ). bit_xor (product n (a * 2) (s / 2)) (d * x))
    (mul_assoc a 2 (2 ^ n) ∙ ap (λ (x : ℕ). a * x) (mul_comm 2 (2 ^ n) ∙ sym (pow-suc 2 n))))
    ∙ sym (xor_assoc (s % 2 * a) (product n (a * 2) (s / 2)) (d * (a * 2 ^ suc n)))

-- the degree of a product: a of degree at most w, n terms in s
pub product_lt : (w n a s : ℕ) → a < 2 ^ suc w → product n a s < 2 ^ (w + n)
unfolding product
product_lt w zero a s h = pow_pos (w + 0)
product_lt w (suc n) a s h =
    xor_lt (w + suc n) (s % 2 * a) (product n (a * 2) (s / 2))
    (digit-mul-lt (w + suc n) (s % 2) a (mod-lt s (omega arith))
    (lt_of_lt_of_le h (pow_mono {i = suc w} {j = w + suc n} (omega arith))))
    (subst (λ (m : ℕ). product n (a * 2) (s / 2) < 2 ^ m) (let z : suc w + n ≡ w + suc n = omega arith in z)
    (product_lt (suc w) n (a * 2) (s / 2) (rw pow-suc (omega arith))))

-- ---- the remainder

-- what is 0 when xored is equal
pub xor-none : (a b : ℕ) → bit_xor a b ≡ 0 → a ≡ b
xor-none a b e = sym (xor_zero_r a) ∙ ap (bit_xor a) (sym e) ∙ xor-cancel a b

below-of-shift : (x k : ℕ) → x / 2 ^ k ≡ 0 → x < 2 ^ k
below-of-shift x k e =
    subst (λ (y : ℕ). y < 2 ^ k)
    (sym (ap (λ (q : ℕ). q * 2 ^ k + x % 2 ^ k) e ∙ ap (λ (y : ℕ). y + x % 2 ^ k) (zero-mul (2 ^ k)) ∙ zero-add (x % 2 ^ k)) ∙ split x k)
    (mod-lt x (pow_pos k))

-- m has degree w
module _ (w m : ℕ) (low : 2 ^ w ≤ m) (high : m < 2 ^ suc w) where
  -- the top digit of d times m, moved up by n
  top_digit : (n d : ℕ) → d < 2 → d * (m * 2 ^ n) / 2 ^ (w + n) ≡ d
  top_digit n d h =
      digit-cases (λ (d : ℕ). d * (m * 2 ^ n) / 2 ^ (w + n) ≡ d)
      (ap (λ (x : ℕ). x / 2 ^ (w + n)) (zero-mul (m * 2 ^ n)) ∙ zero-div (2 ^ (w + n)))
      (ap₂ (λ (x k : ℕ). x / 2 ^ k) (one-mul (m * 2 ^ n)) (add_comm w n)
      ∙ sym (shr-shr (m * 2 ^ n) n w)
      ∙ ap (λ (x : ℕ). x / 2 ^ w) (shl-shr m n)
      ∙ ap (λ (x : ℕ). x / 2 ^ w) (let z : m ≡ 1 * 2 ^ w + (m - 2 ^ w) = (let o = one-mul (2 ^ w) in omega arith) in z)
      ∙ digits_div 1 (let z : m - 2 ^ w < 2 ^ w = (let o = pow-suc 2 w in omega arith) in z))
      d h

  -- the top term is cleared
  cleared : (n p : ℕ) → p < 2 ^ (w + suc n) → bit_xor (bit (w + n) p * (m * 2 ^ n)) p < 2 ^ (w + n)
  cleared n p h =
      let k = w + n in
      let d : p / 2 ^ k < 2 = shr_lt 1 k (subst (λ (x : ℕ). p < 2 ^ x) (let z : w + suc n ≡ 1 + k = omega arith in z) h) in
      let e : bit k p ≡ p / 2 ^ k = omega arith in
      below-of-shift (bit_xor (bit k p * (m * 2 ^ n)) p) k
      (xor_shr (bit k p * (m * 2 ^ n)) p k
      ∙ ap (λ (x : ℕ). bit_xor x (p / 2 ^ k)) (ap (λ (x : ℕ). x * (m * 2 ^ n) / 2 ^ k) e ∙ top_digit n (p / 2 ^ k) d)
      ∙ xor_self (p / 2 ^ k))

  pub remainder-lt : (n p : ℕ) → p < 2 ^ (w + n) → remainder w m n p < 2 ^ w
  unfolding remainder
  remainder-lt zero p h = rw add-zero at h
  remainder-lt (suc n) p h = remainder-lt n (bit_xor (bit (w + n) p * (m * 2 ^ n)) p) (cleared n p h)

  -- what was taken away is a multiple of m
  pub remainder-multiple : (n p : ℕ) → p < 2 ^ (w + n) → (q : ℕ) × (q < 2 ^ n) × (p ≡ bit_xor (remainder w m n p) (product n m q))
  unfolding remainder
  remainder-multiple zero p h = (0, pow_pos 0, sym (ap (bit_xor p) (product-zero-r 0 m) ∙ xor_zero_r p))
  remainder-multiple (suc n) p h =
      let d = bit (w + n) p in
      let hd : d < 2 = mod-lt (p / 2 ^ (w + n)) (omega arith) in
      let p' = bit_xor (d * (m * 2 ^ n)) p in
      let R = remainder w m n p' in
      let ih = remainder-multiple n p' (cleared n p h) in (
        d * 2 ^ n + ih.0,
        rw (pow-suc, mul_comm (2 ^ n) 2) (digits_lt hd ih.1),
        sym (xor-cancel (d * (m * 2 ^ n)) p)
            ∙ ap (bit_xor (d * (m * 2 ^ n))) ih.2
            ∙ xor_comm (d * (m * 2 ^ n)) (bit_xor R (product n m ih.0))
            ∙ xor_assoc R (product n m ih.0) (d * (m * 2 ^ n))
            ∙ ap (bit_xor R) (sym (product-top n m ih.0 d ih.1 hd)),
      )

  -- a multiple of m of degree below w is 0 times m
  small-multiple : (n q : ℕ) → q < 2 ^ n → product n m q < 2 ^ w → q ≡ 0
  small-multiple zero q h l = lt-one h
  small-multiple (suc n) q h l =
      let d = q / 2 ^ n in
      let hd : d < 2 = shr_lt 1 n (subst (λ (x : ℕ). q < 2 ^ x) (let z : suc n ≡ 1 + n = omega arith in z) h) in
      let hr : q % 2 ^ n < 2 ^ n = mod-lt q (pow_pos n) in
      let X = product n m (q % 2 ^ n) in
      let top : product (suc n) m q ≡ bit_xor X (d * (m * 2 ^ n)) = ap (product (suc n) m) (sym (split q n)) ∙ product-top n m (q % 2 ^ n) d hr hd in
      let shifted : product (suc n) m q / 2 ^ (w + n) ≡ d =
      ap (λ (x : ℕ). x / 2 ^ (w + n)) top
      ∙ xor_shr X (d * (m * 2 ^ n)) (w + n)
      ∙ ap₂ bit_xor (div-eq_of_lt (product_lt w n m (q % 2 ^ n) high)) (top_digit n d hd) in
      let none : d ≡ 0 =
      sym shifted ∙ div-eq_of_lt (lt_of_lt_of_le l (pow_mono {i = w} {j = w + n} (omega arith))) in
      let rest : X ≡ product (suc n) m q =
      sym (top ∙ ap (λ (x : ℕ). bit_xor X (x * (m * 2 ^ n))) none ∙ ap (bit_xor X) (zero-mul (m * 2 ^ n)) ∙ xor_zero_r X) in
      let ih : q % 2 ^ n ≡ 0 = small-multiple n (q % 2 ^ n) hr (subst (λ (x : ℕ). x < 2 ^ w) (sym rest) l) in
      sym (split q n) ∙ ap₂ (λ (x y : ℕ). x * 2 ^ n + y) none ih ∙ (let z = zero-mul (2 ^ n) in omega arith)

  -- only one remainder
  pub remainder-unique : (n r q r' q' : ℕ) → r < 2 ^ w → r' < 2 ^ w → q < 2 ^ n → q' < 2 ^ n
      → bit_xor r (product n m q) ≡ bit_xor r' (product n m q') → r ≡ r'
  remainder-unique n r q r' q' hr hr' hq hq' e =
      let X = product n m q in
      let X' = product n m q' in
      let same : bit_xor r r' ≡ bit_xor X X' =
      xor-none (bit_xor r r') (bit_xor X X') (sym (xor-swap r X r' X') ∙ ap (λ (x : ℕ). bit_xor x (bit_xor r' X')) e ∙ xor_self (bit_xor r' X')) in
      let linear : product n m (bit_xor q q') ≡ bit_xor X X' = product-xor-r n m q q' in
      let zero-q : bit_xor q q' ≡ 0 =
      small-multiple n (bit_xor q q') (xor_lt n q q' hq hq') (subst (λ (x : ℕ). x < 2 ^ w) (same ∙ sym linear) (xor_lt w r r' hr hr')) in
      xor-none r r' (same ∙ sym linear ∙ ap (product n m) zero-q ∙ product-zero-r n m)
