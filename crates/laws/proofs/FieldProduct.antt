-- The product in a field of polynomials modulo m, by parts of the second factor. Polynomials are congruent where they differ by a multiple of m. Sums and
-- shifts keep this, and only one polynomial of degree below that of m is congruent to a given one: so a sum of the right degree that is congruent to the
-- product is the product in the field.
use mathlib.Core.Path.{◌≡◌, refl, sym, ap, ap₂, ◌∙◌}
use Prim.Native.Nat.{ℕ, zero, suc, ◌+◌, ◌-◌, ◌*◌, ◌/◌, ◌%◌, ◌^◌, ◌≤◌, ◌<◌}
use native.Mathlib.Nat.{mod-lt, mul_assoc, zero-mul, one-mul, mul-one, add-zero, zero-add, suc-add, add_comm, pow-suc, pow-succ', le-add_right, sub-add_cancel, lt_of_lt_of_le}
use native.Mathlib.Omega.{arith}
use lib.Arith.{lt-one}
use lib.Pow.{pow_pos, pow_mono, shl_lt, shr_lt, split}
use lib.Bits.{bit_xor, shifted_half, shifted_even, xor_lt, xor_zero_r, xor_self, xor_comm, xor_block, xor_shifted}
use Rattle.spec.specs.Polynomials.{product, remainder, field_product}
use Rattle.laws.proofs.Xor.{xor_assoc, xor-swap, xor-cancel}
use Rattle.laws.proofs.Polynomials.{half_lt, xor-double, product-xor-l, product-xor-r, product-zero-r, product_lt, remainder-lt, remainder-multiple, remainder-unique}

-- ---- the product of polynomials

-- terms that are 0 may be counted or not
product-more : (n a s : ℕ) → s < 2 ^ n → product (suc n) a s ≡ product n a s
unfolding product
product-more zero a s h = ap (λ (c : ℕ). bit_xor (c % 2 * a) 0) (lt-one h) ∙ ap (λ (c : ℕ). bit_xor c 0) (zero-mul a)
product-more (suc n) a s h = ap (bit_xor (s % 2 * a)) (product-more n (a * 2) (s / 2) (half_lt n h))

pad : (j n a s : ℕ) → s < 2 ^ n → product (j + n) a s ≡ product n a s
pad zero n a s h = ap (λ (k : ℕ). product k a s) (zero-add n)
pad (suc j) n a s h =
    ap (λ (k : ℕ). product k a s) (suc-add j n)
    ∙ product-more (j + n) a s (lt_of_lt_of_le h (pow_mono {i = n} {j = j + n} (omega arith)))
    ∙ pad j n a s h

pub product-pad : (n k a s : ℕ) → n ≤ k → s < 2 ^ n → product k a s ≡ product n a s
product-pad n k a s le h = ap (λ (j : ℕ). product j a s) (sym (sub-add_cancel le)) ∙ pad (k - n) n a s h

product-double : (n a s : ℕ) → product n (a * 2) s ≡ product n a s * 2
unfolding product
product-double zero a s = refl
product-double (suc n) a s =
    ap₂ bit_xor (sym (mul_assoc (s % 2) a 2)) (product-double n (a * 2) (s / 2)) ∙ xor-double (s % 2 * a) (product n (a * 2) (s / 2))

-- a factor times 2 ^ k
product-shift-l : (k n a s : ℕ) → product n (a * 2 ^ k) s ≡ product n a s * 2 ^ k
product-shift-l zero n a s = ap (λ (b : ℕ). product n b s) (mul-one a) ∙ sym (mul-one (product n a s))
product-shift-l (suc k) n a s =
    ap (λ (b : ℕ). product n b s) (ap (λ (b : ℕ). a * b) (pow-suc 2 k) ∙ sym (mul_assoc a (2 ^ k) 2))
    ∙ product-double n (a * 2 ^ k) s
    ∙ ap (λ (b : ℕ). b * 2) (product-shift-l k n a s)
    ∙ mul_assoc (product n a s) (2 ^ k) 2
    ∙ ap (λ (b : ℕ). product n a s * b) (sym (pow-suc 2 k))

product-shift-r : (k n a s : ℕ) → product (k + n) a (s * 2 ^ k) ≡ product n a s * 2 ^ k
unfolding product
product-shift-r zero n a s = ap₂ (λ (j b : ℕ). product j a b) (zero-add n) (mul-one s) ∙ sym (mul-one (product n a s))
product-shift-r (suc k) n a s =
    ap (λ (j : ℕ). product j a (s * 2 ^ suc k)) (suc-add k n)
    ∙ ap₂ bit_xor (ap (λ (d : ℕ). d * a) (shifted_even s k) ∙ zero-mul a) (ap (product (k + n) (a * 2)) (shifted_half s k) ∙ product-shift-r k n (a * 2) s)
    ∙ ap (λ (b : ℕ). b * 2 ^ k) (product-double n a s)
    ∙ mul_assoc (product n a s) 2 (2 ^ k)
    ∙ ap (λ (b : ℕ). product n a s * b) (sym (pow-succ' 2 k))

-- the k lowest terms of s, and the others
product-split : (k n a s : ℕ) → product (k + n) a s ≡ bit_xor (product n a (s / 2 ^ k) * 2 ^ k) (product k a (s % 2 ^ k))
product-split k n a s =
    let hi = s / 2 ^ k in
    let lo = s % 2 ^ k in
    let hlo : lo < 2 ^ k = mod-lt s (pow_pos k) in
    ap (product (k + n) a) (sym (split s k) ∙ sym (xor_shifted hi k lo hlo))
    ∙ product-xor-r (k + n) a (hi * 2 ^ k) lo
    ∙ ap₂ bit_xor (product-shift-r k n a hi) (product-pad k (k + n) a lo (omega arith) hlo)

product-one-l : (n s : ℕ) → s < 2 ^ n → product n 1 s ≡ s
unfolding product
product-one-l zero s h = sym (lt-one h)
product-one-l (suc n) s h =
    ap₂ bit_xor (mul-one (s % 2)) (product-double n 1 (s / 2) ∙ ap (λ (b : ℕ). b * 2) (product-one-l n (s / 2) (half_lt n h)))
    ∙ xor_comm (s % 2) (s / 2 * 2)
    ∙ xor_shifted (s / 2) 1 (s % 2) (mod-lt s (omega arith))
    ∙ split s 1

product-one-r : (n a : ℕ) → product (suc n) a 1 ≡ a
unfolding product
product-one-r n a = ap₂ bit_xor (one-mul a) (product-zero-r n (a * 2)) ∙ xor_zero_r a

-- ---- modulo m

-- a and b differ by a multiple of m
pub record Congruent (m a b : ℕ) : Type 0 where
  pub n : ℕ
  pub q : ℕ
  pub small : q < 2 ^ n
  pub is : bit_xor a b ≡ product n m q

module _ {m : ℕ} where
  pub congruent-of : {a b : ℕ} → a ≡ b → Congruent m a b
  congruent-of {a} {b} e = record { n = 0; q = 0; small = pow_pos 0; is = ap (bit_xor a) (sym e) ∙ xor_self a ∙ sym (product-zero-r 0 m) }

  pub congruent-sym : {a b : ℕ} → Congruent m a b → Congruent m b a
  congruent-sym {a} {b} s = record { n = s.n; q = s.q; small = s.small; is = xor_comm b a ∙ s.is }

  pub congruent-xor : {a b c d : ℕ} → Congruent m a b → Congruent m c d → Congruent m (bit_xor a c) (bit_xor b d)
  congruent-xor {a} {b} {c} {d} s t =
      let j = s.n + t.n in
      record {
        n = j;
        q = bit_xor s.q t.q;
        small =
            xor_lt j s.q t.q (lt_of_lt_of_le s.small (pow_mono {i = s.n} {j = j} (omega arith)))
            (lt_of_lt_of_le t.small (pow_mono {i = t.n} {j = j} (omega arith)));
        is =
            xor-swap a c b d
            ∙ ap₂ bit_xor
            (s.is ∙ sym (product-pad s.n j m s.q (omega arith) s.small))
            (t.is ∙ sym (product-pad t.n j m t.q (omega arith) t.small))
            ∙ sym (product-xor-r j m s.q t.q);
      }

  pub congruent-trans : {a b c : ℕ} → Congruent m a b → Congruent m b c → Congruent m a c
  congruent-trans {a} {b} {c} s t =
      let u = congruent-xor s t in
      record { n = u.n; q = u.q; small = u.small; is = sym (xor_assoc a b (bit_xor b c) ∙ ap (bit_xor a) (xor-cancel b c)) ∙ u.is }

  pub congruent-shift : {a b : ℕ} (k : ℕ) → Congruent m a b → Congruent m (a * 2 ^ k) (b * 2 ^ k)
  congruent-shift {a} {b} k s =
      record {
        n = k + s.n;
        q = s.q * 2 ^ k;
        small = rw add_comm (shl_lt s.n k s.small);
        is =
            ap₂ bit_xor (sym (add-zero (a * 2 ^ k))) (sym (add-zero (b * 2 ^ k)))
            ∙ xor_block k a b 0 0 (pow_pos k) (pow_pos k)
            ∙ add-zero (bit_xor a b * 2 ^ k)
            ∙ ap (λ (e : ℕ). e * 2 ^ k) s.is
            ∙ sym (product-shift-r k s.n m s.q);
      }

-- m has degree w
module _ (w m : ℕ) (low : 2 ^ w ≤ m) (high : m < 2 ^ suc w) where
  pub congruent-small : {a b : ℕ} → a < 2 ^ w → b < 2 ^ w → Congruent m a b → a ≡ b
  congruent-small {a} {b} ha hb s =
      remainder-unique w m low high s.n a s.q b 0 ha hb s.small (pow_pos s.n)
      (ap (bit_xor a) (sym s.is) ∙ xor-cancel a b ∙ sym (ap (bit_xor b) (product-zero-r s.n m) ∙ xor_zero_r b))

  remainder-congruent : (n p : ℕ) → p < 2 ^ (w + n) → Congruent m (remainder w m n p) p
  remainder-congruent n p h =
      let R = remainder w m n p in
      let t = remainder-multiple w m low high n p h in
      record { n = n; q = t.0; small = t.1; is = ap (bit_xor R) t.2 ∙ xor-cancel R (product n m t.0) }

  pub remainder_is : (n p r : ℕ) → p < 2 ^ (w + n) → r < 2 ^ w → Congruent m r p → r ≡ remainder w m n p
  remainder_is n p r hp hr s = congruent-small hr (remainder-lt w m low high n p hp) (congruent-trans s (congruent-sym (remainder-congruent n p hp)))

  -- ---- the product in the field, for x of degree below w

  module _ (x : ℕ) (hx : x < 2 ^ w) where
    product-below : (n s : ℕ) → product n x s < 2 ^ (w + n)
    product-below n s = product_lt w n x s (lt_of_lt_of_le hx (pow_mono {i = w} {j = suc w} (omega arith)))

    pub field_lt : (n s : ℕ) → field_product w m n x s < 2 ^ w
    unfolding field_product
    field_lt n s = remainder-lt w m low high n (product n x s) (product-below n s)

    field-congruent : (n s : ℕ) → Congruent m (field_product w m n x s) (product n x s)
    unfolding field_product
    field-congruent n s = remainder-congruent n (product n x s) (product-below n s)

    field_is : (n s r : ℕ) → r < 2 ^ w → Congruent m r (product n x s) → r ≡ field_product w m n x s
    unfolding field_product
    field_is n s r hr e = remainder_is n (product n x s) r (product-below n s) hr e

    pub field-zero : (n : ℕ) → field_product w m n x 0 ≡ 0
    field-zero n = sym (field_is n 0 0 (pow_pos w) (congruent-of (sym (product-zero-r n x))))

    pub field-one : (n : ℕ) → field_product w m (suc n) x 1 ≡ x
    field-one n = sym (field_is (suc n) 1 x hx (congruent-of (sym (product-one-r n x))))

    -- terms that are 0 may be counted or not
    pub field-pad : (n k s : ℕ) → n ≤ k → s < 2 ^ n → field_product w m k x s ≡ field_product w m n x s
    field-pad n k s le h =
        sym (field_is k s (field_product w m n x s) (field_lt n s) (congruent-trans (field-congruent n s) (congruent-of (sym (product-pad n k x s le h)))))

    -- the k lowest terms of s, and the others
    pub field-split : (k n s : ℕ)
        → bit_xor (remainder w m k (field_product w m n x (s / 2 ^ k) * 2 ^ k)) (field_product w m k x (s % 2 ^ k)) ≡ field_product w m (k + n) x s
    field-split k n s =
        let F = field_product w m n x (s / 2 ^ k) in
        let L = field_product w m k x (s % 2 ^ k) in
        let h_f : F * 2 ^ k < 2 ^ (w + k) = shl_lt w k (field_lt n (s / 2 ^ k)) in
        field_is (k + n) s (bit_xor (remainder w m k (F * 2 ^ k)) L)
        (xor_lt w (remainder w m k (F * 2 ^ k)) L (remainder-lt w m low high k (F * 2 ^ k) h_f) (field_lt k (s % 2 ^ k)))
        (congruent-trans
        (congruent-xor (congruent-trans (remainder-congruent k (F * 2 ^ k) h_f) (congruent-shift k (field-congruent n (s / 2 ^ k)))) (field-congruent k (s % 2 ^ k)))
        (congruent-of (sym (product-split k n x s))))

    -- the product with s, from those with s / 2 and s % 2
    pub field-half : (n s : ℕ) → s < 2 ^ (1 + n)
        → bit_xor (remainder w m 1 (field_product w m (1 + n) x (s / 2) * 2 ^ 1)) (field_product w m (1 + n) x (s % 2)) ≡ field_product w m (1 + n) x s
    field-half n s h =
        let one : s % 2 < 2 ^ 1 = omega arith in
        ap₂ (λ (a b : ℕ). bit_xor (remainder w m 1 (a * 2 ^ 1)) b) (field-pad n (1 + n) (s / 2) (omega arith) (shr_lt n 1 (rw add_comm at h)))
        (field-pad 1 (1 + n) (s % 2) (omega arith) one)
        ∙ field-split 1 n s

    -- one byte b more below q, in two windows of four terms
    pub field-byte : (n q b : ℕ) → b < 256
        → bit_xor (remainder w m 4 (bit_xor (remainder w m 4 (field_product w m n x q * 2 ^ 4)) (field_product w m 4 x (b / 16)) * 2 ^ 4)) (field_product w m 4 x (b % 16))
        ≡ field_product w m (4 + (4 + n)) x (b + q * 2 ^ 8)
    field-byte n q b h =
        let s = b + q * 2 ^ 8 in
        let high-terms : s / 16 / 16 ≡ q = omega arith in
        let high-window : s / 16 % 16 ≡ b / 16 = omega arith in
        let low-window : s % 16 ≡ b % 16 = omega arith in
        let F : ℕ → ℕ → ℕ = λ n s. field_product w m n x s in
        ap₂ (λ (a c : ℕ). bit_xor (remainder w m 4 (a * 2 ^ 4)) (F 4 c))
        (ap₂ (λ (a c : ℕ). bit_xor (remainder w m 4 (F n a * 2 ^ 4)) (F 4 c)) (sym high-terms) (sym high-window) ∙ field-split 4 n (s / 16)) (sym low-window)
        ∙ field-split 4 (4 + n) s

-- x times 2 ^ n, as lo below 2 ^ w and c above it, modulo 2 ^ w + r: c comes back as its product with r
pub remainder-shift : (w r : ℕ) → r < 2 ^ w → (n x lo c : ℕ) → x < 2 ^ w → lo < 2 ^ w → c < 2 ^ n → product n r c < 2 ^ w → lo + c * 2 ^ w ≡ x * 2 ^ n
    → bit_xor lo (product n r c) ≡ remainder w (2 ^ w + r) n (x * 2 ^ n)
remainder-shift w r hr n x lo c hx hlo hc h_p e =
    let m = 2 ^ w + r in
    let P = product n r c in
    let C = c * 2 ^ w in
    let multiple : product n m c ≡ bit_xor C P =
    ap (λ (b : ℕ). product n b c) (ap (λ (b : ℕ). b + r) (sym (one-mul (2 ^ w))) ∙ sym (xor_shifted 1 w r hr))
    ∙ product-xor-l n (1 * 2 ^ w) r c
    ∙ ap (λ (b : ℕ). bit_xor b P) (product-shift-l w n 1 c ∙ ap (λ (b : ℕ). b * 2 ^ w) (product-one-l n c hc)) in
    remainder_is w m (le-add_right (2 ^ w) r) (let d = pow-suc 2 w in omega arith) n (x * 2 ^ n) (bit_xor lo P) (shl_lt w n hx) (xor_lt w lo P hlo h_p)
    (record {
      n = n;
      q = c;
      small = hc;
      is =
          ap₂ bit_xor (xor_comm lo P) (sym e ∙ add_comm lo C ∙ sym (xor_shifted c w lo hlo) ∙ xor_comm C lo)
          ∙ xor_assoc P lo (bit_xor lo C)
          ∙ ap (bit_xor P) (xor-cancel lo C)
          ∙ xor_comm P C
          ∙ sym multiple;
    })
