-- Elements of n limbs of 64 bits: what holds in each loop over limbs or bytes, and that it holds after one more. A loop's invariant is one of these at its n.
use mathlib.Core.Path.{◌≡◌, refl, sym, ap, ◌∙◌}
use mathlib.Core.List.{List, [], ◌∷◌, ◌++◌}
use Prim.Native.Nat.{ℕ, zero, suc, ◌+◌, ◌-◌, ◌*◌, ◌/◌, ◌%◌, ◌^◌, ◌≤◌, ◌<◌}
use native.Mathlib.Nat.{mod-lt, lt_of_lt_of_le, lt_of_mul-lt-mul_right, mul-one, add_comm}
use native.Mathlib.Omega.{arith}
use lib.Bits.{bit_xor, bit_or, xor_lt, or_lt}
use lib.ListN.{length, get_or, take, set, length-set}
use lib.Pow.{pow_pos, pow_mono, shr_lt}
use lib.Seq.{take_all}
use Rattle.spec.specs.Bytes.{number, tabulate, zeros}
use Rattle.spec.specs.Polynomials.{product, remainder}
use Rattle.laws.proofs.Numbers.{Digits, pow-next}
use Rattle.laws.proofs.Limbs.{digits-set, number-below, limb-xor, joined-more, joined-xor, shift-stored, xor-stored}
use Rattle.laws.proofs.Polynomials.{product_lt}
use Rattle.laws.proofs.FieldProduct.{product-pad, remainder-shift}
use Rattle.laws.proofs.Prefixes.{tabulate-block}
use Rattle.field.specs.Fields.{FieldLaws}

-- ---- an element in an entry of a table

-- a number that fits n limbs is that of the first n
pub number-first : (n : ℕ) (x : List ℕ) → number 64 x < 2 ^ (64 * n) → number 64 (take n x) ≡ number 64 x
unfolding number
number-first zero x h = omega arith
number-first (suc n) [] h = refl
number-first (suc n) (x ∷ xs) h =
    ap (λ (y : ℕ). x + y * 2 ^ 64) (number-first n xs (lt_of_mul-lt-mul_right (2 ^ 64) (let z = rw pow-next at h in omega arith)))

-- zeros are the number 0
pub number-zeros : (n : ℕ) → number 64 (zeros n) ≡ 0
unfolding number zeros
number-zeros zero = refl
number-zeros (suc n) = rw (number-zeros n) refl

-- zeros above an element add nothing to its number
pub number-padded : (x : List ℕ) (n : ℕ) → number 64 (x ++ zeros n) ≡ number 64 x
unfolding number
number-padded [] n = number-zeros n
number-padded (x ∷ xs) n = ap (λ (y : ℕ). x + y * 2 ^ 64) (number-padded xs n)

-- ---- limbs from bytes

-- r has the first p bytes of s
abbrev pub Joined : ℕ → List ℕ → List ℕ → ℕ → Type 0
Joined n s r p = (length r ≡ n) × Digits 64 r × (number 64 r ≡ number 8 (take p s))

pub joined-next : (n : ℕ) (s r : List ℕ) (p : ℕ) → length s ≡ 8 * n → Digits 8 s → p < length s → Joined n s r p
    → Joined n s (set r (p / 8) (bit_xor (get_or r (p / 8) 0) (get_or s p 0 * 2 ^ (8 * (p % 8)) % 2 ^ 64))) (p + 1)
joined-next n s r p ls ds h j =
    let i = p / 8 in
    let y = get_or s p 0 * 2 ^ (8 * (p % 8)) in (
      simp length-set j.0,
      digits-set 64 r i (bit_xor (get_or r i 0) (y % 2 ^ 64)) j.1 (xor_lt 64 (get_or r i 0) (y % 2 ^ 64) (j.1 i) (mod-lt y (pow_pos 64))),
      joined-more 8 8 s r p (omega arith) h (omega arith) ds j.1 j.2,
    )

-- the element of as many bytes as its limbs have is below the width
pub key-below : {n w m low : ℕ} → FieldLaws n w m low → (key : List ℕ) → length key ≡ 8 * n → Digits 8 key → number 8 key < 2 ^ w
key-below {n} f key l d = (let e : 64 * n ≡ 8 * (8 * n) = omega arith in rw (f.width, e) (number-below 8 (8 * n) key l d))

-- ---- the sum of two elements

-- the first i limbs of r are those of the sum
abbrev pub Summed : ℕ → List ℕ → List ℕ → List ℕ → ℕ → Type 0
Summed n a b r i = (length r ≡ n) × (number 64 (take i r) ≡ bit_xor (number 64 (take i a)) (number 64 (take i b)))

pub summed-next : (n : ℕ) (a b r : List ℕ) (i : ℕ) → length a ≡ n → length b ≡ n → Digits 64 a → Digits 64 b → i < n → Summed n a b r i
    → Summed n a b (set r i (bit_xor (get_or a i 0) (get_or b i 0))) (i + 1)
summed-next n a b r i la lb da db h j =
    (simp length-set j.0, xor-stored 64 a b r i (omega arith) (omega arith) (omega arith) da db j.1)

pub summed-all : (n : ℕ) (a b r : List ℕ) (i : ℕ) → length a ≡ n → length b ≡ n → n ≤ i → Summed n a b r i → number 64 r ≡ bit_xor (number 64 a) (number 64 b)
summed-all n a b r i la lb h j = rw (take_all i r (omega arith), take_all i a (omega arith), take_all i b (omega arith)) at j.1

-- ---- alpha ^ k times an element

-- the first i limbs of r, with the carry above them, are 2 ^ k times as many limbs of x
abbrev pub Shifted : ℕ → ℕ → List ℕ → List ℕ → ℕ → ℕ → Type 0
Shifted n k x r carry i =
    (length r ≡ n) × Digits 64 r × (carry < 2 ^ k) × (number 64 (take i r) + carry * 2 ^ (64 * i) ≡ number 64 (take i x) * 2 ^ k)

pub shifted_next : (n k : ℕ) (x r : List ℕ) (carry i : ℕ) → length x ≡ n → Digits 64 x → k ≤ 4 → i < n → Shifted n k x r carry i
    → Shifted n k x (set r i (bit_or (get_or x i 0 * 2 ^ k % 2 ^ 64) carry)) (get_or x i 0 / 2 ^ (64 - k)) (i + 1)
shifted_next n k x r carry i lx dx hk h j =
    let y = get_or x i 0 * 2 ^ k in
    let e : 64 - k + k ≡ 64 = omega arith in (
      simp length-set j.0,
      digits-set 64 r i (bit_or (y % 2 ^ 64) carry) j.1
          (or_lt 64 (y % 2 ^ 64) carry (mod-lt y (pow_pos 64)) (lt_of_lt_of_le j.2 (pow_mono {i = k} {j = 64} (omega arith)))),
      shr_lt k (64 - k) (rw (add_comm, e) (dx i)),
      shift-stored 64 (64 - k) k x r i carry e j.2 (omega arith) (omega arith) j.3,
    )

-- at the end the carry is what leaves at the top, and comes back as v, its product with the polynomial's terms below the first
pub shifted-all : {n w m low : ℕ} → FieldLaws n w m low → (k : ℕ) (x r : List ℕ) (carry i v : ℕ) → length x ≡ n → Digits 64 x → k ≤ 4 → i ≡ n → v ≡ product 4 low carry
    → Shifted n k x r carry i → number 64 (set r 0 (bit_xor (get_or r 0 0) v)) ≡ remainder w m k (number 64 x * 2 ^ k)
shifted-all {n} {w} {m} {low} f k x r carry i v lx dx hk hi ev j =
    let bits = 64 * n in
    let P = product k low carry in
    let some = f.some in
    let small : P < 2 ^ 64 = lt_of_lt_of_le (product_lt 19 k low carry f.small) (pow_mono {i = 19 + k} {j = 64} (omega arith)) in
    let fits : P < 2 ^ bits = lt_of_lt_of_le small (pow_mono {i = 64} {j = bits} (omega arith)) in
    let wide : low < 2 ^ bits = lt_of_lt_of_le f.small (pow_mono {i = 20} {j = bits} (omega arith)) in
    let ep : v ≡ P = ev ∙ product-pad k 4 low carry hk j.2 in
    let whole : number 64 r + carry * 2 ^ bits ≡ number 64 x * 2 ^ k =
    rw (take_all i r (omega arith), take_all i x (omega arith), hi) at j.3 in
    rw (f.polynomial, f.width)
    (limb-xor 64 r 0 v (omega arith) j.1 (rw ep small)
    ∙ ap (bit_xor (number 64 r)) (mul-one v ∙ ep)
    ∙ remainder-shift bits low wide k (number 64 x) (number 64 r) carry (number-below 64 n x lx dx) (number-below 64 n r j.0 j.1) j.2 fits whole)

-- ---- the bytes of an element

-- byte p of the sum of the element x, in limbs, and y, in bytes
abbrev pub byte_of : List ℕ → List ℕ → ℕ → ℕ
byte_of x y p = bit_xor (number 64 x) (number 8 y) / 2 ^ (8 * p) % 2 ^ 8

-- those of the first i limbs stand in out, which was `old`
abbrev pub Written : ℕ → List ℕ → List ℕ → List ℕ → List ℕ → ℕ → Type 0
Written n x y old out i = (length out ≡ length old) × (take (8 * i) out ≡ tabulate (8 * i) (byte_of x y))

pub written_next : (n : ℕ) (x y old out after : List ℕ) (i : ℕ) → Digits 64 x → Digits 8 y → i < n → length after ≡ length out
    → take (8 * i + 8) after ≡ take (8 * i) out ++ tabulate 8 (λ b. bit_xor (get_or x i 0 / 2 ^ (8 * b) % 2 ^ 8) (get_or y (8 * i + b) 0)) → Written n x y old out i
    → Written n x y old after (i + 1)
written_next n x y old out after i dx dy h l e j =
    let next : 8 * (i + 1) ≡ 8 * i + 8 = omega arith in (
      l ∙ j.0,
      rw next (tabulate-block (8 * i) 8 (byte_of x y) (λ b. bit_xor (get_or x i 0 / 2 ^ (8 * b) % 2 ^ 8) (get_or y (8 * i + b) 0)) j.1 e (λ b h. joined-xor 8 8 x y i b h dx dy)),
    )

pub written_all : (n : ℕ) (x y old out : List ℕ) (i : ℕ) → length old ≡ 8 * n → i ≡ n → Written n x y old out i → out ≡ tabulate (8 * n) (byte_of x y)
written_all n x y old out i l h j = sym (take_all (8 * n) out (omega arith)) ∙ rw h at j.1
