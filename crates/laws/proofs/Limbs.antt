-- Numbers held as limbs, digits in base 2 ^ k, least first: what a store, a shift and a xor of limbs do to the number, and how shorter digits are read off.
-- By induction on the limbs.
use mathlib.Core.Path.{◌≡◌, refl, sym, ap, ap₂, ◌∙◌, subst}
use mathlib.Core.List.{List, [], ◌∷◌}
use Prim.Native.Nat.{ℕ, zero, suc, ◌+◌, ◌-◌, ◌*◌, ◌/◌, ◌%◌, ◌^◌, ◌≤◌, ◌<◌}
use native.Mathlib.Nat.{add-mul, mul_assoc, mul_comm, mul-zero, mul-one, zero-mul, zero-add, add-zero, add_comm, mul-mod_left, add-mul-mod_self_right, add-mul-div_right, div-eq_of_lt, sub-add_cancel, mul-suc, zero-div, div-one, mod-eq_of_lt, mul-add, mul-le-mul_left, mod-lt, mod-add-div}
use native.Mathlib.Omega.{arith}
use native.Mathlib.Decide.{ℕ_discrete}
use lib.Arith.{digits_lt}
use lib.ListN.{length, get_or, take, set, length-set}
use lib.Pow.{pow_pos, pow-add, split, shl_exact, shl-shr, shr-shr, mod-pow-add, field}
use lib.Seq.{take-set-le, get_or-set_same, get_or-set_other, take-nil, take_all}
use lib.Bits.{bit_xor, bit_or, xor_block, xor_comm, xor_mod, xor_shifted, xor_shr, xor_zero_r, or_shifted}
use mir.Syntax.{Width}
use mir.Val.{bits, Fits}
use Rattle.spec.specs.Bytes.{zeros, number}
use Rattle.laws.proofs.Numbers.{Digits, pow-next, number_more, number_lt}
use Rattle.laws.proofs.Lists.{length-zeros}
use Rattle.laws.proofs.Strings.{get_or-zeros, digits-zeros, number-xor}

-- the elements of a program's array are digits
pub fits-digits : (w : Width) (xs : List ℕ) → ((k : ℕ) → Fits w (get_or xs k 0)) → Digits (bits w) xs
fits-digits w xs h k = (h k).fits

pub number-stored : (k : ℕ) (xs : List ℕ) (i v : ℕ) → i < length xs → number k (take (i + 1) (set xs i v)) ≡ number k (take i xs) + v * 2 ^ (k * i)
number-stored k xs i v h =
    number_more k (set xs i v) i (rw length-set h)
    ∙ ap₂ (λ (l : List ℕ) (n : ℕ). number k l + n * 2 ^ (k * i)) (take-set-le i xs i v (omega arith)) (get_or-set_same xs i v 0 h)

pub take-lt : (k : ℕ) (xs : List ℕ) (i : ℕ) → Digits k xs → number k (take i xs) < 2 ^ (k * i)
unfolding number
take-lt k [] i h = rw take-nil (pow_pos (k * i))
take-lt k (x ∷ xs) zero h = pow_pos (k * 0)
take-lt k (x ∷ xs) (suc i) h = rw (pow-next, add_comm) (digits_lt (take-lt k xs i (λ j. h (suc j))) (h zero))

pub number-below : (k n : ℕ) (xs : List ℕ) → length xs ≡ n → Digits k xs → number k xs < 2 ^ (k * n)
number-below k n xs e h = subst (λ (m : ℕ). number k xs < 2 ^ (k * m)) e (number_lt k xs h)

pub digits-set : (k : ℕ) (xs : List ℕ) (i v : ℕ) → Digits k xs → v < 2 ^ k → Digits k (set xs i v)
digits-set k [] i v h hv j = h j
digits-set k (x ∷ xs) zero v h hv zero = hv
digits-set k (x ∷ xs) zero v h hv (suc j) = h (suc j)
digits-set k (x ∷ xs) (suc i) v h hv zero = h zero
digits-set k (x ∷ xs) (suc i) v h hv (suc j) = digits-set k xs i v (λ m. h (suc m)) hv j

-- one limb more of a xor
pub xor-stored : (k : ℕ) (a b r : List ℕ) (i : ℕ) → i < length a → i < length b → i < length r → Digits k a → Digits k b
    → number k (take i r) ≡ bit_xor (number k (take i a)) (number k (take i b))
    → number k (take (i + 1) (set r i (bit_xor (get_or a i 0) (get_or b i 0)))) ≡ bit_xor (number k (take (i + 1) a)) (number k (take (i + 1) b))
xor-stored k a b r i la lb lr da db e =
    let A = number k (take i a) in
    let B = number k (take i b) in
    let x = get_or a i 0 in
    let y = get_or b i 0 in
    number-stored k r i (bit_xor x y) lr
    ∙ ap (λ (n : ℕ). n + bit_xor x y * 2 ^ (k * i)) e
    ∙ add_comm (bit_xor A B) (bit_xor x y * 2 ^ (k * i))
    ∙ sym (xor_block (k * i) x y A B (take-lt k a i da) (take-lt k b i db))
    ∙ ap₂ bit_xor (add_comm (x * 2 ^ (k * i)) A ∙ sym (number_more k a i la)) (add_comm (y * 2 ^ (k * i)) B ∙ sym (number_more k b i lb))

number-zeros : (k n : ℕ) → number k (zeros n) ≡ 0
unfolding number zeros
number-zeros k zero = refl
number-zeros k (suc n) = rw (number-zeros k n) (zero-add (0 * 2 ^ k) ∙ zero-mul (2 ^ k))

-- a number with one limb other than 0
number-one : (k n i v : ℕ) → i < n → number k (set (zeros n) i v) ≡ v * 2 ^ (k * i)
unfolding number zeros
number-one k zero i v h = absurd (omega arith)
number-one k (suc n) zero v h = ap (λ (m : ℕ). v + m * 2 ^ k) (number-zeros k n) ∙ simp (zero-mul, add-zero, mul-zero, mul-one)
number-one k (suc n) (suc i) v h =
    zero-add (number k (set (zeros n) i v) * 2 ^ k)
    ∙ ap (λ (m : ℕ). m * 2 ^ k) (number-one k n i v (omega arith))
    ∙ mul_assoc v (2 ^ (k * i)) (2 ^ k)
    ∙ ap (λ (m : ℕ). v * m) (sym (pow-next k i))

-- limb i xored with v
pub limb-xor : (k : ℕ) (xs : List ℕ) (i v : ℕ) → i < length xs → Digits k xs → v < 2 ^ k
    → number k (set xs i (bit_xor (get_or xs i 0) v)) ≡ bit_xor (number k xs) (v * 2 ^ (k * i))
limb-xor k xs i v l h hv =
    let n = length xs in
    let one = set (zeros n) i v in
    let ys = set xs i (bit_xor (get_or xs i 0) v) in
    ap (number k) (sym (take_all n ys (omega (arith, length-set xs i (bit_xor (get_or xs i 0) v)))))
    ∙ number-xor k xs one ys h (digits-set k (zeros n) i v (digits-zeros k n) hv) (λ j. at j (ℕ_discrete j i)) 0 n
    ∙ ap₂ bit_xor (ap (number k) (take_all n xs (omega arith)))
    (ap (number k) (take_all n one (omega (arith, length-set (zeros n) i v, length-zeros n))) ∙ number-one k n i v l)
  where
    at : (j : ℕ) → Dec (j ≡ i) → get_or (set xs i (bit_xor (get_or xs i 0) v)) j 0 ≡ bit_xor (get_or xs j 0) (get_or (set (zeros (length xs)) i v) j 0)
    at j (yes e) =
        ap (λ (m : ℕ). get_or (set xs i (bit_xor (get_or xs i 0) v)) m 0) e
        ∙ get_or-set_same xs i (bit_xor (get_or xs i 0) v) 0 l
        ∙ sym (ap₂ bit_xor (ap (λ (m : ℕ). get_or xs m 0) e) (ap (λ (m : ℕ). get_or (set (zeros (length xs)) i v) m 0) e ∙ get_or-set_same (zeros (length xs)) i v 0 (rw length-zeros l)))
    at j (no d) =
        get_or-set_other xs i j (bit_xor (get_or xs i 0) v) 0 d
        ∙ sym (ap (bit_xor (get_or xs j 0)) (get_or-set_other (zeros (length xs)) i j v 0 d ∙ get_or-zeros (length xs) j) ∙ xor_zero_r (get_or xs j 0))

-- ---- a shift by n, in limbs of k = t + n bits

-- a limb moved up by n, with the n bits c in its lowest places: what leaves at the top is x / 2 ^ t
limb-shift : (k t n x c : ℕ) → t + n ≡ k → c < 2 ^ n → bit_or (x * 2 ^ n % 2 ^ k) c + x / 2 ^ t * 2 ^ k ≡ x * 2 ^ n + c
limb-shift k t n x c e hc =
    let kept : x * 2 ^ n % 2 ^ (t + n) ≡ x % 2 ^ t * 2 ^ n =
    mod-pow-add (x * 2 ^ n) t n
    ∙ ap₂ (λ (a b : ℕ). a % 2 ^ t * 2 ^ n + b) (shl-shr x n) (mul-mod_left x (2 ^ n))
    ∙ add-zero (x % 2 ^ t * 2 ^ n) in
    subst (λ (j : ℕ). bit_or (x * 2 ^ n % 2 ^ j) c + x / 2 ^ t * 2 ^ j ≡ x * 2 ^ n + c) e
    (ap₂ (λ (a b : ℕ). bit_or a c + x / 2 ^ t * b) kept (pow-add 2 t n)
    ∙ ap (λ (a : ℕ). a + x / 2 ^ t * (2 ^ t * 2 ^ n)) (or_shifted (x % 2 ^ t) n c hc)
    ∙ omega (
      arith,
      ap (λ (a : ℕ). a * 2 ^ n) (split x t),
      add-mul (x / 2 ^ t * 2 ^ t) (x % 2 ^ t) (2 ^ n),
      mul_assoc (x / 2 ^ t) (2 ^ t) (2 ^ n),
    ))

-- one limb more: x becomes v, with c going in and d out
shift-step : (A B S N X x v c d : ℕ) → v + d * B ≡ x * S + c → N + c * A ≡ X * S → N + v * A + d * (A * B) ≡ (X + x * A) * S
shift-step A B S N X x v c d e h =
    omega (
      arith,
      ap (λ (t : ℕ). t * A) e,
      add-mul v (d * B) A,
      add-mul (x * S) c A,
      add-mul X (x * A) S,
      mul_assoc d B A,
      ap (λ (t : ℕ). d * t) (mul_comm B A),
      mul_assoc x S A,
      mul_assoc x A S,
      ap (λ (t : ℕ). x * t) (mul_comm S A),
    )

pub shift-stored : (k t n : ℕ) (x r : List ℕ) (i c : ℕ) → t + n ≡ k → c < 2 ^ n → i < length x → i < length r
    → number k (take i r) + c * 2 ^ (k * i) ≡ number k (take i x) * 2 ^ n
    → number k (take (i + 1) (set r i (bit_or (get_or x i 0 * 2 ^ n % 2 ^ k) c))) + get_or x i 0 / 2 ^ t * 2 ^ (k * (i + 1)) ≡ number k (take (i + 1) x) * 2 ^ n
shift-stored k t n x r i c e hc lx lr h =
    let y = get_or x i 0 in
    let v = bit_or (y * 2 ^ n % 2 ^ k) c in
    ap₂ (λ (a b : ℕ). a + y / 2 ^ t * b) (number-stored k r i v lr) (ap (λ (j : ℕ). 2 ^ (k * j)) (let z : i + 1 ≡ suc i = omega arith in z) ∙ pow-next k i)
    ∙ shift-step (2 ^ (k * i)) (2 ^ k) (2 ^ n) (number k (take i r)) (number k (take i x)) y v c (y / 2 ^ t) (limb-shift k t n y c e hc) h
    ∙ ap (λ (a : ℕ). a * 2 ^ n) (sym (number_more k x i lx))

-- ---- digits of l bits, read off a number in limbs of k

-- bits j to j + l of limb i
pub number-part : (k j l : ℕ) (xs : List ℕ) (i : ℕ) → l + j ≤ k → Digits k xs → number k xs / 2 ^ (k * i + j) % 2 ^ l ≡ get_or xs i 0 / 2 ^ j % 2 ^ l
unfolding number
number-part k j l [] i h d = ap (λ (n : ℕ). n % 2 ^ l) (zero-div (2 ^ (k * i + j)) ∙ sym (zero-div (2 ^ j)))
number-part k j l (x ∷ xs) zero h d =
    let N = number k xs in
    let high : N * 2 ^ k ≡ N * 2 ^ (k - (l + j)) * 2 ^ (l + j) =
    ap (λ (n : ℕ). N * n) (ap (λ (n : ℕ). 2 ^ n) (sym (sub-add_cancel h)) ∙ pow-add 2 (k - (l + j)) (l + j))
    ∙ sym (mul_assoc N (2 ^ (k - (l + j))) (2 ^ (l + j))) in
    ap (λ (n : ℕ). (x + N * 2 ^ k) / 2 ^ n % 2 ^ l) (ap (λ (n : ℕ). n + j) (mul-zero k) ∙ zero-add j)
    ∙ sym (field (x + N * 2 ^ k) l j)
    ∙ ap (λ (n : ℕ). n / 2 ^ j) (ap (λ (n : ℕ). (x + n) % 2 ^ (l + j)) high ∙ add-mul-mod_self_right x (N * 2 ^ (k - (l + j))) (2 ^ (l + j)))
    ∙ field x l j
number-part k j l (x ∷ xs) (suc i) h d =
    let N = number k xs in
    ap (λ (n : ℕ). (x + N * 2 ^ k) / 2 ^ n % 2 ^ l) (let z : k * suc i + j ≡ k + (k * i + j) = (let m = mul-suc k i in omega arith) in z)
    ∙ ap (λ (n : ℕ). n % 2 ^ l) (sym (shr-shr (x + N * 2 ^ k) k (k * i + j)))
    ∙ ap (λ (n : ℕ). n / 2 ^ (k * i + j) % 2 ^ l) (add-mul-div_right x N (pow_pos k) ∙ ap (λ (n : ℕ). n + N) (div-eq_of_lt (d zero)) ∙ zero-add N)
    ∙ number-part k j l xs i h (λ m. d (suc m))

pub number-digit : (l : ℕ) (xs : List ℕ) (p : ℕ) → Digits l xs → number l xs / 2 ^ (l * p) % 2 ^ l ≡ get_or xs p 0
number-digit l xs p h =
    ap (λ (n : ℕ). number l xs / 2 ^ n % 2 ^ l) (sym (add-zero (l * p)))
    ∙ number-part l 0 l xs p (omega arith) h
    ∙ ap (λ (n : ℕ). n % 2 ^ l) (div-one (get_or xs p 0))
    ∙ mod-eq_of_lt (h p)

-- digit b of limb i, in limbs of d digits
pub joined-digit : (l d : ℕ) (xs : List ℕ) (i b : ℕ) → b < d → Digits (l * d) xs → number (l * d) xs / 2 ^ (l * (d * i + b)) % 2 ^ l ≡ get_or xs i 0 / 2 ^ (l * b) % 2 ^ l
joined-digit l d xs i b h ds =
    ap (λ (n : ℕ). number (l * d) xs / 2 ^ n % 2 ^ l) (mul-add l (d * i) b ∙ ap (λ (n : ℕ). n + l * b) (sym (mul_assoc l d i)))
    ∙ number-part (l * d) (l * b) l xs i (rw (add_comm, ← mul-suc) (mul-le-mul_left l h)) ds

-- digit d * i + b of the xor of a number in limbs of d digits and one in digits
pub joined-xor : (l d : ℕ) (xs ys : List ℕ) (i b : ℕ) → b < d → Digits (l * d) xs → Digits l ys
    → bit_xor (get_or xs i 0 / 2 ^ (l * b) % 2 ^ l) (get_or ys (d * i + b) 0) ≡ bit_xor (number (l * d) xs) (number l ys) / 2 ^ (l * (d * i + b)) % 2 ^ l
joined-xor l d xs ys i b h dx dy =
    let X = number (l * d) xs in
    let Y = number l ys in
    let j = l * (d * i + b) in
    sym
    (ap (λ (n : ℕ). n % 2 ^ l) (xor_shr X Y j)
    ∙ xor_mod (X / 2 ^ j) (Y / 2 ^ j) l
    ∙ ap₂ bit_xor (joined-digit l d xs i b h dx) (number-digit l ys (d * i + b) dy))

-- one digit of l bits more, xored into limbs of d digits
pub joined-more : (l d : ℕ) (s r : List ℕ) (p : ℕ) → 0 < d → p < length s → p / d < length r → Digits l s → Digits (l * d) r → number (l * d) r ≡ number l (take p s)
    → number (l * d) (set r (p / d) (bit_xor (get_or r (p / d) 0) (get_or s p 0 * 2 ^ (l * (p % d)) % 2 ^ (l * d)))) ≡ number l (take (p + 1) s)
joined-more l d s r p hd ls lr ds dr e =
    let b = get_or s p 0 in
    let j = l * (p % d) in
    let room : l + j ≤ l * d = rw (add_comm, ← mul-suc) (mul-le-mul_left l (mod-lt p hd)) in
    let place : j + l * d * (p / d) ≡ l * p =
    ap (λ (n : ℕ). j + n) (mul_assoc l d (p / d)) ∙ sym (mul-add l (p % d) (d * (p / d))) ∙ ap (λ (n : ℕ). l * n) (mod-add-div p d) in
    limb-xor (l * d) r (p / d) (b * 2 ^ j % 2 ^ (l * d)) lr dr (mod-lt (b * 2 ^ j) (pow_pos (l * d)))
    ∙ ap₂ bit_xor e
    (ap (λ (n : ℕ). n * 2 ^ (l * d * (p / d))) (shl_exact l j (l * d) (ds p) room)
    ∙ mul_assoc b (2 ^ j) (2 ^ (l * d * (p / d)))
    ∙ ap (λ (n : ℕ). b * n) (sym (pow-add 2 j (l * d * (p / d))) ∙ ap (λ (n : ℕ). 2 ^ n) place))
    ∙ xor_comm (number l (take p s)) (b * 2 ^ (l * p))
    ∙ xor_shifted b (l * p) (number l (take p s)) (take-lt l s p ds)
    ∙ add_comm (b * 2 ^ (l * p)) (number l (take p s))
    ∙ sym (number_more l s p ls)
