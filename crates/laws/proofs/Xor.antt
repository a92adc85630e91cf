-- Laws of bit_xor that lib.Bits lacks: it is associative, cancels, and commutes with a factor that is a digit. By induction on binary digits.
use mathlib.Core.Path.{◌≡◌, refl, sym, ap, ap₂, ◌∙◌}
use Prim.Native.Nat.{ℕ, zero, suc, ◌+◌, ◌*◌, ◌/◌, ◌%◌, ◌^◌, ◌<◌}
use native.Mathlib.Nat.{mod-lt, zero-mul, one-mul}
use native.Mathlib.Omega.{arith}
use lib.Pow.{pow_pos}
use lib.Arith.{bin_ind, digits_div, digits_mod}
use lib.Bits.{bit_xor, differ, xor_step, xor_comm, xor_self, xor_zero_r}

-- a digit is 0 or 1
pub digit-cases : (P : ℕ → Type 0) → P 0 → P 1 → (x : ℕ) → x < 2 → P x
digit-cases P p0 p1 zero h = p0
digit-cases P p0 p1 (suc zero) h = p1
digit-cases P p0 p1 (suc (suc x)) h = absurd (omega arith)

differ-lt : (x y : ℕ) → x < 2 → y < 2 → differ x y < 2
differ-lt x y hx hy =
    digit-cases (λ (x : ℕ). differ x y < 2) hy (digit-cases (λ (y : ℕ). differ 1 y < 2) (omega arith) (omega arith) y hy) x hx

differ-assoc : (x y z : ℕ) → x < 2 → y < 2 → z < 2 → differ (differ x y) z ≡ differ x (differ y z)
differ-assoc x y z hx hy hz =
    digit-cases (λ (x : ℕ). differ (differ x y) z ≡ differ x (differ y z)) refl
    (digit-cases (λ (y : ℕ). differ (differ 1 y) z ≡ differ 1 (differ y z)) refl
    (digit-cases (λ (z : ℕ). differ (differ 1 1) z ≡ differ 1 (differ 1 z)) refl refl z hz) y hy) x hx

-- the higher digits of a xor, and its lowest
pub xor-half : (a b : ℕ) → bit_xor a b / 2 ≡ bit_xor (a / 2) (b / 2)
xor-half a b =
    ap (λ (x : ℕ). x / 2) (xor_step a b)
    ∙ digits_div (bit_xor (a / 2) (b / 2)) (differ-lt (a % 2) (b % 2) (mod-lt a (omega arith)) (mod-lt b (omega arith)))

pub xor-odd : (a b : ℕ) → bit_xor a b % 2 ≡ differ (a % 2) (b % 2)
xor-odd a b =
    ap (λ (x : ℕ). x % 2) (xor_step a b)
    ∙ digits_mod (bit_xor (a / 2) (b / 2)) (differ-lt (a % 2) (b % 2) (mod-lt a (omega arith)) (mod-lt b (omega arith)))

pub xor_assoc : (a b c : ℕ) → bit_xor (bit_xor a b) c ≡ bit_xor a (bit_xor b c)
xor_assoc =
    bin_ind (λ (a : ℕ). (b c : ℕ) → bit_xor (bit_xor a b) c ≡ bit_xor a (bit_xor b c)) (λ b c. refl)
    (λ a ih b c.
    xor_step (bit_xor a b) c
    ∙ ap₂ (λ (x y : ℕ). x * 2 + y)
    (ap (λ (x : ℕ). bit_xor x (c / 2)) (xor-half a b) ∙ ih (b / 2) (c / 2) ∙ ap (bit_xor (a / 2)) (sym (xor-half b c)))
    (ap (λ (x : ℕ). differ x (c % 2)) (xor-odd a b)
    ∙ differ-assoc (a % 2) (b % 2) (c % 2) (mod-lt a (omega arith)) (mod-lt b (omega arith)) (mod-lt c (omega arith))
    ∙ ap (differ (a % 2)) (sym (xor-odd b c)))
    ∙ sym (xor_step a (bit_xor b c)))

-- (a xor b) xor (c xor d), the middle two exchanged
pub xor-swap : (a b c d : ℕ) → bit_xor (bit_xor a b) (bit_xor c d) ≡ bit_xor (bit_xor a c) (bit_xor b d)
xor-swap a b c d =
    xor_assoc a b (bit_xor c d)
    ∙ ap (bit_xor a) (sym (xor_assoc b c d) ∙ ap (λ (x : ℕ). bit_xor x d) (xor_comm b c) ∙ xor_assoc c b d)
    ∙ sym (xor_assoc a c (bit_xor b d))

-- what is xored twice is gone
pub xor-cancel : (a b : ℕ) → bit_xor a (bit_xor a b) ≡ b
xor-cancel a b = sym (xor_assoc a a b) ∙ ap (λ (x : ℕ). bit_xor x b) (xor_self a)

pub xor-cancel-r : (a b : ℕ) → bit_xor (bit_xor a b) b ≡ a
xor-cancel-r a b = xor_assoc a b b ∙ ap (bit_xor a) (xor_self b) ∙ xor_zero_r a

-- a digit times a xor is the xor of the multiples
pub digit-xor : (d a b : ℕ) → d < 2 → d * bit_xor a b ≡ bit_xor (d * a) (d * b)
digit-xor d a b h =
    digit-cases (λ (d : ℕ). d * bit_xor a b ≡ bit_xor (d * a) (d * b))
    (zero-mul (bit_xor a b) ∙ sym (ap₂ bit_xor (zero-mul a) (zero-mul b)))
    (one-mul (bit_xor a b) ∙ sym (ap₂ bit_xor (one-mul a) (one-mul b))) d h

pub differ-mul : (d e a : ℕ) → d < 2 → e < 2 → differ d e * a ≡ bit_xor (d * a) (e * a)
differ-mul d e a hd he =
    digit-cases (λ (d : ℕ). differ d e * a ≡ bit_xor (d * a) (e * a)) (sym (ap (λ (x : ℕ). bit_xor x (e * a)) (zero-mul a)))
    (digit-cases (λ (e : ℕ). differ 1 e * a ≡ bit_xor (1 * a) (e * a))
    (sym (ap (bit_xor (1 * a)) (zero-mul a) ∙ xor_zero_r (1 * a)))
    (zero-mul a ∙ sym (xor_self (1 * a))) e he) d hd

pub digit-mul-lt : (k d a : ℕ) → d < 2 → a < 2 ^ k → d * a < 2 ^ k
digit-mul-lt k d a h ha = digit-cases (λ (d : ℕ). d * a < 2 ^ k) (rw zero-mul (pow_pos k)) (rw one-mul ha) d h
