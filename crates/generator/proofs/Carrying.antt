-- One step of adding to a number of 16 bytes, the highest first: a byte takes what is carried to it, and carries on.
use Rattle.std.proofs.Common.{◌≡◌, ℕ, ◌+◌, ◌-◌, ◌*◌, ◌/◌, ◌%◌, ◌^◌, ◌<◌, List, length, get_or, set, sym, ap, ◌∙◌, mod-eq_of_lt, mul_assoc, add-mul, add-one, arith, get_or-set_other, get_or-set_same}
use native.Mathlib.Nat.{add-mul-mod_self_right}
use native.Mathlib.Decide.{ℕ_discrete}
use Rattle.spec.specs.Bytes.{big_endian, big_endian_bytes}
use Rattle.spec.specs.Version1.{add_to_iv}
use Rattle.laws.proofs.Numbers.{Digits, pow-next}
use Rattle.laws.proofs.BigEndian.{big-set, big-endian-lt, bytes-big-endian}

-- what is carried to byte i - 1 counts in units of 2^(8 (16 - i))
abbrev pub Carried : List ℕ → ℕ → List ℕ → ℕ → ℕ → Type 0
Carried iv n out carry i = (length out ≡ 16) × (big_endian out + carry * 2 ^ (8 * (16 - i)) ≡ big_endian iv + n)

pub carry-on : (iv out : List ℕ) (n carry i : ℕ) → 0 < i → i < 17 → Carried iv n out carry i
    → big_endian (set out (i - 1) ((get_or out (i - 1) 0 + carry) % 256)) + (get_or out (i - 1) 0 + carry) / 256 * 2 ^ (8 * (16 - (i - 1))) ≡ big_endian iv + n
carry-on iv out n carry i p h c =
    let at = i - 1 in
    let x = get_or out at 0 in
    let s = x + carry in
    let u = 2 ^ (8 * (16 - i)) in
    let e : length out - 1 - at ≡ 16 - i = (let l = c.0 in omega arith) in
    let f : 16 - at ≡ 16 - i + 1 = omega arith in
    let g : 2 ^ (8 * (16 - at)) ≡ u * 256 = ap (λ (m : ℕ). 2 ^ (8 * m)) (f ∙ add-one (16 - i)) ∙ pow-next 8 (16 - i) in
    let b = rw e at (big-set out at (s % 256) (let l = c.0 in omega arith)) in
    let d : s ≡ s / 256 * 256 + s % 256 = omega arith in
    let k : s * u ≡ s / 256 * 256 * u + s % 256 * u = ap (λ (m : ℕ). m * u) d ∙ add-mul (s / 256 * 256) (s % 256) u in
    let m = add-mul x carry u in
    let q : s / 256 * 256 * u ≡ s / 256 * (256 * u) = mul_assoc (s / 256) 256 u in
    let w : s / 256 * 2 ^ (8 * (16 - at)) ≡ s / 256 * (256 * u) = ap (λ (m : ℕ). s / 256 * m) (g ∙ (let z : u * 256 ≡ 256 * u = omega arith in z)) in
    let r = c.1 in
    omega arith

-- a byte stays a byte
pub byte-stored : (out : List ℕ) (at x : ℕ) → at < length out → x < 256 → Digits 8 out → Digits 8 (set out at x)
byte-stored out at x h l d j = go (ℕ_discrete j at)
  where
    go : Dec (j ≡ at) → get_or (set out at x) j 0 < 256
    go (yes e) = rw (e, get_or-set_same out at x 0 h) l
    go (no e) = rw (get_or-set_other out at j x 0 e) (d j)

-- nothing is left to carry, or no byte
pub all-carried : (iv out : List ℕ) (n carry : ℕ) → Digits 8 out → length out ≡ 16 → big_endian out + carry * 2 ^ 128 ≡ big_endian iv + n → out ≡ add_to_iv iv n
unfolding add_to_iv
all-carried iv out n carry d l e =
    let b : big_endian out < 2 ^ 128 = (let z = big-endian-lt out d in rw l at z) in
    let m : (big_endian iv + n) % 2 ^ 128 ≡ big_endian out = ap (λ (x : ℕ). x % 2 ^ 128) (sym e) ∙ add-mul-mod_self_right (big_endian out) carry (2 ^ 128) ∙ mod-eq_of_lt b in
    sym (bytes-big-endian out d) ∙ ap (λ (k : ℕ). big_endian_bytes k (big_endian out)) l ∙ ap (big_endian_bytes 16) (sym m)
