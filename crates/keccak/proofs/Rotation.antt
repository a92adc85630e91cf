-- Two shifts of a lane joined by `|` are a rotation: the low bits of x, moved up, have zeros where the high bits of x come to stand.
use mathlib.Core.Path.{◌≡◌, subst}
use Prim.Native.Nat.{ℕ, zero, suc, ◌+◌, ◌-◌, ◌*◌, ◌/◌, ◌%◌, ◌^◌, ◌<◌}
use native.Mathlib.Nat.{mul-mod_left, add-zero, sub-add_cancel, add_comm}
use native.Mathlib.Omega.{arith}
use lib.Bits.{bit_or, or_shifted}
use lib.Pow.{mod-pow-add, shl-shr, shr_lt}
use Rattle.spec.specs.Keccak.{rotl}

-- over the widths j and k of the two parts of x
module _ (j k x : ℕ) where
  low-moved : x * 2 ^ k % 2 ^ (j + k) ≡ (x % 2 ^ j) * 2 ^ k
  low-moved = rw (mod-pow-add (x * 2 ^ k) j k, shl-shr x k, mul-mod_left x (2 ^ k), add-zero)

  or-is-sum : x < 2 ^ (j + k) → bit_or (x * 2 ^ k % 2 ^ (j + k)) (x / 2 ^ j) ≡ x * 2 ^ k % 2 ^ (j + k) + x / 2 ^ j
  or-is-sum h = rw low-moved (or_shifted (x % 2 ^ j) k (x / 2 ^ j) (shr_lt k j (rw add_comm h)))

pub rotl-or : (n x : ℕ) → 0 < n → n < 64 → x < 2 ^ 64 → bit_or (x * 2 ^ n % 2 ^ 64) (x / 2 ^ (64 - n)) ≡ rotl n x
unfolding rotl
rotl-or zero x p q h = absurd (omega arith)
rotl-or (suc n) x p q h =
    subst (λ (w : ℕ). x < 2 ^ w → bit_or (x * 2 ^ suc n % 2 ^ w) (x / 2 ^ (64 - suc n)) ≡ x * 2 ^ suc n % 2 ^ w + x / 2 ^ (64 - suc n))
    (sub-add_cancel {n = 64} {m = suc n} (omega arith)) (or-is-sum (64 - suc n) (suc n) x) h
