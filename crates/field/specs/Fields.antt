-- The fields of 2 ^ 384, 2 ^ 576 and 2 ^ 768 elements: document 000, section 3.2.
use Rattle.std.specs.Prelude.{ℕ, ◌≡◌, refl, ◌+◌, ◌*◌, ◌^◌, ◌≤◌, ◌<◌}
use Rattle.std.proofs.Common.{arith}

-- P384 without its first term
abbrev pub low384 : ℕ
low384 = 2 ^ 12 + 2 ^ 3 + 2 ^ 2 + 1

-- P384, `field_polynomial` of spec
abbrev pub p384 : ℕ
p384 = 2 ^ 384 + 2 ^ 12 + 2 ^ 3 + 2 ^ 2 + 1

-- P576 without its first term
abbrev pub low576 : ℕ
low576 = 2 ^ 13 + 2 ^ 4 + 2 ^ 3 + 1

-- P576
abbrev pub p576 : ℕ
p576 = 2 ^ 576 + 2 ^ 13 + 2 ^ 4 + 2 ^ 3 + 1

-- P768 without its first term
abbrev pub low768 : ℕ
low768 = 2 ^ 19 + 2 ^ 17 + 2 ^ 4 + 1

-- P768
abbrev pub p768 : ℕ
p768 = 2 ^ 768 + 2 ^ 19 + 2 ^ 17 + 2 ^ 4 + 1

-- What proofs know of a field with elements of n limbs: an entry of a table has room for them; the polynomial m has degree w, and its other terms, low, are
-- so few bits that what four terms come back as fits a limb
pub record FieldLaws (n w m low : ℕ) : Type 0 where
  pub some : 0 < n
  pub fits : n ≤ 12
  pub width : w ≡ 64 * n
  pub polynomial : m ≡ 2 ^ w + low
  pub small : low < 2 ^ 20

pub field_384 : FieldLaws 6 384 p384 low384
field_384 = record { some = omega arith; fits = omega arith; width = refl; polynomial = refl; small = omega arith }

pub field_576 : FieldLaws 9 576 p576 low576
field_576 = record { some = omega arith; fits = omega arith; width = refl; polynomial = refl; small = omega arith }

pub field_768 : FieldLaws 12 768 p768 low768
field_768 = record { some = omega arith; fits = omega arith; width = refl; polynomial = refl; small = omega arith }
