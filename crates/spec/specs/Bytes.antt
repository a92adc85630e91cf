-- Strings of bytes, and the numbers that they write. A string is a list of numbers below 256. Nothing here is particular to FAEST.
use Rattle.std.specs.Prelude.{ℕ, zero, suc, ◌+◌, ◌*◌, ◌/◌, ◌%◌, ◌^◌, Bool, true, ◌&&◌, cond, List, [], ◌∷◌, ◌++◌, reverse, eqb, take, drop, replicate}
use Rattle.std.specs.Int.Bits.{bit_xor}

-- n bytes from byte `at` on
abbrev pub part : List ℕ → ℕ → ℕ → List ℕ
part xs at n = take n (drop at xs)

-- the list f 0, f 1, .., f (n - 1)
unfoldable pub tabulate : {A : Type 0} → ℕ → (ℕ → A) → List A
tabulate zero f = []
tabulate (suc n) f = f 0 ∷ tabulate n (λ i. f (suc i))

-- f 0 ‖ f 1 ‖ .. ‖ f (n - 1)
unfoldable pub concat : ℕ → (ℕ → List ℕ) → List ℕ
concat zero f = []
concat (suc n) f = concat n f ++ f n

unfoldable pub zeros : ℕ → List ℕ
zeros n = replicate n 0

-- each element is 0
unfoldable pub all_zero : List ℕ → Bool
all_zero [] = true
all_zero (x ∷ xs) = eqb x 0 && all_zero xs

-- two strings of one length, xored byte by byte
unfoldable pub xor_bytes : List ℕ → List ℕ → List ℕ
xor_bytes [] ys = []
xor_bytes (x ∷ xs) [] = []
xor_bytes (x ∷ xs) (y ∷ ys) = bit_xor x y ∷ xor_bytes xs ys

-- the xor of f 0, f 1, .., f (n - 1)
unfoldable pub xor_below : ℕ → (ℕ → ℕ) → ℕ
xor_below zero f = 0
xor_below (suc n) f = bit_xor (xor_below n f) (f n)

-- bit j of n; bit 0 is the least
abbrev pub bit : ℕ → ℕ → ℕ
bit j n = n / 2 ^ j % 2

-- the number whose digits in base 2 ^ k, least first, are the list: of bits with k 1, of bytes with k 8
-- (NumRec of document 000, section 3.2, with k 1)
unfoldable pub number : ℕ → List ℕ → ℕ
number k [] = 0
number k (x ∷ xs) = x + number k xs * 2 ^ k

-- the n lowest digits of x in base 2 ^ k, least first (BitDec of section 3.2, with k 1)
unfoldable pub digits : ℕ → ℕ → ℕ → List ℕ
digits k n x = tabulate n (λ i. x / 2 ^ (k * i) % 2 ^ k)

-- the number whose bytes, highest first, are the string, and the n lowest bytes of x, highest first
unfoldable pub big_endian : List ℕ → ℕ
big_endian bytes = number 8 (reverse bytes)

unfoldable pub big_endian_bytes : ℕ → ℕ → List ℕ
big_endian_bytes n x = reverse (digits 8 n x)

-- the first place of x in a list
unfoldable pub index_of : ℕ → List ℕ → ℕ
index_of x [] = 0
index_of x (y ∷ ys) = cond (eqb x y) 0 (suc (index_of x ys))
