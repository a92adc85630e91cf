-- FIPS 202, sections 4, 5.1 and 6.2: the sponge on byte strings, and SHAKE. r is the rate in bytes; bit j of byte i is bit 8 i + j of the standard's
-- string (appendix B.1).
use Rattle.std.specs.Prelude.{ℕ, zero, suc, ◌-◌, ◌*◌, ◌/◌, ◌%◌, ◌^◌, List, [], ◌∷◌, ◌++◌, length, get_or}
use Rattle.std.specs.Int.Bits.{bit_xor}
use Rattle.spec.specs.Bytes.{part, tabulate, zeros, xor_bytes, number}
use Rattle.spec.specs.Keccak.{keccak_f}

-- section 3.1.2: lane j of a string, which is continued by zeros
unfoldable pub lane_of : List ℕ → ℕ → ℕ
lane_of p j = number 8 (part p (8 * j) 8)

-- the state s xored with the string p, continued by zeros
unfoldable pub xor_in : List ℕ → List ℕ → List ℕ
xor_in s p = tabulate 25 (λ j. bit_xor (get_or s j 0) (lane_of p j))

-- section 3.1.3: byte i of a state
unfoldable pub state_byte : List ℕ → ℕ → ℕ
state_byte s i = get_or s (i / 8) 0 / 2 ^ (8 * (i % 8)) % 256

-- Algorithm 8, steps 5 and 6: the state after n blocks of the string p
unfoldable pub absorbed : ℕ → ℕ → List ℕ → List ℕ
absorbed r zero p = zeros 25
absorbed r (suc n) p = keccak_f (xor_in (absorbed r n p) (part p (r * n) r))

-- Algorithm 9, pad10*1, behind a suffix, on n bytes (n from 1 on): the suffix with the first 1 of the padding above it in the first byte,
-- the last 1 as the top bit of the last byte
unfoldable pub padding : ℕ → ℕ → List ℕ
padding suffix n = xor_bytes (suffix ∷ zeros (n - 1)) (zeros (n - 1) ++ (128 ∷ []))

-- Algorithm 8, step 1: the message with suffix and padding, whole blocks
unfoldable pub padded : ℕ → ℕ → List ℕ → List ℕ
padded r suffix m = m ++ padding suffix (r - length m % r)

-- steps 2 to 6: the state after all blocks
unfoldable pub absorbed_all : ℕ → ℕ → List ℕ → List ℕ
absorbed_all r suffix m = absorbed r (length (padded r suffix m) / r) (padded r suffix m)

-- steps 7 to 10: the state after n more permutations, and byte i of the output, which is taken r bytes at a time
unfoldable pub permuted : ℕ → List ℕ → List ℕ
permuted zero s = s
permuted (suc n) s = keccak_f (permuted n s)

unfoldable pub output_byte : ℕ → List ℕ → ℕ → ℕ
output_byte r s i = state_byte (permuted (i / r) s) (i % r)

-- n bytes of the sponge's output for the message m
unfoldable pub sponge : ℕ → ℕ → List ℕ → ℕ → List ℕ
sponge r suffix m n = tabulate n (output_byte r (absorbed_all r suffix m))

-- section 6.2: SHAKE has the suffix 1111; with the first 1 of the padding that is the byte 0x1f
abbrev pub shake_suffix : ℕ
shake_suffix = 0x1f

-- SHAKE at the rate r: SHAKE128 with r 168, SHAKE256 with r 136
unfoldable pub shake : ℕ → List ℕ → ℕ → List ℕ
shake r m n = sponge r shake_suffix m n
