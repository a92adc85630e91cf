-- The rules of the primitives at a few values each, with the cipher and the permutation left as they are: which block the cipher is given, which blocks the
-- permutation and which message the sponge, and what alpha^384, alpha^576 and alpha^768 are. By computing; crates/standards computes the primitives themselves.
use mathlib.Core.Path.{◌≡◌, refl}
use mathlib.Core.List.{List, [], ◌∷◌, ◌++◌}
use Prim.Native.Nat.{ℕ, ◌+◌, ◌/◌, ◌%◌, ◌^◌}
use lib.ListN.{get_or}
use Rattle.spec.specs.declared.Shape.{Shape}
use Rattle.spec.specs.Bytes.{part, tabulate, number, digits, zeros, xor_bytes}
use Rattle.spec.specs.Polynomials.{product, remainder, field_product}
use Rattle.spec.specs.Aes.{bytes_of, cipher, key_expansion}
use Rattle.spec.specs.Keccak.{keccak_f}
use Rattle.spec.specs.Sponge.{xor_in, state_byte, absorbed, padding, padded, absorbed_all, permuted, output_byte, sponge, shake_suffix, shake}
use Rattle.spec.specs.Generator.{add_to_word, generator_block, generator_byte}
use Rattle.spec.specs.Hashes.{hash0, hash1}
use Rattle.spec.specs.Shapes.{faest128s, level, field_width, field_polynomial}

-- an IV whose upper word wraps with a tweak past 2^31 and whose lower word wraps at block 2
abbrev pub iv : List ℕ
iv = 254 ∷ 255 ∷ 255 ∷ 255 ∷ 32 ∷ 33 ∷ 34 ∷ 35 ∷ 36 ∷ 37 ∷ 38 ∷ 39 ∷ 255 ∷ 255 ∷ 255 ∷ 127 ∷ []

-- figure 3.6: what the cipher is given for block 5 under the tweak 2^31 + 3, whatever the key
pub generator-input : (key : List ℕ) →
    generator_block 4 key iv (2 ^ 31 + 3) 5
    ≡ bytes_of
    (cipher 10 (key_expansion 4 key) ((3 ∷ 0 ∷ 0 ∷ 0 ∷ []) ∷ (32 ∷ 33 ∷ 34 ∷ 35 ∷ []) ∷ (36 ∷ 37 ∷ 38 ∷ 39 ∷ []) ∷ (2 ∷ 0 ∷ 0 ∷ 0 ∷ []) ∷ []))
unfolding tabulate number digits add_to_word generator_block
generator-input key = refl

-- the same with keys of six and of eight words: 12 and 14 rounds
pub generator-input-192 : (key : List ℕ) →
    generator_block 6 key iv (2 ^ 31 + 3) 5
    ≡ bytes_of
    (cipher 12 (key_expansion 6 key) ((3 ∷ 0 ∷ 0 ∷ 0 ∷ []) ∷ (32 ∷ 33 ∷ 34 ∷ 35 ∷ []) ∷ (36 ∷ 37 ∷ 38 ∷ 39 ∷ []) ∷ (2 ∷ 0 ∷ 0 ∷ 0 ∷ []) ∷ []))
unfolding tabulate number digits add_to_word generator_block
generator-input-192 key = refl

pub generator-input-256 : (key : List ℕ) →
    generator_block 8 key iv (2 ^ 31 + 3) 5
    ≡ bytes_of
    (cipher 14 (key_expansion 8 key) ((3 ∷ 0 ∷ 0 ∷ 0 ∷ []) ∷ (32 ∷ 33 ∷ 34 ∷ 35 ∷ []) ∷ (36 ∷ 37 ∷ 38 ∷ 39 ∷ []) ∷ (2 ∷ 0 ∷ 0 ∷ 0 ∷ []) ∷ []))
unfolding tabulate number digits add_to_word generator_block
generator-input-256 key = refl

-- and for the last byte of the longest row, in block 511: the block's number carries into byte 1 of its word
pub generator-last-byte : (key : List ℕ) →
    generator_byte 4 key iv (2 ^ 31 + 3) 8191
    ≡ get_or
    (bytes_of
    (cipher 10 (key_expansion 4 key) ((253 ∷ 1 ∷ 0 ∷ 0 ∷ []) ∷ (32 ∷ 33 ∷ 34 ∷ 35 ∷ []) ∷ (36 ∷ 37 ∷ 38 ∷ 39 ∷ []) ∷ (2 ∷ 0 ∷ 0 ∷ 0 ∷ []) ∷ [])))
    15 0
unfolding tabulate number digits add_to_word generator_block generator_byte
generator-last-byte key = refl

-- ---- FIPS 202, Algorithm 8, at the rate of SHAKE128

-- n bytes that count from 0, after 255 from 0 again
abbrev pub counting : ℕ → List ℕ
counting n = tabulate n (λ i. i % 256)

-- the state s after one more block
abbrev pub after : List ℕ → List ℕ → List ℕ
after s block = keccak_f (xor_in s block)

-- a block of the suffix and the padding alone
abbrev pub padding_block : List ℕ
padding_block = 0x1f ∷ (zeros 166 ++ (0x80 ∷ []))

-- the blocks of messages of 0, 167, 168, 169 and 336 bytes: with 167 one byte holds the suffix and both ends of the padding; whole blocks are followed by one more
abbrev pub Absorbed : Type 0
Absorbed =
    (absorbed_all 168 shake_suffix [] ≡ after (zeros 25) padding_block)
    × (absorbed_all 168 shake_suffix (counting 167) ≡ after (zeros 25) (counting 167 ++ (0x9f ∷ [])))
    × (absorbed_all 168 shake_suffix (counting 168) ≡ after (after (zeros 25) (counting 168)) padding_block)
    × (absorbed_all 168 shake_suffix (counting 169) ≡ after (after (zeros 25) (counting 168)) (168 ∷ 0x1f ∷ (zeros 165 ++ (0x80 ∷ []))))
    × (absorbed_all 168 shake_suffix (counting 336) ≡ after (after (after (zeros 25) (counting 168)) (part (counting 336) 168 168)) padding_block)

pub sponge-input : Absorbed
unfolding tabulate zeros xor_bytes absorbed padding padded absorbed_all
sponge-input = (refl, refl, refl, refl, refl)

-- the output around the ends of its first two blocks, whatever the message
abbrev pub Squeezed : List ℕ → Type 0
Squeezed m =
    let s = absorbed_all 168 shake_suffix m in
    let z = shake 168 m 340 in
    (get_or z 0 0 ≡ state_byte s 0)
    × (get_or z 167 0 ≡ state_byte s 167)
    × (get_or z 168 0 ≡ state_byte (keccak_f s) 0)
    × (get_or z 335 0 ≡ state_byte (keccak_f s) 167)
    × (get_or z 336 0 ≡ state_byte (keccak_f (keccak_f s)) 0)

pub sponge-output : (m : List ℕ) → Squeezed m
unfolding tabulate permuted output_byte sponge shake
sponge-output m = (refl, refl, refl, refl, refl)

-- H0 and H1: what SHAKE is given for the message 7, 9
pub h0-input : (r n : ℕ) → hash0 r (7 ∷ 9 ∷ []) n ≡ shake r (7 ∷ 9 ∷ 0 ∷ []) n
unfolding hash0
h0-input r n = refl

pub h1-input : (r n : ℕ) → hash1 r (7 ∷ 9 ∷ []) n ≡ shake r (7 ∷ 9 ∷ 1 ∷ []) n
unfolding hash1
h1-input r n = refl

-- section 3.2: alpha^383 times alpha is alpha^12 + alpha^3 + alpha^2 + 1
pub alpha-384 : field_product (field_width faest128s) (field_polynomial faest128s) 8 (2 ^ 383) 2 ≡ 2 ^ 12 + 2 ^ 3 + 2 ^ 2 + 1
unfolding product remainder field_product level field_width field_polynomial faest128s
alpha-384 = refl

-- the same of alpha^575 and alpha^767 at levels 192 and 256
abbrev pub level_only : ℕ → Shape
level_only n = record { tau = 32; k = n / 32; w = 0; t = 1; level = n; kind = 0 }

pub alpha-576 : field_product (field_width (level_only 192)) (field_polynomial (level_only 192)) 8 (2 ^ 575) 2 ≡ 2 ^ 13 + 2 ^ 4 + 2 ^ 3 + 1
unfolding product remainder field_product level field_width field_polynomial
alpha-576 = refl

pub alpha-768 : field_product (field_width (level_only 256)) (field_polynomial (level_only 256)) 8 (2 ^ 767) 2 ≡ 2 ^ 19 + 2 ^ 17 + 2 ^ 4 + 1
unfolding product remainder field_product level field_width field_polynomial
alpha-768 = refl
