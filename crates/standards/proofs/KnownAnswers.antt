-- Worked examples of the primitives, computed by the definitions: FIPS 197's, SP 800-38A's of the counter mode, SHAKE128 of the empty message, and some of each
-- primitive of sections 3.3 and 5.1 of document 000, whose values reference/ derives too (reference/tests).
use mathlib.Core.Path.{◌≡◌, refl, ap}
use mathlib.Core.List.{List, [], ◌∷◌}
use Prim.Native.Nat.{ℕ, ◌+◌, ◌*◌, ◌/◌, ◌%◌, ◌^◌}
use lib.ListN.{get_or}
use Rattle.spec.specs.Bytes.{tabulate, number, digits, big_endian, big_endian_bytes, zeros, xor_bytes}
use Rattle.spec.specs.Polynomials.{product, remainder, field_product}
use Rattle.spec.specs.Gf256.{mul, squares, inverse, affine_bit, affine, sbox}
use Rattle.spec.specs.Aes.{xor_word, sub_word, sub_bytes, mix_column, mix_columns, add_round_key, round_of, last_round, round_key, rounds, cipher, power2, rcon, schedule_core, next_word, schedule, key_expansion, encrypt}
use Rattle.spec.specs.Keccak.{rotl, column_parities, beside_columns, add_columns, theta, walk_offsets, rho_offsets, rho, pi, chi, register, rc, round_constant_up_to, round_constant, iota, round, first_rounds, keccak_f}
use Rattle.spec.specs.Sponge.{lane_of, xor_in, state_byte, absorbed, padding, padded, absorbed_all, permuted, output_byte, sponge, shake}
use Rattle.spec.specs.Generator.{add_to_word, generator_block, generator_byte}
use Rattle.spec.specs.Hashes.{hash0, hash1}
use Rattle.spec.specs.LeafHash.{leaf_hash, leaf_hash_byte}
use Rattle.spec.specs.Shapes.{faest128s, level, node_bytes, hash_bytes, key_words, rate, field_width, field_polynomial}
use Rattle.spec.specs.Primitives.{faest}
use Rattle.spec.specs.Version1.{add_to_iv, generator1_block}

-- FIPS 197, appendix B
pub aes-appendix-b :
    encrypt 4 (43 ∷ 126 ∷ 21 ∷ 22 ∷ 40 ∷ 174 ∷ 210 ∷ 166 ∷ 171 ∷ 247 ∷ 21 ∷ 136 ∷ 9 ∷ 207 ∷ 79 ∷ 60 ∷ [])
    (50 ∷ 67 ∷ 246 ∷ 168 ∷ 136 ∷ 90 ∷ 48 ∷ 141 ∷ 49 ∷ 49 ∷ 152 ∷ 162 ∷ 224 ∷ 55 ∷ 7 ∷ 52 ∷ [])
    ≡ 57 ∷ 37 ∷ 132 ∷ 29 ∷ 2 ∷ 220 ∷ 9 ∷ 251 ∷ 220 ∷ 17 ∷ 133 ∷ 151 ∷ 25 ∷ 106 ∷ 11 ∷ 50 ∷ []
unfolding tabulate number product remainder field_product mul squares inverse affine_bit affine sbox xor_word sub_word sub_bytes mix_column mix_columns add_round_key round_of last_round round_key rounds cipher power2 rcon schedule_core next_word schedule key_expansion encrypt
aes-appendix-b = refl

-- FIPS 197, appendix C.1
pub aes-appendix-c1 :
    encrypt 4 (0 ∷ 1 ∷ 2 ∷ 3 ∷ 4 ∷ 5 ∷ 6 ∷ 7 ∷ 8 ∷ 9 ∷ 10 ∷ 11 ∷ 12 ∷ 13 ∷ 14 ∷ 15 ∷ [])
    (0 ∷ 17 ∷ 34 ∷ 51 ∷ 68 ∷ 85 ∷ 102 ∷ 119 ∷ 136 ∷ 153 ∷ 170 ∷ 187 ∷ 204 ∷ 221 ∷ 238 ∷ 255 ∷ [])
    ≡ 105 ∷ 196 ∷ 224 ∷ 216 ∷ 106 ∷ 123 ∷ 4 ∷ 48 ∷ 216 ∷ 205 ∷ 183 ∷ 128 ∷ 112 ∷ 180 ∷ 197 ∷ 90 ∷ []
unfolding tabulate number product remainder field_product mul squares inverse affine_bit affine sbox xor_word sub_word sub_bytes mix_column mix_columns add_round_key round_of last_round round_key rounds cipher power2 rcon schedule_core next_word schedule key_expansion encrypt
aes-appendix-c1 = refl

-- SP 800-38A, F.5.1: the first two output blocks of the counter mode, which is version 1's generator; with the second the counter carries
abbrev pub ctr-key : List ℕ
ctr-key = 43 ∷ 126 ∷ 21 ∷ 22 ∷ 40 ∷ 174 ∷ 210 ∷ 166 ∷ 171 ∷ 247 ∷ 21 ∷ 136 ∷ 9 ∷ 207 ∷ 79 ∷ 60 ∷ []

abbrev pub ctr-iv : List ℕ
ctr-iv = 240 ∷ 241 ∷ 242 ∷ 243 ∷ 244 ∷ 245 ∷ 246 ∷ 247 ∷ 248 ∷ 249 ∷ 250 ∷ 251 ∷ 252 ∷ 253 ∷ 254 ∷ 255 ∷ []

pub ctr-block-1 :
    generator1_block 4 ctr-key ctr-iv 0
    ≡ 236 ∷ 140 ∷ 223 ∷ 115 ∷ 152 ∷ 96 ∷ 124 ∷ 176 ∷ 242 ∷ 210 ∷ 22 ∷ 117 ∷ 234 ∷ 158 ∷ 161 ∷ 228 ∷ []
unfolding tabulate number product remainder field_product mul squares inverse affine_bit affine sbox xor_word sub_word sub_bytes mix_column mix_columns add_round_key round_of last_round round_key rounds cipher power2 rcon schedule_core next_word schedule key_expansion digits big_endian big_endian_bytes add_to_iv generator1_block
ctr-block-1 = refl

pub ctr-block-2 :
    generator1_block 4 ctr-key ctr-iv 1
    ≡ 54 ∷ 43 ∷ 124 ∷ 60 ∷ 103 ∷ 115 ∷ 81 ∷ 99 ∷ 24 ∷ 160 ∷ 119 ∷ 215 ∷ 252 ∷ 80 ∷ 115 ∷ 174 ∷ []
unfolding tabulate number product remainder field_product mul squares inverse affine_bit affine sbox xor_word sub_word sub_bytes mix_column mix_columns add_round_key round_of last_round round_key rounds cipher power2 rcon schedule_core next_word schedule key_expansion digits big_endian big_endian_bytes add_to_iv generator1_block
ctr-block-2 = refl

-- FIPS 202's function SHAKE128, of the empty message
pub shake128-empty :
    shake 168 [] 32
    ≡ 127 ∷ 156 ∷ 43 ∷ 164 ∷ 232 ∷ 143 ∷ 130 ∷ 125 ∷ 97 ∷ 96 ∷ 69 ∷ 80 ∷ 118 ∷ 5 ∷ 133 ∷ 62 ∷ 215 ∷ 59 ∷ 128 ∷ 147 ∷ 246 ∷ 239 ∷ 188 ∷ 136 ∷ 235 ∷ 26 ∷ 110 ∷ 172 ∷ 250 ∷ 102 ∷ 239 ∷ 38 ∷ []
unfolding tabulate number zeros xor_bytes rotl column_parities beside_columns add_columns theta walk_offsets rho_offsets rho pi chi register rc round_constant_up_to round_constant iota round first_rounds keccak_f lane_of xor_in state_byte absorbed padding padded absorbed_all permuted output_byte sponge shake
shake128-empty = refl

-- a key; an IV whose upper word wraps with a tweak past 2^31 and whose lower word wraps at block 2
abbrev pub key : List ℕ
key = 0 ∷ 1 ∷ 2 ∷ 3 ∷ 4 ∷ 5 ∷ 6 ∷ 7 ∷ 8 ∷ 9 ∷ 10 ∷ 11 ∷ 12 ∷ 13 ∷ 14 ∷ 15 ∷ []

abbrev pub iv : List ℕ
iv = 254 ∷ 255 ∷ 255 ∷ 255 ∷ 32 ∷ 33 ∷ 34 ∷ 35 ∷ 36 ∷ 37 ∷ 38 ∷ 39 ∷ 255 ∷ 255 ∷ 255 ∷ 127 ∷ []

-- figure 3.6: block 5, both words wrapping
pub generator-block :
    generator_block (key_words faest128s) key iv (2 ^ 31 + 3) 5
    ≡ 74 ∷ 42 ∷ 178 ∷ 196 ∷ 188 ∷ 65 ∷ 134 ∷ 73 ∷ 226 ∷ 35 ∷ 241 ∷ 119 ∷ 85 ∷ 53 ∷ 40 ∷ 142 ∷ []
unfolding tabulate number product remainder field_product mul squares inverse affine_bit affine sbox xor_word sub_word sub_bytes mix_column mix_columns add_round_key round_of last_round round_key rounds cipher power2 rcon schedule_core next_word schedule key_expansion digits add_to_word generator_block faest128s level key_words
generator-block = refl

-- block 511, the last of the longest row: its number takes two bytes
pub generator-last-block :
    generator_block (key_words faest128s) key iv (2 ^ 31 + 3) 511
    ≡ 40 ∷ 40 ∷ 167 ∷ 143 ∷ 227 ∷ 158 ∷ 26 ∷ 169 ∷ 56 ∷ 244 ∷ 174 ∷ 30 ∷ 243 ∷ 123 ∷ 186 ∷ 46 ∷ []
unfolding tabulate number product remainder field_product mul squares inverse affine_bit affine sbox xor_word sub_word sub_bytes mix_column mix_columns add_round_key round_of last_round round_key rounds cipher power2 rcon schedule_core next_word schedule key_expansion digits add_to_word generator_block faest128s level key_words
generator-last-block = refl

-- byte 5 of block 5 is byte 85 of the output, and byte 15 of block 511 byte 8,191
pub generator-byte : faest.prg_byte faest128s key iv (2 ^ 31 + 3) 85 ≡ 65
unfolding faest generator_byte
generator-byte = ap (λ (block : List ℕ). get_or block 5 0) generator-block

pub generator-last-byte : faest.prg_byte faest128s key iv (2 ^ 31 + 3) 8191 ≡ 46
unfolding faest generator_byte
generator-last-byte = ap (λ (block : List ℕ). get_or block 15 0) generator-last-block

-- H0 and H1 of the IV
pub h0-of-iv :
    faest.h0 faest128s iv 32
    ≡ 47 ∷ 96 ∷ 246 ∷ 51 ∷ 2 ∷ 170 ∷ 113 ∷ 6 ∷ 212 ∷ 52 ∷ 206 ∷ 119 ∷ 236 ∷ 209 ∷ 45 ∷ 106 ∷ 107 ∷ 217 ∷ 239 ∷ 185 ∷ 186 ∷ 184 ∷ 168 ∷ 81 ∷ 117 ∷ 227 ∷ 161 ∷ 111 ∷ 202 ∷ 228 ∷ 131 ∷ 35 ∷ []
unfolding tabulate number zeros xor_bytes rotl column_parities beside_columns add_columns theta walk_offsets rho_offsets rho pi chi register rc round_constant_up_to round_constant iota round first_rounds keccak_f lane_of xor_in state_byte absorbed padding padded absorbed_all permuted output_byte sponge shake hash0 faest faest128s level node_bytes hash_bytes key_words rate field_width field_polynomial
h0-of-iv = refl

pub h1-of-iv :
    faest.h1 faest128s iv
    ≡ 136 ∷ 254 ∷ 138 ∷ 172 ∷ 54 ∷ 29 ∷ 11 ∷ 81 ∷ 200 ∷ 59 ∷ 98 ∷ 188 ∷ 63 ∷ 193 ∷ 13 ∷ 124 ∷ 10 ∷ 238 ∷ 42 ∷ 253 ∷ 42 ∷ 191 ∷ 125 ∷ 146 ∷ 104 ∷ 215 ∷ 168 ∷ 245 ∷ 77 ∷ 8 ∷ 90 ∷ 213 ∷ []
unfolding tabulate number zeros xor_bytes rotl column_parities beside_columns add_columns theta walk_offsets rho_offsets rho pi chi register rc round_constant_up_to round_constant iota round first_rounds keccak_f lane_of xor_in state_byte absorbed padding padded absorbed_all permuted output_byte sponge shake hash1 faest faest128s level node_bytes hash_bytes key_words rate field_width field_polynomial
h1-of-iv = refl

-- LeafHash: a hash key, x0 and x1
abbrev pub u : List ℕ
u = 129 ∷ 136 ∷ 143 ∷ 150 ∷ 157 ∷ 164 ∷ 171 ∷ 178 ∷ 185 ∷ 192 ∷ 199 ∷ 206 ∷ 213 ∷ 220 ∷ 227 ∷ 234 ∷ 241 ∷ 248 ∷ 255 ∷ 6 ∷ 13 ∷ 20 ∷ 27 ∷ 34 ∷ 41 ∷ 48 ∷ 55 ∷ 62 ∷ 69 ∷ 76 ∷ 83 ∷ 90 ∷ 97 ∷ 104 ∷ 111 ∷ 118 ∷ 125 ∷ 132 ∷ 139 ∷ 146 ∷ 153 ∷ 160 ∷ 167 ∷ 174 ∷ 181 ∷ 188 ∷ 195 ∷ 202 ∷ []

abbrev pub x₀ : List ℕ
x₀ = 240 ∷ 251 ∷ 6 ∷ 17 ∷ 28 ∷ 39 ∷ 50 ∷ 61 ∷ 72 ∷ 83 ∷ 94 ∷ 105 ∷ 116 ∷ 127 ∷ 138 ∷ 149 ∷ []

abbrev pub x₁ : List ℕ
x₁ = 3 ∷ 8 ∷ 13 ∷ 18 ∷ 23 ∷ 28 ∷ 33 ∷ 38 ∷ 43 ∷ 48 ∷ 53 ∷ 58 ∷ 63 ∷ 68 ∷ 73 ∷ 78 ∷ 83 ∷ 88 ∷ 93 ∷ 98 ∷ 103 ∷ 108 ∷ 113 ∷ 118 ∷ 123 ∷ 128 ∷ 133 ∷ 138 ∷ 143 ∷ 148 ∷ 153 ∷ 158 ∷ 163 ∷ 168 ∷ 173 ∷ 178 ∷ 183 ∷ 188 ∷ 193 ∷ 198 ∷ 203 ∷ 208 ∷ 213 ∷ 218 ∷ 223 ∷ 228 ∷ 233 ∷ 238 ∷ []

pub leaf-hash :
    leaf_hash (field_width faest128s) (field_polynomial faest128s) u x₀ x₁
    ≡ number 8
    (131 ∷ 184 ∷ 15 ∷ 7 ∷ 190 ∷ 1 ∷ 89 ∷ 91 ∷ 95 ∷ 247 ∷ 201 ∷ 86 ∷ 213 ∷ 39 ∷ 248 ∷ 90 ∷ 81 ∷ 208 ∷ 240 ∷ 212 ∷ 113 ∷ 5 ∷ 122 ∷ 232 ∷ 63 ∷ 220 ∷ 120 ∷ 110 ∷ 0 ∷ 223 ∷ 230 ∷ 1 ∷ 201 ∷ 50 ∷ 236 ∷ 32 ∷ 18 ∷ 78 ∷ 86 ∷ 39 ∷ 79 ∷ 133 ∷ 49 ∷ 164 ∷ 144 ∷ 21 ∷ 153 ∷ 187 ∷ [])
unfolding number product remainder field_product leaf_hash level field_width field_polynomial faest128s
leaf-hash = refl

-- its last byte
pub leaf-hash-byte : faest.hash_byte faest128s u x₀ x₁ 47 ≡ 187
unfolding number faest leaf_hash_byte
leaf-hash-byte = ap (λ (h : ℕ). h / 2 ^ (8 * 47) % 2 ^ 8) leaf-hash
