-- SHAKE256: of the empty message, and of 300 bytes that count from 0, which are three blocks, with output past the first block. One permutation is computed in each
-- step. The output bytes are those of reference/ (reference/tests); the states between two blocks are only steps to them.
use mathlib.Core.Path.{◌≡◌, refl, ap, ◌∙◌}
use mathlib.Core.List.{List, [], ◌∷◌, ◌++◌}
use Prim.Native.Nat.{ℕ, ◌+◌}
use Rattle.spec.specs.Bytes.{part, tabulate, number, zeros, xor_bytes}
use Rattle.spec.specs.Keccak.{rotl, column_parities, beside_columns, add_columns, theta, walk_offsets, rho_offsets, rho, pi, chi, register, rc, round_constant_up_to, round_constant, iota, round, first_rounds, keccak_f}
use Rattle.spec.specs.Sponge.{lane_of, xor_in, state_byte, absorbed, padding, padded, absorbed_all, permuted, output_byte, sponge, shake_suffix, shake}
use Rattle.spec.proofs.PrimitiveInputs.{counting, after}

pub shake256-empty :
    shake 136 [] 32
    ≡ 70 ∷ 185 ∷ 221 ∷ 43 ∷ 11 ∷ 168 ∷ 141 ∷ 19 ∷ 35 ∷ 59 ∷ 63 ∷ 235 ∷ 116 ∷ 62 ∷ 235 ∷ 36 ∷ 63 ∷ 205 ∷ 82 ∷ 234 ∷ 98 ∷ 184 ∷ 27 ∷ 130 ∷ 181 ∷ 12 ∷ 39 ∷ 100 ∷ 110 ∷ 213 ∷ 118 ∷ 47 ∷ []
unfolding tabulate number zeros xor_bytes rotl column_parities beside_columns add_columns theta walk_offsets rho_offsets rho pi chi register rc round_constant_up_to round_constant iota round first_rounds keccak_f lane_of xor_in state_byte absorbed padding padded absorbed_all permuted output_byte sponge shake
shake256-empty = refl

-- the last block of 300 bytes, and the state after each block
abbrev last : List ℕ
last = part (counting 300) 272 28 ++ (0x1f ∷ (zeros 106 ++ (0x80 ∷ [])))

blocks : absorbed_all 136 shake_suffix (counting 300) ≡ after (after (after (zeros 25) (counting 136)) (part (counting 300) 136 136)) last
unfolding tabulate zeros xor_bytes absorbed padding padded absorbed_all
blocks = refl

abbrev after1 : List ℕ
after1 = 0xc9834334d2362f28 ∷ 0x2b8ba51237858fc4 ∷ 0xf9edb9bd888c78bd ∷ 0x5dc691d14fe45f12 ∷ 0x11ca79d90002606b ∷ 0xe6a4764f80aa5cf6 ∷ 0xf8f4d02ad44b4adf ∷ 0x36ec33af3b7394f6 ∷ 0xa6a7a3c4fb6ac06e ∷ 0xb3b1d19d16784d8f ∷ 0xdfd0fba7398be6a5 ∷ 0x3e4d8506074c0b20 ∷ 0x3a497beedf7f7688 ∷ 0x760c6e1a9bccb2e4 ∷ 0x96e1aa9cced04e74 ∷ 0xbd2cdeed084d065f ∷ 0x6aa4e537e9afeea1 ∷ 0xa589e42e64344449 ∷ 0x788acfc004cafa2c ∷ 0x67b7c69e493fd2c0 ∷ 0xd08c0c07a6228e0c ∷ 0x0786c165daee1060 ∷ 0x7d75a338406c6735 ∷ 0x683dec7172a2d9c8 ∷ 0x9513375f3f9b8919 ∷ []

abbrev after2 : List ℕ
after2 = 0xc09730469da03001 ∷ 0x00c054ead260c193 ∷ 0x6393a49cd4b54dfa ∷ 0x479ac6fb37cb0b05 ∷ 0xc1a2f1514e89b401 ∷ 0x8c0d97382db6132d ∷ 0x746e7647aa6f7adc ∷ 0x0b1bcff6fc91fae4 ∷ 0xc1a4524a38c37fcd ∷ 0xb398a62d2e60d6c6 ∷ 0xc6b8b898001b0b26 ∷ 0xea61c5edccf1a640 ∷ 0x8dac697da184523c ∷ 0x6bbbfd8f715e81d1 ∷ 0xeed36fd61ef4db8c ∷ 0xb522ed10189aeaa9 ∷ 0xc7308d3a544334fb ∷ 0x60297faf582955b8 ∷ 0xf69998df598e335d ∷ 0x07449e747218f1ad ∷ 0x4b82dac90c1c31b2 ∷ 0xfabf1c09744087f4 ∷ 0xd4f2a3a0bb15db0e ∷ 0x78ee7f3b9885ef15 ∷ 0x748ee85d0b085006 ∷ []

abbrev after3 : List ℕ
after3 = 0xe6e0dc08426fedbc ∷ 0x9b58d057e05a15bc ∷ 0xd166786cb498a7bf ∷ 0xe9463aee4ad1e807 ∷ 0x0278f7602dd892a2 ∷ 0xa742816ca4a9dfca ∷ 0x0740f6b6fb638826 ∷ 0xce0e4f3344fde9d6 ∷ 0x7bcf3cf3338cb199 ∷ 0x47089588e416f90d ∷ 0x0ad84c7326f2a63a ∷ 0x7ed584589880e1e0 ∷ 0xed2010516bd10a99 ∷ 0x3e0450813db24950 ∷ 0xbf98049e2902a9b4 ∷ 0xf95122deb84f4833 ∷ 0x89c39de587e72e37 ∷ 0xff313d270fbab85a ∷ 0xd013ee4ccd345196 ∷ 0x659902a63a1cb78c ∷ 0x1a1b49779a102207 ∷ 0xf9c561c3b4adacf5 ∷ 0x9835b5e2658de911 ∷ 0xd33819520aa181f1 ∷ 0xa756b4eead24204f ∷ []

absorb-1 : after (zeros 25) (counting 136) ≡ after1
unfolding tabulate number zeros rotl column_parities beside_columns add_columns theta walk_offsets rho_offsets rho pi chi register rc round_constant_up_to round_constant iota round first_rounds keccak_f lane_of xor_in
absorb-1 = refl

absorb-2 : after after1 (part (counting 300) 136 136) ≡ after2
unfolding tabulate number zeros rotl column_parities beside_columns add_columns theta walk_offsets rho_offsets rho pi chi register rc round_constant_up_to round_constant iota round first_rounds keccak_f lane_of xor_in
absorb-2 = refl

absorb-3 : after after2 last ≡ after3
unfolding tabulate number zeros rotl column_parities beside_columns add_columns theta walk_offsets rho_offsets rho pi chi register rc round_constant_up_to round_constant iota round first_rounds keccak_f lane_of xor_in
absorb-3 = refl

absorbed-300 : absorbed_all 136 shake_suffix (counting 300) ≡ after3
absorbed-300 =
    blocks
    ∙ ap (λ (s : List ℕ). after (after s (part (counting 300) 136 136)) last) absorb-1
    ∙ ap (λ (s : List ℕ). after s last) absorb-2
    ∙ absorb-3

-- the output's bytes 0 to 31, and those from 128 to 143 around the end of the first block, from the state after the message
first-bytes : (m s : List ℕ) → absorbed_all 136 shake_suffix m ≡ s → shake 136 m 32 ≡ tabulate 32 (state_byte s)
unfolding tabulate permuted output_byte sponge shake
first-bytes m s e = ap (λ (a : List ℕ). tabulate 32 (state_byte a)) e

first-end : (m s : List ℕ) → absorbed_all 136 shake_suffix m ≡ s
    → part (shake 136 m 144) 128 16 ≡ tabulate 8 (λ i. state_byte s (128 + i)) ++ tabulate 8 (state_byte (keccak_f s))
unfolding tabulate permuted output_byte sponge shake
first-end m s e = ap (λ (a : List ℕ). tabulate 8 (λ i. state_byte a (128 + i)) ++ tabulate 8 (state_byte (keccak_f a))) e

pub shake256-300 :
    shake 136 (counting 300) 32
    ≡ 188 ∷ 237 ∷ 111 ∷ 66 ∷ 8 ∷ 220 ∷ 224 ∷ 230 ∷ 188 ∷ 21 ∷ 90 ∷ 224 ∷ 87 ∷ 208 ∷ 88 ∷ 155 ∷ 191 ∷ 167 ∷ 152 ∷ 180 ∷ 108 ∷ 120 ∷ 102 ∷ 209 ∷ 7 ∷ 232 ∷ 209 ∷ 74 ∷ 238 ∷ 58 ∷ 70 ∷ 233 ∷ []
unfolding tabulate state_byte
shake256-300 = first-bytes (counting 300) after3 absorbed-300

second_block :
    tabulate 8 (λ i. state_byte after3 (128 + i)) ++ tabulate 8 (state_byte (keccak_f after3))
    ≡ 55 ∷ 46 ∷ 231 ∷ 135 ∷ 229 ∷ 157 ∷ 195 ∷ 137 ∷ 86 ∷ 10 ∷ 180 ∷ 241 ∷ 78 ∷ 41 ∷ 28 ∷ 90 ∷ []
unfolding tabulate number zeros rotl column_parities beside_columns add_columns theta walk_offsets rho_offsets rho pi chi register rc round_constant_up_to round_constant iota round first_rounds keccak_f lane_of xor_in state_byte
second_block = refl

pub shake256-output-136 :
    part (shake 136 (counting 300) 144) 128 16
    ≡ 55 ∷ 46 ∷ 231 ∷ 135 ∷ 229 ∷ 157 ∷ 195 ∷ 137 ∷ 86 ∷ 10 ∷ 180 ∷ 241 ∷ 78 ∷ 41 ∷ 28 ∷ 90 ∷ []
shake256-output-136 = first-end (counting 300) after3 absorbed-300 ∙ second_block
