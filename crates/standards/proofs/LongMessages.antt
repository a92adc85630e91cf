-- SHAKE128 of bytes that count from 0, in messages that end just before, at and just behind the end of a block, and output past the first two blocks. Which
-- blocks the permutation is given is known from crates/spec (sponge-input, sponge-output); here each permutation is computed, one in each step. The output
-- bytes are those of reference/ (reference/tests); the states between two blocks are only steps to them.
use mathlib.Core.Path.{◌≡◌, refl, ap, ◌∙◌}
use mathlib.Core.List.{List, [], ◌∷◌, ◌++◌}
use Prim.Native.Nat.{ℕ, ◌+◌}
use Rattle.spec.specs.Bytes.{part, tabulate, number, zeros}
use Rattle.spec.specs.Keccak.{rotl, column_parities, beside_columns, add_columns, theta, walk_offsets, rho_offsets, rho, pi, chi, register, rc, round_constant_up_to, round_constant, iota, round, first_rounds, keccak_f}
use Rattle.spec.specs.Sponge.{lane_of, xor_in, state_byte, absorbed_all, permuted, output_byte, sponge, shake_suffix, shake}
use Rattle.spec.proofs.PrimitiveInputs.{counting, after, padding_block, sponge-input}

-- the first 32 bytes of the output, from the state after the message
first-bytes : (m s : List ℕ) → absorbed_all 168 shake_suffix m ≡ s → shake 168 m 32 ≡ tabulate 32 (state_byte s)
unfolding tabulate permuted output_byte sponge shake
first-bytes m s e = ap (λ (a : List ℕ). tabulate 32 (state_byte a)) e

-- ---- 167 bytes: one block, and its output from byte 160 to 175 and from 328 to 343, around the ends of the first two blocks

abbrev after167 : List ℕ
after167 = 0xa0934ecc9127551e ∷ 0x8c2249ae47dca8d4 ∷ 0xf628e6409e86aa2f ∷ 0x7acaf1c3ae77e4ac ∷ 0x262cf85c24c1e1ef ∷ 0xed1a128529ad6851 ∷ 0x67a38711ae3523d7 ∷ 0x30cb402bcf46c742 ∷ 0xc4449eeac594c9b7 ∷ 0x02abc76b6814200f ∷ 0x8dd88de47339ad37 ∷ 0xc798be288bbcc848 ∷ 0x8278a07066949a72 ∷ 0xd595cbfd39b2c311 ∷ 0x8612633c4620611b ∷ 0x3c3e9fbc1dda7c81 ∷ 0xd4a36b2dfc406e37 ∷ 0xfc6ede7721d172df ∷ 0x7068f2f915dd84cb ∷ 0xe7277c2100adb865 ∷ 0x1e734b21c5117d5b ∷ 0x8e0a6663982840c8 ∷ 0x43e1a4b69f56d85c ∷ 0x5b1d6b7a9ff70d69 ∷ 0xc5743e7c59ae5c48 ∷ []

abbrev permuted167 : List ℕ
permuted167 = 0x3248f40e3545fcd3 ∷ 0x8634f3dd1b3c46dc ∷ 0xad8084854e707fa1 ∷ 0xc6f61e94dc8f310b ∷ 0x0bd6a0811c668fc6 ∷ 0xd25efe667f6865be ∷ 0xffa55526f637a693 ∷ 0xfaefb5edf7c83415 ∷ 0x2ff4ff5d102b10b6 ∷ 0xff9b4e702b221048 ∷ 0xf9f7d8bde7308d97 ∷ 0xa7404227184b958e ∷ 0xce125c4859efa322 ∷ 0xd699f910977aa313 ∷ 0x6c7e9cb381e853c2 ∷ 0x39ee644c4a34c2e3 ∷ 0x80d08557c514096c ∷ 0x782a16f3092e531e ∷ 0x33cbe4169c69b134 ∷ 0xa902522b6b34587c ∷ 0xa627cf841ae80d8d ∷ 0x75b777f6b58e9056 ∷ 0xc3b040d52dbf37b1 ∷ 0x3be16ed947b54375 ∷ 0x973d4be98d1a8f36 ∷ []

absorb-167 : after (zeros 25) (counting 167 ++ (0x9f ∷ [])) ≡ after167
unfolding tabulate number zeros rotl column_parities beside_columns add_columns theta walk_offsets rho_offsets rho pi chi register rc round_constant_up_to round_constant iota round first_rounds keccak_f lane_of xor_in
absorb-167 = refl

permute-167 : keccak_f after167 ≡ permuted167
unfolding tabulate number zeros rotl column_parities beside_columns add_columns theta walk_offsets rho_offsets rho pi chi register rc round_constant_up_to round_constant iota round first_rounds keccak_f lane_of xor_in
permute-167 = refl

pub shake128-167 :
    shake 168 (counting 167) 32
    ≡ 30 ∷ 85 ∷ 39 ∷ 145 ∷ 204 ∷ 78 ∷ 147 ∷ 160 ∷ 212 ∷ 168 ∷ 220 ∷ 71 ∷ 174 ∷ 73 ∷ 34 ∷ 140 ∷ 47 ∷ 170 ∷ 134 ∷ 158 ∷ 64 ∷ 230 ∷ 40 ∷ 246 ∷ 172 ∷ 228 ∷ 119 ∷ 174 ∷ 195 ∷ 241 ∷ 202 ∷ 122 ∷ []
unfolding tabulate state_byte
shake128-167 = first-bytes (counting 167) after167 (sponge-input.1 ∙ absorb-167)

-- the 16 bytes around the end of a block, of the state s and the next
abbrev around : List ℕ → List ℕ
around s = tabulate 8 (λ i. state_byte s (160 + i)) ++ tabulate 8 (state_byte (keccak_f s))

first-end : (m s : List ℕ) → absorbed_all 168 shake_suffix m ≡ s → part (shake 168 m 344) 160 16 ≡ around s
unfolding tabulate permuted output_byte sponge shake
first-end m s e = ap around e

second-end : (m s : List ℕ) → absorbed_all 168 shake_suffix m ≡ s → part (shake 168 m 344) 328 16 ≡ around (keccak_f s)
unfolding tabulate permuted output_byte sponge shake
second-end m s e = ap (λ (a : List ℕ). around (keccak_f a)) e

pub shake128-output-168 :
    part (shake 168 (counting 167) 344) 160 16
    ≡ 91 ∷ 125 ∷ 17 ∷ 197 ∷ 33 ∷ 75 ∷ 115 ∷ 30 ∷ 211 ∷ 252 ∷ 69 ∷ 53 ∷ 14 ∷ 244 ∷ 72 ∷ 50 ∷ []
unfolding tabulate state_byte
shake128-output-168 =
    first-end (counting 167) after167 (sponge-input.1 ∙ absorb-167)
    ∙ ap (λ (a : List ℕ). tabulate 8 (λ i. state_byte after167 (160 + i)) ++ tabulate 8 (state_byte a)) permute-167

third-block :
    around permuted167
    ≡ 141 ∷ 13 ∷ 232 ∷ 26 ∷ 132 ∷ 207 ∷ 39 ∷ 166 ∷ 28 ∷ 94 ∷ 141 ∷ 127 ∷ 241 ∷ 205 ∷ 170 ∷ 105 ∷ []
unfolding tabulate number zeros rotl column_parities beside_columns add_columns theta walk_offsets rho_offsets rho pi chi register rc round_constant_up_to round_constant iota round first_rounds keccak_f lane_of xor_in state_byte
third-block = refl

pub shake128-output-336 :
    part (shake 168 (counting 167) 344) 328 16
    ≡ 141 ∷ 13 ∷ 232 ∷ 26 ∷ 132 ∷ 207 ∷ 39 ∷ 166 ∷ 28 ∷ 94 ∷ 141 ∷ 127 ∷ 241 ∷ 205 ∷ 170 ∷ 105 ∷ []
shake128-output-336 = second-end (counting 167) after167 (sponge-input.1 ∙ absorb-167) ∙ ap around permute-167 ∙ third-block

-- ---- 168, 169 and 336 bytes

abbrev after168 : List ℕ
after168 = 0x32929c2817e2b55a ∷ 0x2362654151e8e158 ∷ 0x9a41ad5b2ff56e7e ∷ 0xe531013a3d0a9aef ∷ 0x5dc06f484773c4a6 ∷ 0x36940761eabec5a2 ∷ 0x45090c73dd04ef59 ∷ 0x2da604dda99e847b ∷ 0xd4ef7bbbf5b7dd6c ∷ 0x2eec465933c7c882 ∷ 0xc9737dc1163e9fe3 ∷ 0x03e35008ff24c5f2 ∷ 0x757003ac16bc7799 ∷ 0x4c7ea2b8304c0613 ∷ 0x010600c07cfb95ae ∷ 0xe4c01be9eb53b626 ∷ 0xbdc558cf93bded18 ∷ 0x9ec9785674319ac3 ∷ 0x59b2ac3a58c275cc ∷ 0xb2f26c13b142c717 ∷ 0x4191c1002c2225fd ∷ 0x944330536c32f175 ∷ 0xb1b65031b0fdf06c ∷ 0xe758b44569b8b333 ∷ 0xdbd0c50a11246961 ∷ []

absorb-168 : after (zeros 25) (counting 168) ≡ after168
unfolding tabulate number zeros rotl column_parities beside_columns add_columns theta walk_offsets rho_offsets rho pi chi register rc round_constant_up_to round_constant iota round first_rounds keccak_f lane_of xor_in
absorb-168 = refl

pad-168 :
    tabulate 32 (state_byte (after after168 padding_block))
    ≡ 241 ∷ 82 ∷ 119 ∷ 235 ∷ 97 ∷ 196 ∷ 144 ∷ 141 ∷ 68 ∷ 162 ∷ 133 ∷ 63 ∷ 60 ∷ 222 ∷ 7 ∷ 26 ∷ 226 ∷ 237 ∷ 122 ∷ 35 ∷ 70 ∷ 31 ∷ 190 ∷ 22 ∷ 42 ∷ 26 ∷ 152 ∷ 207 ∷ 104 ∷ 117 ∷ 5 ∷ 156 ∷ []
unfolding tabulate number zeros rotl column_parities beside_columns add_columns theta walk_offsets rho_offsets rho pi chi register rc round_constant_up_to round_constant iota round first_rounds keccak_f lane_of xor_in state_byte
pad-168 = refl

pub shake128-168 :
    shake 168 (counting 168) 32
    ≡ 241 ∷ 82 ∷ 119 ∷ 235 ∷ 97 ∷ 196 ∷ 144 ∷ 141 ∷ 68 ∷ 162 ∷ 133 ∷ 63 ∷ 60 ∷ 222 ∷ 7 ∷ 26 ∷ 226 ∷ 237 ∷ 122 ∷ 35 ∷ 70 ∷ 31 ∷ 190 ∷ 22 ∷ 42 ∷ 26 ∷ 152 ∷ 207 ∷ 104 ∷ 117 ∷ 5 ∷ 156 ∷ []
shake128-168 =
    first-bytes (counting 168) (after after168 padding_block) (sponge-input.2 ∙ ap (λ (s : List ℕ). after s padding_block) absorb-168) ∙ pad-168

abbrev last_of169 : List ℕ
last_of169 = 168 ∷ 0x1f ∷ (zeros 165 ++ (0x80 ∷ []))

pad-169 :
    tabulate 32 (state_byte (after after168 last_of169))
    ≡ 1 ∷ 91 ∷ 227 ∷ 51 ∷ 140 ∷ 152 ∷ 109 ∷ 152 ∷ 70 ∷ 175 ∷ 250 ∷ 15 ∷ 148 ∷ 180 ∷ 175 ∷ 194 ∷ 167 ∷ 107 ∷ 194 ∷ 137 ∷ 199 ∷ 9 ∷ 225 ∷ 165 ∷ 150 ∷ 236 ∷ 158 ∷ 204 ∷ 240 ∷ 144 ∷ 167 ∷ 115 ∷ []
unfolding tabulate number zeros rotl column_parities beside_columns add_columns theta walk_offsets rho_offsets rho pi chi register rc round_constant_up_to round_constant iota round first_rounds keccak_f lane_of xor_in state_byte
pad-169 = refl

pub shake128-169 :
    shake 168 (counting 169) 32
    ≡ 1 ∷ 91 ∷ 227 ∷ 51 ∷ 140 ∷ 152 ∷ 109 ∷ 152 ∷ 70 ∷ 175 ∷ 250 ∷ 15 ∷ 148 ∷ 180 ∷ 175 ∷ 194 ∷ 167 ∷ 107 ∷ 194 ∷ 137 ∷ 199 ∷ 9 ∷ 225 ∷ 165 ∷ 150 ∷ 236 ∷ 158 ∷ 204 ∷ 240 ∷ 144 ∷ 167 ∷ 115 ∷ []
shake128-169 =
    first-bytes (counting 169) (after after168 last_of169) (sponge-input.3 ∙ ap (λ (s : List ℕ). after s last_of169) absorb-168) ∙ pad-169

abbrev after336 : List ℕ
after336 = 0xfee0622f34bdf017 ∷ 0x178e9eeda3bcc9f1 ∷ 0x3f492df6df129f1c ∷ 0x1b154a51572a0c79 ∷ 0x6d27c2b4d71da041 ∷ 0xb724cf8c8166892d ∷ 0x56ae073a3f48388d ∷ 0x0981114ab1bfc6e9 ∷ 0x30b35623c20ae79d ∷ 0xb53761decf6e34ec ∷ 0x1810087d06a7f263 ∷ 0xe8cd2f6a6e4097f5 ∷ 0x96edb1ec360570ff ∷ 0xf4ffb7ae02354803 ∷ 0x73ce15dc34288906 ∷ 0x664e480ea31901bf ∷ 0x0e543018e5ee2317 ∷ 0xb3405c9ff37ffe20 ∷ 0x50c7520ed26a05a9 ∷ 0x03e1d04ad513cf64 ∷ 0xc119ac08f4ad8dca ∷ 0xb428910f03a18ea2 ∷ 0x8129943417b5952c ∷ 0x9b95c1bf3341ca01 ∷ 0x3e54ea21458ffc34 ∷ []

absorb-336 : after after168 (part (counting 336) 168 168) ≡ after336
unfolding tabulate number zeros rotl column_parities beside_columns add_columns theta walk_offsets rho_offsets rho pi chi register rc round_constant_up_to round_constant iota round first_rounds keccak_f lane_of xor_in
absorb-336 = refl

pad-336 :
    tabulate 32 (state_byte (after after336 padding_block))
    ≡ 30 ∷ 193 ∷ 248 ∷ 136 ∷ 127 ∷ 184 ∷ 165 ∷ 236 ∷ 216 ∷ 252 ∷ 38 ∷ 146 ∷ 32 ∷ 51 ∷ 32 ∷ 38 ∷ 122 ∷ 59 ∷ 230 ∷ 54 ∷ 80 ∷ 159 ∷ 90 ∷ 0 ∷ 101 ∷ 239 ∷ 89 ∷ 67 ∷ 65 ∷ 184 ∷ 73 ∷ 152 ∷ []
unfolding tabulate number zeros rotl column_parities beside_columns add_columns theta walk_offsets rho_offsets rho pi chi register rc round_constant_up_to round_constant iota round first_rounds keccak_f lane_of xor_in state_byte
pad-336 = refl

pub shake128-336 :
    shake 168 (counting 336) 32
    ≡ 30 ∷ 193 ∷ 248 ∷ 136 ∷ 127 ∷ 184 ∷ 165 ∷ 236 ∷ 216 ∷ 252 ∷ 38 ∷ 146 ∷ 32 ∷ 51 ∷ 32 ∷ 38 ∷ 122 ∷ 59 ∷ 230 ∷ 54 ∷ 80 ∷ 159 ∷ 90 ∷ 0 ∷ 101 ∷ 239 ∷ 89 ∷ 67 ∷ 65 ∷ 184 ∷ 73 ∷ 152 ∷ []
shake128-336 =
    first-bytes (counting 336) (after after336 padding_block)
    (sponge-input.4
    ∙ ap (λ (s : List ℕ). after (after s (part (counting 336) 168 168)) padding_block) absorb-168
    ∙ ap (λ (s : List ℕ). after s padding_block) absorb-336)
    ∙ pad-336
