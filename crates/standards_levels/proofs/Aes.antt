-- FIPS 197's examples with longer keys, appendices C.2 and C.3, computed by the definitions.
use mathlib.Core.Path.{◌≡◌, refl}
use mathlib.Core.List.{List, [], ◌∷◌}
use Prim.Native.Nat.{ℕ}
use Rattle.spec.specs.Bytes.{tabulate, number}
use Rattle.spec.specs.Polynomials.{product, remainder, field_product}
use Rattle.spec.specs.Gf256.{mul, squares, inverse, affine_bit, affine, sbox}
use Rattle.spec.specs.Aes.{xor_word, sub_word, sub_bytes, mix_column, mix_columns, add_round_key, round_of, last_round, round_key, rounds, cipher, power2, rcon, schedule_core, next_word, schedule, key_expansion, encrypt}

abbrev key24 : List ℕ
key24 = 0 ∷ 1 ∷ 2 ∷ 3 ∷ 4 ∷ 5 ∷ 6 ∷ 7 ∷ 8 ∷ 9 ∷ 10 ∷ 11 ∷ 12 ∷ 13 ∷ 14 ∷ 15 ∷ 16 ∷ 17 ∷ 18 ∷ 19 ∷ 20 ∷ 21 ∷ 22 ∷ 23 ∷ []

abbrev key32 : List ℕ
key32 = 0 ∷ 1 ∷ 2 ∷ 3 ∷ 4 ∷ 5 ∷ 6 ∷ 7 ∷ 8 ∷ 9 ∷ 10 ∷ 11 ∷ 12 ∷ 13 ∷ 14 ∷ 15 ∷ 16 ∷ 17 ∷ 18 ∷ 19 ∷ 20 ∷ 21 ∷ 22 ∷ 23 ∷ 24 ∷ 25 ∷ 26 ∷ 27 ∷ 28 ∷ 29 ∷ 30 ∷ 31 ∷ []

abbrev plaintext : List ℕ
plaintext = 0 ∷ 17 ∷ 34 ∷ 51 ∷ 68 ∷ 85 ∷ 102 ∷ 119 ∷ 136 ∷ 153 ∷ 170 ∷ 187 ∷ 204 ∷ 221 ∷ 238 ∷ 255 ∷ []

pub aes-appendix-c2 :
    encrypt 6 key24 plaintext
    ≡ 221 ∷ 169 ∷ 124 ∷ 164 ∷ 134 ∷ 76 ∷ 223 ∷ 224 ∷ 110 ∷ 175 ∷ 112 ∷ 160 ∷ 236 ∷ 13 ∷ 113 ∷ 145 ∷ []
unfolding tabulate number product remainder field_product mul squares inverse affine_bit affine sbox xor_word sub_word sub_bytes mix_column mix_columns add_round_key round_of last_round round_key rounds cipher power2 rcon schedule_core next_word schedule key_expansion encrypt
aes-appendix-c2 = refl

pub aes-appendix-c3 :
    encrypt 8 key32 plaintext
    ≡ 142 ∷ 162 ∷ 183 ∷ 202 ∷ 81 ∷ 103 ∷ 69 ∷ 191 ∷ 234 ∷ 252 ∷ 73 ∷ 144 ∷ 75 ∷ 73 ∷ 96 ∷ 137 ∷ []
unfolding tabulate number product remainder field_product mul squares inverse affine_bit affine sbox xor_word sub_word sub_bytes mix_column mix_columns add_round_key round_of last_round round_key rounds cipher power2 rcon schedule_core next_word schedule key_expansion encrypt
aes-appendix-c3 = refl
