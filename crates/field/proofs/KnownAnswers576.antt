-- Worked examples of the field of 2 ^ 576 elements, computed by the definitions. reference/tests derives the leaf hash too.
use mathlib.Core.Path.{◌≡◌, refl}
use mathlib.Core.List.{List, [], ◌∷◌}
use Prim.Native.Nat.{ℕ, ◌+◌, ◌^◌}
use Rattle.spec.specs.Bytes.{number}
use Rattle.spec.specs.Polynomials.{product, remainder, field_product}
use Rattle.spec.specs.LeafHash.{leaf_hash}
use Rattle.field.specs.Fields.{p576}

-- alpha ^ 575 times alpha
pub top-times-alpha : field_product 576 p576 2 (2 ^ 575) 2 ≡ 2 ^ 13 + 2 ^ 4 + 2 ^ 3 + 1
unfolding product remainder field_product
top-times-alpha = refl

-- LeafHash: a hash key, x0 and x1
abbrev u : List ℕ
u = 129 ∷ 136 ∷ 143 ∷ 150 ∷ 157 ∷ 164 ∷ 171 ∷ 178 ∷ 185 ∷ 192 ∷ 199 ∷ 206 ∷ 213 ∷ 220 ∷ 227 ∷ 234 ∷ 241 ∷ 248 ∷ 255 ∷ 6 ∷ 13 ∷ 20 ∷ 27 ∷ 34 ∷ 41 ∷ 48 ∷ 55 ∷ 62 ∷ 69 ∷ 76 ∷ 83 ∷ 90 ∷ 97 ∷ 104 ∷ 111 ∷ 118 ∷ 125 ∷ 132 ∷ 139 ∷ 146 ∷ 153 ∷ 160 ∷ 167 ∷ 174 ∷ 181 ∷ 188 ∷ 195 ∷ 202 ∷ 209 ∷ 216 ∷ 223 ∷ 230 ∷ 237 ∷ 244 ∷ 251 ∷ 2 ∷ 9 ∷ 16 ∷ 23 ∷ 30 ∷ 37 ∷ 44 ∷ 51 ∷ 58 ∷ 65 ∷ 72 ∷ 79 ∷ 86 ∷ 93 ∷ 100 ∷ 107 ∷ 114 ∷ []

abbrev x₀ : List ℕ
x₀ = 240 ∷ 251 ∷ 6 ∷ 17 ∷ 28 ∷ 39 ∷ 50 ∷ 61 ∷ 72 ∷ 83 ∷ 94 ∷ 105 ∷ 116 ∷ 127 ∷ 138 ∷ 149 ∷ 160 ∷ 171 ∷ 182 ∷ 193 ∷ 204 ∷ 215 ∷ 226 ∷ 237 ∷ []

abbrev x₁ : List ℕ
x₁ = 3 ∷ 8 ∷ 13 ∷ 18 ∷ 23 ∷ 28 ∷ 33 ∷ 38 ∷ 43 ∷ 48 ∷ 53 ∷ 58 ∷ 63 ∷ 68 ∷ 73 ∷ 78 ∷ 83 ∷ 88 ∷ 93 ∷ 98 ∷ 103 ∷ 108 ∷ 113 ∷ 118 ∷ 123 ∷ 128 ∷ 133 ∷ 138 ∷ 143 ∷ 148 ∷ 153 ∷ 158 ∷ 163 ∷ 168 ∷ 173 ∷ 178 ∷ 183 ∷ 188 ∷ 193 ∷ 198 ∷ 203 ∷ 208 ∷ 213 ∷ 218 ∷ 223 ∷ 228 ∷ 233 ∷ 238 ∷ 243 ∷ 248 ∷ 253 ∷ 2 ∷ 7 ∷ 12 ∷ 17 ∷ 22 ∷ 27 ∷ 32 ∷ 37 ∷ 42 ∷ 47 ∷ 52 ∷ 57 ∷ 62 ∷ 67 ∷ 72 ∷ 77 ∷ 82 ∷ 87 ∷ 92 ∷ 97 ∷ 102 ∷ []

pub leaf-hash :
    leaf_hash 576 p576 u x₀ x₁
    ≡ number 8
    (24 ∷ 231 ∷ 14 ∷ 152 ∷ 207 ∷ 39 ∷ 48 ∷ 222 ∷ 34 ∷ 241 ∷ 241 ∷ 199 ∷ 19 ∷ 50 ∷ 236 ∷ 153 ∷ 189 ∷ 167 ∷ 178 ∷ 159 ∷ 79 ∷ 149 ∷ 157 ∷ 42 ∷ 138 ∷ 21 ∷ 62 ∷ 175 ∷ 32 ∷ 40 ∷ 94 ∷ 100 ∷ 217 ∷ 180 ∷ 149 ∷ 62 ∷ 240 ∷ 197 ∷ 79 ∷ 74 ∷ 117 ∷ 48 ∷ 104 ∷ 151 ∷ 92 ∷ 125 ∷ 119 ∷ 85 ∷ 17 ∷ 168 ∷ 98 ∷ 25 ∷ 149 ∷ 29 ∷ 107 ∷ 146 ∷ 172 ∷ 178 ∷ 108 ∷ 73 ∷ 130 ∷ 78 ∷ 125 ∷ 100 ∷ 94 ∷ 67 ∷ 58 ∷ 46 ∷ 1 ∷ 6 ∷ 255 ∷ 29 ∷ [])
unfolding number product remainder field_product leaf_hash
leaf-hash = refl
