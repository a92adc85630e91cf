-- A step of MIXCOLUMNS on a whole word.
use Rattle.std.specs.Prelude.{List, ℕ, get_or}
use Rattle.spec.specs.Gf256.{mul}
use Rattle.spec.specs.Aes.{word}

-- FIPS 197, section 4.2: XTIMES, the product with {02}, of each byte
abbrev pub xtimes_word : List ℕ → List ℕ
xtimes_word a = word (λ r. mul 2 (get_or a r 0))
