-- Document 01, "The listing program": the bytes of the output. Texts are ASCII.
use Rattle.std.specs.Prelude.{ℕ, zero, suc, ◌+◌, ◌/◌, ◌%◌, cond, List, [], ◌∷◌, ◌++◌, ltb, get_or}
use Rattle.spec.specs.Bytes.{concat}

-- a number in decimal, without leading zeros; `suc n` steps are more than it has digits
unfoldable pub decimal_within : ℕ → ℕ → List ℕ
decimal_within zero n = []
decimal_within (suc steps) n = cond (ltb n 10) [] (decimal_within steps (n / 10)) ++ ((48 + n % 10) ∷ [])

unfoldable pub decimal : ℕ → List ℕ
decimal n = decimal_within (suc n) n

-- `refused ` and the number
unfoldable pub refused_text : ℕ → List ℕ
refused_text n = (114 ∷ 101 ∷ 102 ∷ 117 ∷ 115 ∷ 101 ∷ 100 ∷ 32 ∷ []) ++ (decimal n ++ (10 ∷ []))

-- two numbers with a space between them
unfoldable pub pair_text : ℕ → ℕ → List ℕ
pair_text m n = (decimal m ++ (32 ∷ [])) ++ (decimal n ++ (10 ∷ []))

-- `nodes ` and the count, then each node on its own line
unfoldable pub nodes_text : List ℕ → ℕ → List ℕ
nodes_text nodes count =
    ((110 ∷ 111 ∷ 100 ∷ 101 ∷ 115 ∷ 32 ∷ []) ++ (decimal count ++ (10 ∷ []))) ++ concat count (λ m. decimal (get_or nodes m 0) ++ (10 ∷ []))
