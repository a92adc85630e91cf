-- What the laws of planning speak of beside the definitions of spec: lists of leaves, descending lists, lists without duplicates, and which numbers, and how
-- many, pass a test.
use Rattle.std.specs.Prelude.{ℕ, zero, suc, ◌+◌, ◌-◌, ◌*◌, ◌≤◌, ◌<◌, ◌≡◌, Bool, false, cond, List, [], ◌∷◌, eqb}
use Rattle.spec.specs.Tree.{some, covered}

-- every member is a leaf of the tree with L leaves
abbrev pub Leaves : ℕ → List ℕ → Type 0
Leaves L [] = Unit {0}
Leaves L (x ∷ xs) = (L ≤ x + 1) × (x + 1 < 2 * L) × Leaves L xs

-- every member is below b; each member is above those after it
abbrev pub Below : ℕ → List ℕ → Type 0
Below b [] = Unit {0}
Below b (y ∷ ys) = (y < b) × Below b ys

abbrev pub Descending : List ℕ → Type 0
Descending [] = Unit {0}
Descending (x ∷ xs) = Below x xs × Descending xs

-- no member stands twice
abbrev pub WithoutDuplicates : List ℕ → Type 0
WithoutDuplicates [] = Unit {0}
WithoutDuplicates (x ∷ xs) = (some (eqb x) xs ≡ false) × WithoutDuplicates xs

-- how many numbers below n pass the test
unfoldable pub tally : (ℕ → Bool) → ℕ → ℕ
tally c zero = 0
tally c (suc n) = cond (c n) 1 0 + tally c n

-- document 000's n_h (figure 5.4): how many nodes of the tree with L leaves are covered
unfoldable pub covered_count : ℕ → List ℕ → ℕ
covered_count L hidden = tally (covered hidden) (2 * L - 1)

-- the numbers below n that pass the test, largest first
unfoldable pub passing : (ℕ → Bool) → ℕ → List ℕ
passing c zero = []
passing c (suc n) = cond (c n) (n ∷ passing c n) (passing c n)

-- the covered nodes of the tree with L leaves, largest first
unfoldable pub covered_nodes : ℕ → List ℕ → List ℕ
covered_nodes L hidden = passing (covered hidden) (2 * L - 1)
