-- Document 000, figures 5.4 and 5.5; document 01, "Challenge, nodes and opening": the single tree over L leaves, which nodes are covered and which are
-- revealed. Node a below L - 1 has the children 2 a + 1 and 2 a + 2; nodes L - 1 to 2 L - 2 are the leaves. Hidden leaves are given as a list,
-- whatever shape and challenge they come from.
use Rattle.std.specs.Prelude.{ℕ, zero, suc, ◌+◌, ◌-◌, ◌*◌, ◌/◌, Bool, true, false, ◌||◌, List, [], ◌∷◌, ◌++◌, ltb, eqb, length}
use Rattle.spec.specs.Bytes.{part}

-- the parent of a node; the root counts as its own
unfoldable pub parent : ℕ → ℕ
parent x = (x - 1) / 2

-- going up from x, at most n times while x is past a, ends at a
unfoldable pub is_ancestor_within : ℕ → ℕ → ℕ → Bool
is_ancestor_within zero a x = eqb a x
is_ancestor_within (suc n) a x = elim (ltb a x) [ true ↦ is_ancestor_within n a (parent x) | false ↦ eqb a x ]

-- x is a, or lies beneath it. Each step up lowers the number, so x + 1 steps are enough.
unfoldable pub is_ancestor : ℕ → ℕ → Bool
is_ancestor a x = is_ancestor_within (suc x) a x

-- some member of the list passes the test
unfoldable pub some : (ℕ → Bool) → List ℕ → Bool
some p [] = false
some p (x ∷ xs) = p x || some p xs

-- document 01's "covered": a is a hidden leaf or has one beneath it
unfoldable pub covered : List ℕ → ℕ → Bool
covered hidden a = some (is_ancestor a) hidden

-- what node a reveals, by whether its left and right child are covered: with exactly one covered, the other
unfoldable pub sibling_to_reveal : Bool → Bool → ℕ → List ℕ
sibling_to_reveal true false a = (2 * a + 2) ∷ []
sibling_to_reveal false true a = (2 * a + 1) ∷ []
sibling_to_reveal true true a = []
sibling_to_reveal false false a = []

-- what nodes a - 1 down to 0 reveal, where c tells the covered nodes
unfoldable pub revealed_from : (ℕ → Bool) → ℕ → List ℕ
revealed_from c zero = []
revealed_from c (suc a) = sibling_to_reveal (c (2 * a + 1)) (c (2 * a + 2)) a ++ revealed_from c a

-- the revealed nodes in the order of the opening, from node L - 2 down to node 0, and document 01's "node count"
unfoldable pub revealed : ℕ → List ℕ → List ℕ
revealed L hidden = revealed_from (covered hidden) (L - 1)

unfoldable pub node_count : ℕ → List ℕ → ℕ
node_count L hidden = length (revealed L hidden)

-- figure 5.4, Commit, lines 5 to 7: the bytes of a tree, node after node, w bytes each. `first` is node 0; `children a x` are the two children of node a,
-- whose bytes are x; n nodes have been expanded
unfoldable pub expand_tree : ℕ → List ℕ → (ℕ → List ℕ → List ℕ) → ℕ → List ℕ
expand_tree w first children zero = first
expand_tree w first children (suc n) = expand_tree w first children n ++ children n (part (expand_tree w first children n) (w * n) w)
