-- The tree that a list of covered nodes, largest first, and the slots of an opening give. n slots are used, and they are read from slot n - 1 down. The tree is written
-- upward, so the list is read from its end.
use Rattle.std.specs.Prelude.{ℕ, ◌+◌, ◌-◌, ◌*◌, ◌<◌, ◌≡◌, Bool, ◌||◌, cond, List, [], ◌∷◌, ◌++◌, eqb, leb, length}
use Rattle.spec.specs.declared.Shape.{Shape}
use Rattle.spec.specs.Bytes.{part, zeros}
use Rattle.spec.specs.Tree.{some, revealed_from}
use Rattle.spec.specs.Primitives.{faest}
use Rattle.spec.specs.Leaves.{children}
use Rattle.verifier_tree.specs.declared.Place.{Place}

-- node x is in the list
unfoldable pub listed : List ℕ → ℕ → Bool
listed nodes x = some (eqb x) nodes

-- how many of the list are at or after x
unfoldable pub at_or_after : List ℕ → ℕ → ℕ
at_or_after [] x = 0
at_or_after (y ∷ ys) x = cond (leb x y) 1 0 + at_or_after ys x

-- c holds of a node below `inner` exactly if it holds of one of its children
abbrev pub ByChildren : (ℕ → Bool) → ℕ → Type 0
ByChildren c inner = (a : ℕ) → a < inner → c a ≡ (c (2 * a + 1) || c (2 * a + 2))

-- how many slots are read once the nodes before a have their children: as many as they reveal
unfoldable pub read_before : List ℕ → ℕ → ℕ
read_before nodes a = length (revealed_from (listed nodes) a)

-- where the writing stands once the nodes before a have their children
abbrev pub Before : List ℕ → ℕ → Place → Type 0
Before nodes a p = (p.node ≡ at_or_after nodes a) × (p.child ≡ at_or_after nodes (2 * a + 1)) × (p.read ≡ read_before nodes a)

-- how many are read once node x stands, a child of a listed node, where `read` were read before
unfoldable pub read_with : List ℕ → ℕ → ℕ → ℕ
read_with nodes x read = cond (listed nodes x) read (read + 1)

-- node x, of w bytes, a child of a listed node: zeros if it is listed too, else the next slot
unfoldable pub node_by : ℕ → List ℕ → List ℕ → ℕ → ℕ → ℕ → List ℕ
node_by w nodes slots n read x = cond (listed nodes x) (zeros w) (part slots (w * (n - (read + 1))) w)

-- the two children of node a, whose bytes are x
unfoldable pub children_by : ℕ → List ℕ → List ℕ → ℕ → Shape → List ℕ → ℕ → List ℕ → List ℕ
children_by w nodes slots n s iv a x =
    cond (listed nodes a)
    (node_by w nodes slots n (read_before nodes a) (2 * a + 1) ++ node_by w nodes slots n (read_before nodes a) (2 * a + 2))
    (children faest s iv a x)
