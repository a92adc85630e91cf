-- E9 and E11 of document 02: no opening needs fewer nodes than the planned ones, and how far one hidden index moves their count. ../proofs/Fewest.antt and
-- ../proofs/OneIndex.antt prove them.
use Rattle.std.specs.Prelude.{ℕ, ◌+◌, ◌-◌, ◌*◌, ◌^◌, ◌≤◌, ◌<◌, ◌≡◌, true, not, List, eqb, length, get_or}
use Rattle.spec.specs.declared.Shape.{Shape}
use Rattle.spec.specs.Tree.{is_ancestor, some, revealed}
use Rattle.spec.specs.Shapes.{resolved, shape_ok, leaves, hidden_index, hidden_leaves, planned, planned_count}
use Rattle.planning_laws.specs.Lists.{Leaves, WithoutDuplicates}

-- leaf y is beneath one of the nodes, a leaf being beneath itself, exactly if it is not hidden
abbrev pub RevealedAt : List ℕ → List ℕ → ℕ → Type 0
RevealedAt hidden nodes y = some (λ a. is_ancestor a y) nodes ≡ not (some (eqb y) hidden)

-- the leaves beneath the nodes are together exactly the leaves of the tree with L leaves that are not hidden
abbrev pub Reveals : ℕ → List ℕ → List ℕ → Type 0
Reveals L hidden nodes = (y : ℕ) → L ≤ y + 1 → y + 1 < 2 * L → RevealedAt hidden nodes y

-- the nodes are nodes of the tree, which has 2 L - 1, and such nodes; each stands once in the list, and no such list is shorter, whatever numbers it holds
pub record Fewest (L : ℕ) (hidden nodes : List ℕ) : Type 0 where
  pub within : (m : ℕ) → m < length nodes → get_or nodes m 0 + 1 < 2 * L
  pub reveals : Reveals L hidden nodes
  pub distinct : WithoutDuplicates nodes
  pub fewest : (others : List ℕ) → Reveals L hidden others → length nodes ≤ length others

-- E9, over the tree alone: for every L and every list of hidden leaves that is not empty (with nothing hidden the root alone would do, and nothing is
-- revealed), and so for every shape and challenge, whatever its grinding bits and whether or not the count exceeds T
pub record NoSmallerOpening : Type 0 where
  pub of-leaves : (L : ℕ) (hidden : List ℕ) → Leaves L hidden → 1 ≤ length hidden → Fewest L hidden (revealed L hidden)
  pub of-challenge :
      (s : Shape) (ch : List ℕ)
      → shape_ok (resolved s) ≡ true
      → Fewest (leaves (resolved s)) (hidden_leaves (resolved s) ch) (planned (resolved s) ch)

-- D is the least number with 2^D at or above L
pub record LeastPower (L D : ℕ) : Type 0 where
  pub reaches : L ≤ 2 ^ D
  pub least : (d : ℕ) → L ≤ 2 ^ d → D ≤ d

-- m and n differ by at most d
abbrev pub Within : ℕ → ℕ → ℕ → Type 0
Within d m n = (m ≤ n + d) × (n ≤ m + d)

-- E11: two challenges of one shape that agree in every hidden index but that of vector v, whatever their grinding bits; and that D exists
pub record OneIndexMoves : Type 0 where
  pub moves :
      (s : Shape) (ch ch' : List ℕ) (v D : ℕ)
      → shape_ok (resolved s) ≡ true
      → v < (resolved s).tau
      → ((i : ℕ) → i < (resolved s).tau → (i ≡ v → ⊥) → hidden_index (resolved s) ch i ≡ hidden_index (resolved s) ch' i)
      → LeastPower (leaves (resolved s)) D
      → Within (D - 1) (planned_count (resolved s) ch) (planned_count (resolved s) ch')
  pub least-power : (L : ℕ) → (D : ℕ) × LeastPower L D
