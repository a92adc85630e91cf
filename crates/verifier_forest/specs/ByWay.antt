-- A tree of depth d whose leaf j is hidden, written along the way from the root to that leaf. Nodes have w bytes.
use Rattle.std.specs.Prelude.{ℕ, ◌+◌, ◌-◌, ◌*◌, ◌<◌, ◌≡◌, true, List, take}
use Rattle.spec.specs.declared.Shape.{Shape}
use Rattle.spec.specs.Bytes.{part, zeros}
use Rattle.spec.specs.Shapes.{node_bytes, depth_of, shape_ok, hidden_index}
use Rattle.spec.specs.Version1.{slot1}

-- the children of node a are written: child b is zeros, the other is the slot, and the nodes before them are as they were
pub record CoveredPair (w a b : ℕ) (slot old new : List ℕ) : Type 0 where
  pub front : take (w * (2 * a + 1)) new ≡ take (w * (2 * a + 1)) old
  pub cleared : part new (w * (2 * a + 1 + b)) w ≡ zeros w
  pub copied : part new (w * (2 * a + 2 - b)) w ≡ slot

-- the tree is that of vector i of a shape and a challenge, and the slots in front are those of its decommitment
pub record VectorOf (w d j : ℕ) (slots : List ℕ) (s : Shape) (ch opening : List ℕ) (i : ℕ) : Type 0 where
  pub shape : shape_ok s ≡ true
  pub width : w ≡ node_bytes s
  pub depth : d ≡ depth_of s i
  pub index : j ≡ hidden_index s ch i
  pub given : (l : ℕ) → l < d → part slots (w * l) w ≡ slot1 s opening i l
