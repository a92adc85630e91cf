-- Nodes at the front of a list that has room for them. By what a written list is.
use Prim.Native.Nat.{ℕ, ◌+◌, ◌≤◌}
use mathlib.Core.Path.{◌≡◌, refl, sym, ap, ◌∙◌}
use mathlib.Core.List.{List}
use native.Mathlib.Omega.{arith}
use lib.ListN.{length, take, drop}
use lib.Seq.{sets, sets-eq, take_at}
use Rattle.spec.specs.declared.Shape.{Shape}
use Rattle.spec.specs.Tree.{node_count}
use Rattle.spec.specs.Shapes.{planned, planned_count}

pub planned-length : (s : Shape) (ch : List ℕ) → length (planned s ch) ≡ planned_count s ch
unfolding planned planned_count node_count
planned-length s ch = refl

-- a list stored at the front of another that has room
pub stored-front : (xs list : List ℕ) (n : ℕ) → length xs ≡ n → n ≤ length list → take n (sets list 0 xs) ≡ xs
stored-front xs list n size l = ap (take n) (sets-eq xs list 0 (omega arith)) ∙ take_at xs (drop (0 + length xs) list) n size

pub planned-front : (s : Shape) (ch list : List ℕ) (n : ℕ) → n ≡ planned_count s ch → n ≤ length list → take n (sets list 0 (planned s ch)) ≡ planned s ch
planned-front s ch list n c l = stored-front (planned s ch) list n (planned-length s ch ∙ sym c) l
