-- After m turns the first m nodes stand behind the bytes before `at`.
use mathlib.Core.Path.{◌≡◌, ◌∙◌}
use mathlib.Core.List.{List, ◌++◌}
use Prim.Native.Nat.{ℕ, ◌+◌, ◌-◌, ◌*◌, ◌≤◌}
use lib.ListN.{length, get_or, take}
use Rattle.spec.specs.Bytes.{part, concat}
use Rattle.opening.proofs.write_nodes.Given as goal

abbrev pub listed : ℕ → List ℕ → List ℕ → ℕ → List ℕ
listed w nodes tree m = part tree (w * get_or nodes m 0) w

abbrev pub invariant-loop-m : goal.invariant-loop-m
invariant-loop-m l = (length l.out ≡ length l.initial.out) × (take (l.at + l.w * l.m) l.out ≡ take l.at l.initial.out ++ concat l.m (listed l.w l.nodes l.tree))
