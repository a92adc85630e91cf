-- The list that planning makes on the way to an answer.
use Rattle.std.specs.Prelude.{ℕ, ◌≤◌, ◌≡◌, List, length, take}
use Rattle.spec.specs.declared.Shape.{Shape}
use Rattle.spec.specs.declared.Answer.{Answer}
use Rattle.spec.specs.Shapes.{planned}

-- with 0, where the list has room for T nodes, the planned nodes stand at its front
abbrev pub Listed : Shape → List ℕ → List ℕ → List ℕ → Answer → Type 0
Listed s ch before after r = r.number ≡ 0 → s.t ≤ length before → take r.count after ≡ planned s ch
