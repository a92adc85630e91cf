-- A vector has 2 to the power of its depth entries.
use Prim.Native.Nat.{ℕ, ◌^◌}
use mathlib.Core.Path.{ap, ◌∙◌}
use Rattle.spec.specs.Shapes.{entries_of}
use Rattle.rules.proofs.entry_count.Goals as goal

pub returns : goal.returns
unfolding entries_of
returns c = (let e = c.power.ensures in (e.0 ∙ ap (λ (n : ℕ). 2 ^ n) c.depth_of.ensures.0, e.1, e.2))
