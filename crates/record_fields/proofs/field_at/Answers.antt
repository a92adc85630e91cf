-- The part's end less its start is n.
use mathlib.Core.Path.{◌≡◌, ap}
use Prim.Native.Nat.{ℕ, ◌+◌, ◌-◌}
use native.Mathlib.Omega.{arith}
use lib.ListN.{take, drop}
use Rattle.record_fields.proofs.field_at.Goals as goal

pub returns : goal.returns
returns c =
    let g = c.args in
    ap (λ (m : ℕ). take m (drop (g.at + 4) g.bytes.now)) (let z : g.at + 4 + g.n - (g.at + 4) ≡ g.n = omega arith in z)
