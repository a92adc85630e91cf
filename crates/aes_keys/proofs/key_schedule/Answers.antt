-- The schedule of the key's length.
use mathlib.Core.Path.{◌≡◌, subst}
use Prim.Native.Nat.{ℕ, ◌/◌}
use native.Mathlib.Omega.{arith}
use lib.ListN.{length}
use Rattle.aes_keys.specs.RoundKeys.{Keyed}
use Rattle.aes_keys.proofs.key_schedule.Goals as goal

pub returns-then-n-eq16 : goal.returns-then-n-eq16
returns-then-n-eq16 c =
    let g = c.args in
    let e : 4 ≡ length g.key.now / 4 = omega arith in
    subst (λ (n : ℕ). Keyed n g.key.now c.schedule_128.result) e c.schedule_128.ensures

pub returns-then-n-eq24 : goal.returns-then-n-eq24
returns-then-n-eq24 c =
    let g = c.args in
    let e : 6 ≡ length g.key.now / 4 = omega arith in
    subst (λ (n : ℕ). Keyed n g.key.now c.schedule_192.result) e c.schedule_192.ensures

pub returns : goal.returns
returns c =
    let g = c.args in
    let e : 8 ≡ length g.key.now / 4 = omega arith in
    subst (λ (n : ℕ). Keyed n g.key.now c.schedule_256.result) e c.schedule_256.ensures
