-- A list of eight bytes is its eight elements, and of these the number computes to the sum.
use native.Mathlib.Omega.{arith}
use mathlib.Core.Path.{◌≡◌, refl, sym, ap, ◌∙◌}
use Prim.Native.Nat.{◌+◌, ◌*◌}
use lib.ListN.{get_or}
use Rattle.laws.proofs.Lists.{is-tabulate}
use Rattle.spec.specs.Bytes.{tabulate, number}
use Rattle.shake.proofs.load_lane.Goals as goal

pub returns : goal.returns
unfolding tabulate number
returns c =
    let p = c.args.p.now in
    let at = get_or p in
    let read = c.from_le_bytes.ensures in
    let sum : c.from_le_bytes.result ≡ at 0 0 + (at 1 0 + (at 2 0 + (at 3 0 + (at 4 0 + (at 5 0 + (at 6 0 + (at 7 0 + 0) * 256) * 256) * 256) * 256) * 256) * 256) * 256 =
    omega arith in
    sum ∙ ap (number 8) (sym (is-tabulate 8 (λ i. at i 0) 0 p c.requires (λ i h. refl)))
