-- What `xor_bytes` ensures of the part, with the digit 1.
use mathlib.Core.Path.{◌≡◌, ap, ◌∙◌}
use Prim.Native.Nat.{ℕ, ◌+◌, ◌-◌, ◌*◌}
use native.Mathlib.Nat.{one-mul, sub-zero}
use native.Mathlib.Omega.{arith}
use lib.ListN.{length, get_or}
use Rattle.spec.specs.Bytes.{part}
use Rattle.laws.proofs.Lists.{length_part, get_or-part}
use Rattle.columns.proofs.Adding.{behind-start, xored-same}
use Rattle.columns.proofs.add_part.Goals as goal

pub returns : goal.returns
returns c =
    let g = c.args in
    let l = g.bytes.now in
    let n = length g.sum.now in
    let m = g.at + n - g.at in
    xored-same 0 (0 + length (part l g.at m)) n (λ p. get_or l (g.at + p) 0) (λ p. 1 * get_or (part l g.at m) (p - 0) 0) g.sum.now _
    (let e = length_part l g.at m (omega arith) ∙ behind-start g.at n in omega arith)
    (λ p a b. one-mul (get_or (part l g.at m) (p - 0) 0) ∙ ap (λ (i : ℕ). get_or (part l g.at m) i 0) (sub-zero p) ∙ get_or-part l g.at m p (omega arith)) c.xor_bytes.ensures
