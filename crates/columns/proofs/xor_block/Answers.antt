-- The two cases have one promise. A whole block starts at its byte 0.
use mathlib.Core.Path.{◌≡◌, ap, ◌∙◌}
use Prim.Native.Nat.{ℕ, ◌+◌, ◌-◌, ◌*◌}
use native.Mathlib.Nat.{one-mul}
use native.Mathlib.Omega.{arith}
use borrow.Author.Rules.{rules}
use lib.ListN.{length, get_or}
use Rattle.spec.specs.Bytes.{part}
use Rattle.laws.proofs.Lists.{length_part, get_or-part}
use Rattle.columns.proofs.Adding.{xored-same}
use Rattle.columns.proofs.xor_block.Goals as goal

pub returns-then-n-eq16 : goal.returns-then-n-eq16
returns-then-n-eq16 c =
    let g = c.args in
    xored-same g.at (g.at + 16) (g.at + g.n) (λ p. get_or g.block (g.from + (p - g.at)) 0) (λ p. get_or g.block (p - g.at) 0) g.d.now _ (omega arith)
    (λ p a b. ap (λ (i : ℕ). get_or g.block i 0) (omega arith)) c.xor_16.ensures

pub returns-else-n-eq16 : goal.returns-else-n-eq16
returns-else-n-eq16 c =
    let g = c.args in
    let l = g.block in
    let long : length l ≡ 16 = search rules in
    let m = g.from + g.n - g.from in
    let n : m ≡ g.n = omega arith in
    xored-same g.at (g.at + length (part l g.from m)) (g.at + g.n) (λ p. get_or l (g.from + (p - g.at)) 0) (λ p. 1 * get_or (part l g.from m) (p - g.at) 0)
    g.d.now _ (ap (λ (i : ℕ). g.at + i) (length_part l g.from m (omega arith) ∙ n))
    (λ p a b. one-mul (get_or (part l g.from m) (p - g.at) 0) ∙ get_or-part l g.from m (p - g.at) (omega arith)) c.xor_bytes.ensures
