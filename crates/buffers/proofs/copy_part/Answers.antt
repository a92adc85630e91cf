-- `copy` fills the part lent, since both parts have n bytes.
use mathlib.Core.Path.{◌≡◌, ap, ap₂, ◌∙◌}
use mathlib.Core.List.{List, ◌++◌, append-nil}
use Prim.Native.Nat.{ℕ, ◌+◌, ◌-◌}
use native.Mathlib.Omega.{arith}
use lib.ListN.{length, take, drop_of_length-le}
use Rattle.spec.specs.Bytes.{part}
use Rattle.laws.proofs.Lists.{length_part}
use Rattle.laws.proofs.Putting.{behind}
use Rattle.buffers.proofs.copy_part.Goals as goal

pub returns : goal.returns
returns c =
    let g = c.args in
    let one : g.from + g.n - g.from ≡ g.n = omega arith in
    let two : g.at + g.n - g.at ≡ g.n = omega arith in
    let x = part g.src.now g.from (g.from + g.n - g.from) in
    let y = part g.dst.now g.at (g.at + g.n - g.at) in
    let lx : length x ≡ g.n = ap (λ (m : ℕ). length (part g.src.now g.from m)) one ∙ length_part g.src.now g.from g.n (omega arith) in
    let ly : length y ≡ g.n = ap (λ (m : ℕ). length (part g.dst.now g.at m)) two ∙ length_part g.dst.now g.at g.n (omega arith) in
    let copied =
    c.copy.ensures
    ∙ ap (λ (b : List ℕ). x ++ b) (drop_of_length-le y {i = length x} (omega arith))
    ∙ append-nil x
    ∙ ap (part g.src.now g.from) one
    in
    ap₂ (λ (a b : List ℕ). take g.at g.dst.now ++ (a ++ b)) copied (behind g.at g.n g.dst.now)
