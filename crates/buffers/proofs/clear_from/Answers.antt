-- The part from `at` on is filled, and nothing is behind it.
use mathlib.Core.Path.{◌≡◌, ap, ◌∙◌}
use mathlib.Core.List.{List, ◌++◌, append-nil}
use Prim.Native.Nat.{ℕ, ◌-◌}
use native.Mathlib.Omega.{arith}
use lib.ListN.{length, take, drop, length-drop, drop_of_length-le}
use lib.Seq.{length-take-le}
use Rattle.spec.specs.Bytes.{zeros}
use Rattle.buffers.proofs.clear_from.Goals as goal

pub returns : goal.returns
unfolding zeros
returns c =
    let g = c.args in
    let old = g.out.now in
    let n = length old - g.at in
    let long : length (take n (drop g.at old)) ≡ n = length-take-le n (drop g.at old) (simp length-drop (omega arith)) in
    let filled : c.fill.new.self ≡ zeros n = c.fill.ensures.after (λ y e. e) ∙ ap zeros long in
    ap (λ (x : List ℕ). take g.at old ++ (x ++ drop n (drop g.at old))) filled
    ∙ ap (λ (x : List ℕ). take g.at old ++ (zeros n ++ x)) (drop_of_length-le (drop g.at old) {i = n} (simp length-drop (omega arith)))
    ∙ ap (λ (x : List ℕ). take g.at old ++ x) (append-nil (zeros n))
