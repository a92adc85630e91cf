-- What `Sponge::h1` ensures, of three parts.
use mathlib.Core.Path.{◌≡◌, ap, ◌∙◌}
use mathlib.Core.List.{List, [], ◌++◌}
use Prim.Native.Nat.{ℕ, ◌+◌, ◌-◌, ◌*◌}
use lib.ListN.{length, take}
use Rattle.spec.specs.Hashes.{hash1}
use Rattle.laws.proofs.Parts.{to_the_end}
use Rattle.shake.proofs.Absorbing.{absorbs_more}
use Rattle.verifier_vector.proofs.hash_vector.Goals as goal

pub returns : goal.returns
returns c =
    let g = c.args in
    let l = g.lcs.now in
    let hidden = g.hidden.now in
    let at = g.w * g.d in
    let made = c.new.ensures in
    let all = absorbs_more c.absorb.ensures (absorbs_more c.absorb-2.ensures c.absorb-3.ensures) in
    rw (all.rate, made.0) at (c.h1.ensures _ (all.holds [] made.1))
    ∙ ap (λ (y : List ℕ). hash1 g.r (take at l ++ (hidden ++ y)) (length g.hash.now)) (to_the_end l (at + g.w))
