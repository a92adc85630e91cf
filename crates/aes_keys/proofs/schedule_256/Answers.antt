-- The first eight round keys and the later seven, one after the other.
use mathlib.Core.Path.{ap, ap₂}
use mathlib.Core.List.{List, [], ◌∷◌}
use Prim.Native.Nat.{ℕ}
use lib.ListN.{get_or}
use Rattle.spec.specs.Bytes.{tabulate}
use Rattle.aes_keys.specs.RoundKeys.{round_keys}
use Rattle.aes_keys.proofs.schedule_256.Goals as goal

pub returns : goal.returns
unfolding tabulate round_keys
returns c =
    let key = c.args.key.now in
    let e = c.first_keys-a.ensures in
    let at : ℕ → List (List (List ℕ)) → List (List ℕ) = λ i x. get_or x i [] in
    let l = c.later_keys-b.ensures key (ap (at 6) e) (ap (at 7) e) in
    ap₂ (λ (a b : List (List (List ℕ))). at 0 a ∷ at 1 a ∷ at 2 a ∷ at 3 a ∷ at 4 a ∷ at 5 a ∷ at 6 a ∷ at 7 a ∷ at 0 b ∷ at 1 b ∷ at 2 b ∷ at 3 b ∷ at 4 b ∷ at 5 b ∷ at 6 b ∷ []) e l
