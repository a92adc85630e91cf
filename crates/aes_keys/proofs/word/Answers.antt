-- The four bytes, whose places the definition counts from the word's first.
use mathlib.Core.Path.{sym, ap}
use mathlib.Core.List.{[], ◌∷◌}
use Prim.Native.Nat.{ℕ, ◌+◌, ◌*◌}
use native.Mathlib.Nat.{add-zero}
use lib.ListN.{get_or}
use Rattle.aes_keys.proofs.word.Goals as goal

pub returns : goal.returns
returns c =
    let b = c.args.b.now in
    let at = 4 * c.args.i in
    ap (λ (n : ℕ). get_or b n 0 ∷ get_or b (at + 1) 0 ∷ get_or b (at + 2) 0 ∷ get_or b (at + 3) 0 ∷ []) (sym (add-zero at))
