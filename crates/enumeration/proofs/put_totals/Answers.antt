-- The last line of the two numbers counted.
use Prim.Native.Nat.{ℕ}
use mathlib.Core.Path.{◌≡◌, ap₂, subst}
use mathlib.Core.List.{List}
use Rattle.listing_text.specs.Text.{pair_text}
use Rattle.listing_text.specs.Put.{Put}
use Rattle.enumeration.proofs.put_totals.Goals as goal

put_same : {t u before after : List ℕ} {at r : ℕ} → t ≡ u → Put t at before after r → Put u at before after r
put_same {t} {u} {before} {after} {at} {r} e p = subst (λ (text : List ℕ). Put text at before after r) e p

pub returns : goal.returns
returns c =
    let n = c.count_all-t.ensures in
    put_same (ap₂ pair_text n.0 n.1) c.put_pair.ensures.0
