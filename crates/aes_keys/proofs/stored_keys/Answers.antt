-- Round key by round key.
use mathlib.Core.Path.{◌≡◌, refl, sym, ap₂, ◌∙◌}
use mathlib.Core.List.{[], ◌∷◌}
use borrow.Author.Rules.{rules}
use lib.ListN.{length, get_or}
use Rattle.spec.specs.Bytes.{tabulate}
use Rattle.laws.proofs.Lists.{is-tabulate}
use Rattle.aes_keys.proofs.stored_keys.Goals as goal

pub returns : goal.returns
unfolding tabulate
returns c =
    let keys = c.args.keys.now in
    let e : length keys ≡ 15 = search rules in
    let all = is-tabulate 15 (λ i. get_or keys i []) [] keys e (λ i h. refl) in
    ap₂ ◌∷◌ c.stored.ensures (ap₂ ◌∷◌ c.stored-2.ensures (ap₂ ◌∷◌ c.stored-3.ensures (ap₂ ◌∷◌ c.stored-4.ensures (ap₂ ◌∷◌ c.stored-5.ensures (ap₂ ◌∷◌ c.stored-6.ensures (ap₂ ◌∷◌ c.stored-7.ensures (ap₂ ◌∷◌ c.stored-8.ensures (ap₂ ◌∷◌ c.stored-9.ensures (ap₂ ◌∷◌ c.stored-10.ensures (ap₂ ◌∷◌ c.stored-11.ensures (ap₂ ◌∷◌ c.stored-12.ensures (ap₂ ◌∷◌ c.stored-13.ensures (ap₂ ◌∷◌ c.stored-14.ensures (ap₂ ◌∷◌ c.stored-15.ensures refl))))))))))))))
    ∙ sym all
