-- The zeros above an element add nothing to its number.
use Rattle.std.proofs.Common.{◌++◌, ◌-◌, ap, ◌∙◌}
use lib.ListN.{drop}
use Rattle.spec.specs.Bytes.{number, zeros}
use Rattle.laws.proofs.Strings.{drop-zeros}
use Rattle.field.proofs.Elements.{number-padded}
use Rattle.field.proofs.padded.Goals as goal

pub returns : goal.returns
unfolding zeros
returns g c =
    let n = g.row.N in
    let x = c.args.x in
    ap (λ l. number 64 (l ++ drop n (zeros 12))) c.copy_from_slice.ensures.after ∙ ap (λ l. number 64 (x ++ l)) (drop-zeros n 12) ∙ number-padded x (12 - n)
