-- A list of 16 elements is these elements.
use Rattle.std.proofs.Common.{get_or, sym, refl, ap, ◌∙◌}
use Rattle.spec.specs.Bytes.{tabulate}
use Rattle.spec.specs.Aes.{bytes_of}
use Rattle.laws.proofs.Lists.{is-tabulate}
use Rattle.generator.proofs.load_iv.Goals as goal

pub returns : goal.returns
unfolding tabulate
returns c =
    let s = c.args.s.now in
    c.bytes_of.ensures
    ∙ ap bytes_of c.load_state.ensures
    ∙ sym (is-tabulate 16 (λ i. get_or s i 0) 0 s c.requires (λ i h. refl))
