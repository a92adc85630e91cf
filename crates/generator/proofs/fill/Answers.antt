-- The schedule is the key's.
use Rattle.std.proofs.Common.{◌≡◌, ℕ, arith, subst}
use Rattle.aes_keys.specs.RoundKeys.{words}
use Rattle.aes_keys.specs.Scheduled.{Expands}
use Rattle.generator.proofs.fill.Goals as goal

pub returns : goal.returns
returns c = λ nk e.
    let g = c.args in
    let four : words g.key.now ≡ nk = omega arith in
    c.fill_keyed.ensures nk g.key.now (subst (λ (n : ℕ). Expands n g.key.now c.new-schedule.result) four c.new-schedule.ensures)
