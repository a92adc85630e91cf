-- The cipher with the key whose schedule it is, of the state of its bytes.
use mathlib.Core.Path.{◌≡◌, ap, subst, ◌∙◌}
use Prim.Native.Nat.{ℕ}
use native.Mathlib.Omega.{arith}
use borrow.Author.Rules.{rules}
use lib.ListN.{length}
use Rattle.spec.specs.Aes.{bytes_of, cipher, key_expansion, encrypt}
use Rattle.aes_keys.specs.RoundKeys.{words}
use Rattle.aes_keys.specs.Scheduled.{Expands}
use Rattle.bench_exports.proofs.rattle_schedule_and_block.Goals as goal

pub returns : goal.returns
unfolding encrypt
returns c =
    let key = c.args.key.now in
    let long : length key ≡ 16 = search rules in
    let four : words key ≡ 4 = omega arith in
    c.bytes_of-r.ensures
    ∙ ap bytes_of (c.encrypt.ensures 4 key (subst (λ (n : ℕ). Expands n key c.new-schedule.result) four c.new-schedule.ensures)
    ∙ ap (cipher 10 (key_expansion 4 key)) c.load_state.ensures)
