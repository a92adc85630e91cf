use mathlib.Core.Path.{◌≡◌, refl}
use native.Mathlib.Numerals.{add-one}
use native.Mathlib.Omega.{arith}
use lib.ListN.{get_or}
use Rattle.laws.proofs.Lists.{get_or-tabulate}
use Rattle.spec.specs.Keccak.{round_constant, first_rounds, keccak_f}
use Rattle.keccak.proofs.keccak_f.Goals as goal

pub loop-constant-init : goal.loop-constant-init
unfolding first_rounds
loop-constant-init c = refl

pub loop-constant-preserved : goal.loop-constant-preserved
unfolding first_rounds
loop-constant-preserved c =
    let i = c.loop-constant.constant-index in
    let constants = c.round_constants-constants in
    let constant : get_or constants.result i 0 ≡ round_constant i = rw constants.ensures (get_or-tabulate 24 round_constant i 0 (omega arith)) in
    rw (add-one i) (cc)

pub returns : goal.returns
unfolding keccak_f
returns c =
    let all : c.loop-constant.constant-index ≡ 24 = omega arith in
    cc
