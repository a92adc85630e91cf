use mathlib.Core.Path.{◌≡◌, sym, ap, ap₂, ◌∙◌}
use mathlib.Core.List.{List}
use Prim.Native.Nat.{ℕ, ◌+◌, ◌-◌, ◌*◌}
use native.Mathlib.Omega.{arith}
use lib.Bits.{bit_xor, xor_zero_r}
use lib.ListN.{length, get_or, set, take, drop}
use Rattle.laws.proofs.Filling.{filled, filled_none, filled-set, filled-rest}
use Rattle.spec.specs.Bytes.{tabulate, number}
use Rattle.spec.specs.Sponge.{lane_of, xor_in}
use Rattle.shake.proofs.XorIn.{lane-none}
use Rattle.shake.proofs.xor_block.Invariants.{lane}
use Rattle.shake.proofs.xor_block.Goals as goal

pub loop-j-init : goal.loop-j-init
loop-j-init c = sym (filled_none (lane c.args.s c.args.block) c.args.s)

pub loop-j-preserved : goal.loop-j-preserved
unfolding lane_of
loop-j-preserved c =
    let l = c.loop-j in
    let s = c.args.s in
    let block = c.args.block in
    let all : length s ≡ 25 = c.well_formed.0.1.0.1 in
    let eight : 8 * l.j + 8 - 8 * l.j ≡ 8 = omega arith in
    let loaded : c.load_lane-v.result ≡ lane_of block l.j = c.load_lane-v.ensures ∙ ap (λ (n : ℕ). number 8 (take n (drop (8 * l.j) block))) eight in
    ap₂ (λ (t : List ℕ) (v : ℕ). set t l.j (bit_xor (get_or s l.j 0) v)) l.invariant loaded ∙ filled-set (lane s block) s l.j (omega arith)

pub returns : goal.returns
unfolding xor_in
returns c =
    let l = c.loop-j in
    let s = c.args.s in
    let block = c.args.block in
    let all : length s ≡ 25 = c.well_formed.0.1.0.1 in
    let end : length block ≡ 168 = c.well_formed.1.0.1.0.1 in
    let j : l.j ≡ 21 = omega arith in
    l.invariant
    ∙ ap (λ (n : ℕ). filled n (lane s block) s) j
    ∙ filled-rest (lane s block) s 21 (omega arith) (λ k ge lt. sym (ap (bit_xor (get_or s k 0)) (lane-none block k (omega arith)) ∙ xor_zero_r (get_or s k 0)))
    ∙ ap (λ (n : ℕ). tabulate n (lane s block)) all
