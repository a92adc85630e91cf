use mathlib.Core.Path.{◌≡◌, sym, ap, ap₂, ◌∙◌}
use mathlib.Core.List.{List, ◌++◌}
use Prim.Native.Nat.{ℕ, ◌+◌, ◌-◌, ◌*◌, ◌/◌, ◌%◌, ◌^◌}
use native.Mathlib.Omega.{arith}
use lib.ListN.{length, get_or, take, drop}
use Rattle.laws.proofs.Division.{quotient, remainder}
use Rattle.laws.proofs.Filling.{filled, filled_none, filled_put, filled-end, length-filled}
use Rattle.laws.proofs.Lists.{tabulate-same}
use Rattle.spec.specs.Bytes.{tabulate, zeros, digits}
use Rattle.spec.specs.Sponge.{state_byte}
use Rattle.shake.proofs.state_bytes.Goals as goal

-- the digits of lane j are the bytes of the state from 8 j on
lane-bytes : (s : List ℕ) (j : ℕ) → digits 8 8 (get_or s j 0) ≡ tabulate 8 (λ i. state_byte s (8 * j + i))
unfolding digits state_byte
lane-bytes s j =
    tabulate-same 8 (λ i. get_or s j 0 / 2 ^ (8 * i) % 2 ^ 8) (λ i. state_byte s (8 * j + i))
    (λ i h. sym (ap₂ (λ (q r : ℕ). get_or s q 0 / 2 ^ (8 * r) % 256) (quotient 8 j h) (remainder 8 j h)))

pub loop-j-init : goal.loop-j-init
unfolding zeros
loop-j-init c = sym (filled_none (state_byte c.args.s) (zeros 168))

pub slice_bounds-block-end : goal.slice_bounds-block-end
unfolding zeros
slice_bounds-block-end c =
    let l = c.loop-j in
    let same = ap length l.invariant ∙ length-filled (state_byte c.args.s) (zeros 168) (8 * l.j) (omega arith) in
    omega arith

pub loop-j-preserved : goal.loop-j-preserved
unfolding zeros
loop-j-preserved c =
    let s = c.args.s in
    let l = c.loop-j in
    let ys = c.store_lane.new.out in
    let eight : 8 * l.j + 8 - 8 * l.j ≡ 8 = omega arith in
    let next : 8 * (l.j + 1) ≡ 8 * l.j + 8 = omega arith in
    ap₂ (λ (n : ℕ) (t : List ℕ). take (8 * l.j) t ++ (ys ++ drop n (drop (8 * l.j) t))) eight l.invariant
    ∙ filled_put (state_byte s) (zeros 168) (8 * l.j) 8 ys (c.store_lane.ensures ∙ lane-bytes s l.j)
    ∙ ap (λ (n : ℕ). filled n (state_byte s) (zeros 168)) (sym next)

pub returns : goal.returns
unfolding zeros
returns c =
    let s = c.args.s in
    let l = c.loop-j in
    let all : 8 * l.j ≡ 168 = omega arith in
    l.invariant ∙ filled-end (state_byte s) (zeros 168) (8 * l.j) (omega arith) ∙ ap (λ (n : ℕ). tabulate n (state_byte s)) all
