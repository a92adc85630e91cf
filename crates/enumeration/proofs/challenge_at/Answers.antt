use Prim.Native.Nat.{ℕ, ◌+◌, ◌-◌, ◌*◌, ◌/◌, ◌%◌, ◌^◌, ◌≤◌}
use mathlib.Core.Path.{◌≡◌, sym, ap, ◌∙◌}
use mathlib.Core.List.{List}
use native.Mathlib.Omega.{arith}
use native.Mathlib.Nat.{div-one}
use lib.ListN.{replicate}
use lib.Pow.{shr-shr}
use Rattle.spec.specs.Bytes.{tabulate, digits}
use Rattle.spec.specs.Shapes.{challenge_bytes}
use Rattle.laws.proofs.Front.{front-none, front-set, front-all}
use Rattle.enumeration_text.specs.Listed.{challenge_at}
use Rattle.enumeration.proofs.challenge_at.Invariants.{byte}
use Rattle.enumeration.proofs.challenge_at.Goals as goal

bytes : (x : ℕ) (xs : List ℕ) → xs ≡ tabulate 16 (byte x) → xs ≡ digits 8 16 x
unfolding digits
bytes x xs e = e

pub loop-byte-init : goal.loop-byte-init
loop-byte-init c = (sym (div-one c.args.x), front-none (byte c.args.x) (replicate 16 0))

pub loop-byte-preserved : goal.loop-byte-preserved
loop-byte-preserved c =
    let l = c.loop-byte in
    let x = c.args.x in
    let next : 8 * l.byte-index + 8 ≡ 8 * (l.byte-index + 1) = omega arith in (
      ap (λ (n : ℕ). n / 256) l.invariant.0 ∙ shr-shr x (8 * l.byte-index) 8 ∙ ap (λ (n : ℕ). x / 2 ^ n) next,
      front-set (byte x) 16 l.byte-index l.byte-items _ (omega arith) l.invariant.1 (ap (λ (n : ℕ). n % 256) l.invariant.0),
    )

pub returns : goal.returns
unfolding challenge_at challenge_bytes
returns c s e =
    let l = c.loop-byte in
    let x = c.args.x in
    bytes x l.byte-items (front-all (byte x) 16 l.byte-index l.byte-items (omega arith) l.invariant.1) ∙ sym (ap (λ (n : ℕ). digits 8 (n / 8) x) e)
