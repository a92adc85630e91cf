use Prim.Native.Nat.{ℕ, ◌+◌, ◌*◌, ◌<◌}
use mathlib.Core.Path.{◌≡◌, ap₂}
use mathlib.Core.Bool.{true}
use mathlib.Core.List.{List}
use native.Mathlib.Omega.{arith}
use lib.ListN.{get_or, replicate}
use Rattle.laws.proofs.Front.{front-none, front-set, front-all}
use Rattle.listing_line.specs.Line.{is_hex_digit, challenge_ok, challenge_of}
use Rattle.listing_line.proofs.Challenge.{challenge-facts, hex-at}
use Rattle.listing_line.proofs.challenge_of.Invariants.{byte}
use Rattle.listing_line.proofs.challenge_of.Goals as goal

digit : (text : List ℕ) (i : ℕ) → challenge_ok text ≡ true → i < 32 → is_hex_digit (get_or text i 0) ≡ true
digit text i e h = hex-at 32 text i (challenge-facts text e).0 h

pub loop-i-init : goal.loop-i-init
loop-i-init c = (front-none (byte c.args.text.now) (replicate 16 0))

pub overflow_mul-i : goal.overflow_mul-i
overflow_mul-i c = omega arith

pub bounds-text-i : goal.bounds-text-i
bounds-text-i c = (omega (arith, (challenge-facts c.args.text.now c.requires).1))

pub hex_value-requires : goal.hex_value-requires
hex_value-requires c = digit _ (2 * c.loop-i.i) c.requires (omega arith)

pub overflow_mul-byte : goal.overflow_mul-byte
overflow_mul-byte c = omega arith

pub overflow_mul-i-in-loop-i : goal.overflow_mul-i-in-loop-i
overflow_mul-i-in-loop-i c = omega arith

pub overflow_add-i : goal.overflow_add-i
overflow_add-i c = omega arith

pub bounds-text-i-in-loop-i : goal.bounds-text-i-in-loop-i
bounds-text-i-in-loop-i c = (omega (arith, (challenge-facts c.args.text.now c.requires).1))

pub hex_value-requires-in-loop-i : goal.hex_value-requires-in-loop-i
hex_value-requires-in-loop-i c =
    digit _ (2 * c.loop-i.i + 1) c.requires (omega arith)

pub overflow_add-byte : goal.overflow_add-byte
overflow_add-byte c = omega arith

pub loop-i-preserved : goal.loop-i-preserved
loop-i-preserved c =
    let l = c.loop-i in
    let text = c.args.text.now in
    front-set (byte text) 16 l.i l.byte-items _ (omega arith) l.invariant
    (ap₂ (λ (h d : ℕ). 16 * h + d) c.hex_value.ensures.0 c.hex_value-in-loop-i.ensures.0)

pub returns : goal.returns
unfolding challenge_of
returns c =
    let l = c.loop-i in
    front-all (byte c.args.text.now) 16 l.i l.byte-items c.loop-i-test.false l.invariant
