-- A whole line: its parts can be read, and together they have at most 57 bytes, or 24 without the challenge. By adding up: a number has at most five digits and a space,
-- the challenge 32 digits and a line feed.
use Prim.Native.Nat.{ℕ, ◌+◌, ◌≤◌}
use mathlib.Core.Path.{◌≡◌}
use mathlib.Core.Bool.{true}
use mathlib.Core.List.{List}
use native.Mathlib.Omega.{arith}
use lib.ListN.{length, length-drop}
use Rattle.laws.proofs.Conjunctions.{both_true}
use Rattle.listing_line.specs.Line.{digit_run, number_ok, after_number, challenge_ok, behind, line_ok, last_number_ok, shape_line_ok, ShortNumbers}
use Rattle.listing_line.proofs.Numbers.{number-facts, last-facts}
use Rattle.listing_line.proofs.Challenge.{challenge-facts}

pub record LineFacts (input : List ℕ) : Type 0 where
  pub tau : number_ok input ≡ true
  pub k : number_ok (behind 1 input) ≡ true
  pub w : number_ok (behind 2 input) ≡ true
  pub t : number_ok (behind 3 input) ≡ true
  pub challenge : challenge_ok (behind 4 input) ≡ true

pub line-facts : (input : List ℕ) → line_ok input ≡ true → LineFacts input
unfolding line_ok behind
line-facts input e =
    let a = both_true _ _ e in
    let b = both_true _ _ a.0 in
    let c = both_true _ _ b.0 in
    let d = both_true _ _ c.0 in
    record { tau = d.0; k = d.1; w = c.1; t = b.1; challenge = a.1 }

number_short : (text : List ℕ) → number_ok text ≡ true → digit_run text ≤ 5
number_short text e = (number-facts text e).1

pub line-numbers : (input : List ℕ) → line_ok input ≡ true → ShortNumbers input
unfolding behind
line-numbers input e =
    let f = line-facts input e in
    record {
      tau = number_short input f.tau;
      k = number_short (behind 1 input) f.k;
      w = number_short (behind 2 input) f.w;
      t = number_short (behind 3 input) f.t;
    }

-- a number and its space have at most 6 bytes
number-length : (text : List ℕ) → number_ok text ≡ true → length text ≤ 6 + length (after_number text)
unfolding after_number
number-length text e = (let f = number-facts text e in omega (arith, length-drop (digit_run text + 1) text))

pub line-length : (input : List ℕ) → line_ok input ≡ true → length input ≤ 57
unfolding behind
line-length input e =
    let f = line-facts input e in
    omega (
      arith,
      number-length input f.tau,
      number-length (behind 1 input) f.k,
      number-length (behind 2 input) f.w,
      number-length (behind 3 input) f.t,
      (challenge-facts (behind 4 input) f.challenge).2,
    )

-- ---- the line that has the numbers alone

record ShapeLineFacts (input : List ℕ) : Type 0 where
  pub tau : number_ok input ≡ true
  pub k : number_ok (behind 1 input) ≡ true
  pub w : number_ok (behind 2 input) ≡ true
  pub t : last_number_ok (behind 3 input) ≡ true

shape-line-facts : (input : List ℕ) → shape_line_ok input ≡ true → ShapeLineFacts input
unfolding shape_line_ok behind
shape-line-facts input e =
    let a = both_true _ _ e in
    let b = both_true _ _ a.0 in
    let c = both_true _ _ b.0 in
    record { tau = c.0; k = c.1; w = b.1; t = a.1 }

pub shape-line-numbers : (input : List ℕ) → shape_line_ok input ≡ true → ShortNumbers input
unfolding behind
shape-line-numbers input e =
    let f = shape-line-facts input e in
    record {
      tau = number_short input f.tau;
      k = number_short (behind 1 input) f.k;
      w = number_short (behind 2 input) f.w;
      t = (last-facts (behind 3 input) f.t).0;
    }

pub shape-line-length : (input : List ℕ) → shape_line_ok input ≡ true → length input ≤ 24
unfolding behind
shape-line-length input e =
    let f = shape-line-facts input e in
    omega (
      arith,
      number-length input f.tau,
      number-length (behind 1 input) f.k,
      number-length (behind 2 input) f.w,
      last-facts (behind 3 input) f.t,
    )
