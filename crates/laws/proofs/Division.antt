-- Quotient and remainder of r * q + f, where f is below r. By the digits' laws of lib.Arith, with the factors the other way round.
use mathlib.Core.Path.{◌≡◌, ap, ◌∙◌}
use Prim.Native.Nat.{ℕ, ◌+◌, ◌*◌, ◌/◌, ◌%◌, ◌<◌}
use native.Mathlib.Nat.{mul_comm}
use lib.Arith.{digits_div, digits_mod}

module _ (r q : ℕ) {f : ℕ} (h : f < r) where
  pub quotient : (r * q + f) / r ≡ q
  quotient = ap (λ (n : ℕ). (n + f) / r) (mul_comm r q) ∙ digits_div q h

  pub remainder : (r * q + f) % r ≡ f
  remainder = ap (λ (n : ℕ). (n + f) % r) (mul_comm r q) ∙ digits_mod q h
