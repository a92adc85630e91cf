-- The bytes of a block, stored one by one.
use Rattle.std.proofs.Common.{◌≡◌, ℕ, ◌+◌, ◌<◌, List, length, get_or, set, ◌∙◌, subst, add-zero, arith}
use Rattle.laws.specs.Front.{Front}
use Rattle.laws.proofs.Front.{front-set}
use Rattle.generator.specs.Stored.{Continued}

module _ (block before : List ℕ) (from p : ℕ) where
  pub continued-none : Continued block from p (p + 0) before before
  continued-none f long h r = rw add-zero r

  pub continued-more : (out : List ℕ) (k x : ℕ) → p + k < length out → from + k < 16 → x ≡ get_or block (from + k) 0
      → Continued block from p (p + k) before out → Continued block from p (p + (k + 1)) before (set out (p + k) x)
  continued-more out k x inside h e c f long rule r =
      let known = c f long rule r in
      let size = known.size in
      subst (λ (n : ℕ). Front f long n (set out (p + k) x)) (omega arith)
      (front-set f long (p + k) out x (omega arith) known (e ∙ rule k h (omega arith)))
