-- Parts of a list: from a place to the end, and a first part that has the length asked for. By induction on the place.
use Prim.Native.Nat.{ℕ, zero, suc, ◌-◌, ◌≤◌}
use mathlib.Core.Path.{◌≡◌}
use mathlib.Core.List.{List, [], ◌∷◌}
use native.Mathlib.Omega.{arith}
use lib.ListN.{length, take, drop, length-drop}
use lib.Seq.{take_all}

module _ {A : Type 0} where
  pub to_the_end : (l : List A) (n : ℕ) → take (length l - n) (drop n l) ≡ drop n l
  to_the_end l n = take_all (length l - n) (drop n l) (omega (arith, length-drop n l))

  pub taken-whole : (n : ℕ) (l : List A) → length (take n l) ≡ n → n ≤ length l
  taken-whole zero l e = omega arith
  taken-whole (suc n) [] e = absurd (omega arith)
  taken-whole (suc n) (x ∷ l) e = (let h = taken-whole n l (omega arith) in omega arith)
