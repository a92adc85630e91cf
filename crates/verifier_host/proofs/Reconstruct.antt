-- The contract of the exported reconstruct from that of reconstruct, which is lent the first m bytes of the IV. x is what the buffers held and y what they hold. By the laws of a
-- slice that is passed on.
use Prim.Native.Nat.{ℕ, ◌/◌}
use mathlib.Core.Path.{◌≡◌, refl}
use mathlib.Core.Bool.{true, false, cond}
use mathlib.Core.List.{List, []}
use lib.Dec.{eqb}
use lib.ListN.{length, take}
use Rattle.spec.specs.declared.Shape.{Shape}
use Rattle.spec.specs.declared.Answer.{Answer}
use Rattle.spec.specs.Shapes.{resolved, shape_ok, planned_count}
use Rattle.spec.specs.Primitives.{faest}
use Rattle.spec.specs.Calls.{count_given, row_ok, whole_row, Reconstructed, reconstructed, reconstruct_lengths, reconstruct_number, Reconstruct}
use Rattle.spec.specs.HostCalls.{count_slice, with_count, HostReconstruct}
use Rattle.host_words.proofs.Passed as passed

module _ (s : Shape) (n : ℕ) (iv ch cs op : List ℕ) (x y : Reconstructed) (count : List ℕ) (r : Answer) (m : ℕ)
    (e : m ≡ cond (eqb (length count) 4) (length iv) 0) (o : Reconstruct faest s n (take m iv) ch cs op x y r) where
  abbrev beneath : List ℕ → ℕ
  beneath q = reconstruct_number (resolved s) n ch op (reconstruct_lengths (resolved s) (n / 8) q ch cs op x)

  abbrev host : ℕ
  host = reconstruct_number (resolved s) n ch op (with_count count (reconstruct_lengths (resolved s) (n / 8) iv ch cs op x))

  full : eqb (length count) 4 ≡ true → beneath iv ≡ host
  unfolding reconstruct_number
  full t = rw t refl

  none : eqb (length count) 4 ≡ false → (beneath [] ≡ host) × passed.Silent host
  unfolding reconstruct_number
  none t = (rw t refl, rw t (passed.silent (shape_ok (resolved s)) _ 1 (passed.silent (row_ok n) 3 2 (refl, refl) (refl, refl)) (refl, refl)))

  pub reconstruct-sized : count_given r.number ≡ true → length count ≡ 4
  reconstruct-sized = passed.sized iv count m e beneath host full none r.number o.number

  pub reconstruct-host : (count' : List ℕ) → count' ≡ count_slice r.number r.count count → HostReconstruct faest s n iv ch cs op x y count count' r.number
  reconstruct-host count' d =
      record {
        number = passed.number iv count m e beneath host full none r.number o.number;
        buffers = passed.bytes iv count m e beneath host full none r.number o.number (λ q. reconstructed faest (resolved s) (whole_row n) q ch cs op) x y o.buffers;
        counted = passed.counted iv count m e beneath host full none r.number o.number (λ q. planned_count (resolved s) ch) r.count count' o.count d;
      }
