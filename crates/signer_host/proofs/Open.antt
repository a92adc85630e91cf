-- The contract of the exported open from that of open, which is lent the first m bytes of the challenge. By the laws of a slice that is passed on.
use Prim.Native.Nat.{ℕ}
use mathlib.Core.Path.{◌≡◌, refl}
use mathlib.Core.Bool.{Bool, true, false, cond}
use mathlib.Core.List.{List, []}
use lib.Dec.{eqb}
use lib.ListN.{length, take}
use Rattle.spec.specs.declared.Shape.{Shape}
use Rattle.spec.specs.declared.Answer.{Answer}
use Rattle.spec.specs.Shapes.{resolved, shape_ok, planned_count}
use Rattle.spec.specs.Signer.{opening_of}
use Rattle.spec.specs.Calls.{count_given, plan_number, open_lengths, Open}
use Rattle.spec.specs.HostCalls.{count_slice, with_count, HostOpen}
use Rattle.host_words.proofs.Passed as passed
use Rattle.signer_host.proofs.NotEmpty.{challenge-some}

module _ (s : Shape) (ch tree lcs before after count : List ℕ) (r : Answer) (m : ℕ) (e : m ≡ cond (eqb (length count) 4) (length ch) 0)
    (o : Open s (take m ch) tree lcs before after r) where
  abbrev beneath : List ℕ → ℕ
  beneath q = plan_number (resolved s) q (open_lengths (resolved s) q tree lcs before)

  abbrev host : ℕ
  host = plan_number (resolved s) ch (with_count count (open_lengths (resolved s) ch tree lcs before))

  full : eqb (length count) 4 ≡ true → beneath ch ≡ host
  unfolding plan_number
  full t = rw t refl

  none : eqb (length count) 4 ≡ false → (beneath [] ≡ host) × passed.Silent host
  unfolding plan_number
  none t = (same (shape_ok (resolved s)) refl, rw t (passed.silent (shape_ok (resolved s)) 3 1 (refl, refl) (refl, refl)))
    where
      same : (b : Bool) → shape_ok (resolved s) ≡ b → beneath [] ≡ host
      same true ok = rw (t, challenge-some (resolved s) ok) refl
      same false bad = rw bad refl

  pub open-sized : count_given r.number ≡ true → length count ≡ 4
  open-sized = passed.sized ch count m e beneath host full none r.number o.number

  pub open-host : (count' : List ℕ) → count' ≡ count_slice r.number r.count count → HostOpen s ch tree lcs before after count count' r.number
  open-host count' d =
      record {
        number = passed.number ch count m e beneath host full none r.number o.number;
        opening = passed.bytes ch count m e beneath host full none r.number o.number (λ q. opening_of (resolved s) q tree lcs) before after o.opening;
        counted = passed.counted ch count m e beneath host full none r.number o.number (planned_count (resolved s)) r.count count' o.count d;
      }
