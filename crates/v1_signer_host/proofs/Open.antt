-- The contract of the exported open from that of open, which is lent the first m bytes of the challenge. By the laws of a slice that is passed on.
use Prim.Native.Nat.{ℕ}
use mathlib.Core.Path.{◌≡◌, refl}
use mathlib.Core.Bool.{Bool, true, false, cond}
use mathlib.Core.List.{List, []}
use lib.Dec.{eqb}
use lib.ListN.{length, take}
use Rattle.spec.specs.declared.Shape.{Shape}
use Rattle.spec.specs.declared.Answer.{Answer}
use Rattle.spec.specs.Calls.{count_given}
use Rattle.spec.specs.Version1.{shape1_ok, opening1_of}
use Rattle.spec.specs.Version1Calls.{open1_number, open1_lengths, Open1}
use Rattle.spec.specs.HostCalls.{count_slice, with_count}
use Rattle.spec.specs.Version1HostCalls.{HostOpen1}
use Rattle.host_words.proofs.Passed as passed
use Rattle.v1_signer_host.proofs.NotEmpty.{challenge-some}

module _ (s : Shape) (ch trees lcs before after count : List ℕ) (r : Answer) (m : ℕ) (e : m ≡ cond (eqb (length count) 4) (length ch) 0)
    (o : Open1 s (take m ch) trees lcs before after r) where
  abbrev beneath : List ℕ → ℕ
  beneath q = open1_number s (open1_lengths s q trees lcs before)

  abbrev host : ℕ
  host = open1_number s (with_count count (open1_lengths s ch trees lcs before))

  full : eqb (length count) 4 ≡ true → beneath ch ≡ host
  unfolding open1_number
  full t = rw t refl

  none : eqb (length count) 4 ≡ false → (beneath [] ≡ host) × passed.Silent host
  unfolding open1_number
  none t = (same (shape1_ok s) refl, rw t (passed.silent (shape1_ok s) 3 1 (refl, refl) (refl, refl)))
    where
      same : (b : Bool) → shape1_ok s ≡ b → beneath [] ≡ host
      same true ok = rw (t, challenge-some s ok) refl
      same false bad = rw bad refl

  pub open-sized : count_given r.number ≡ true → length count ≡ 4
  open-sized = passed.sized ch count m e beneath host full none r.number o.number

  pub open-host : (count' : List ℕ) → count' ≡ count_slice r.number r.count count → HostOpen1 s ch trees lcs before after count count' r.number
  open-host count' d =
      record {
        number = passed.number ch count m e beneath host full none r.number o.number;
        opening = passed.bytes ch count m e beneath host full none r.number o.number (λ q. opening1_of s q trees lcs) before after o.opening;
        counted = rw o.count at d;
      }
