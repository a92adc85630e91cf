-- The contract of the exported commit from that of commit, which is lent the first m bytes of the root. x is what the buffers held and y what they hold.
-- By the laws of a slice that is passed on.
use Prim.Native.Nat.{ℕ, ◌/◌}
use mathlib.Core.Path.{◌≡◌, refl}
use mathlib.Core.Bool.{Bool, true, false, cond}
use mathlib.Core.List.{List, []}
use lib.Dec.{eqb}
use lib.ListN.{length, take}
use Rattle.spec.specs.declared.Shape.{Shape}
use Rattle.spec.specs.declared.Answer.{Answer}
use Rattle.spec.specs.Calls.{count_given, row_ok, Committed}
use Rattle.spec.specs.Version1.{shape1_ok, faest1}
use Rattle.spec.specs.Version1Calls.{row1_number, committed1, commit1_lengths, Commit1}
use Rattle.spec.specs.HostCalls.{count_slice, with_count}
use Rattle.spec.specs.Version1HostCalls.{HostCommit1}
use Rattle.host_words.proofs.Passed as passed
use Rattle.v1_signer_host.proofs.NotEmpty.{root-some}

module _ (s : Shape) (n : ℕ) (root iv : List ℕ) (x y : Committed) (count : List ℕ) (r : Answer) (m : ℕ) (e : m ≡ cond (eqb (length count) 4) (length root) 0)
    (o : Commit1 faest1 s n (take m root) iv x y r) where
  abbrev beneath : List ℕ → ℕ
  beneath q = row1_number s n (commit1_lengths s (n / 8) q iv x)

  abbrev host : ℕ
  host = row1_number s n (with_count count (commit1_lengths s (n / 8) root iv x))

  full : eqb (length count) 4 ≡ true → beneath root ≡ host
  unfolding row1_number
  full t = rw t refl

  none : eqb (length count) 4 ≡ false → (beneath [] ≡ host) × passed.Silent host
  unfolding row1_number
  none t = (same (shape1_ok s) refl, rw t (passed.silent (shape1_ok s) _ 1 (passed.silent (row_ok n) 3 2 (refl, refl) (refl, refl)) (refl, refl)))
    where
      same : (b : Bool) → shape1_ok s ≡ b → beneath [] ≡ host
      same true ok = rw (t, root-some s ok) refl
      same false bad = rw bad refl

  pub commit-sized : count_given r.number ≡ true → length count ≡ 4
  commit-sized = passed.sized root count m e beneath host full none r.number o.number

  pub commit-host : (count' : List ℕ) → count' ≡ count_slice r.number r.count count → HostCommit1 faest1 s n root iv x y count count' r.number
  commit-host count' d =
      record {
        number = passed.number root count m e beneath host full none r.number o.number;
        buffers = passed.bytes root count m e beneath host full none r.number o.number (λ q. committed1 faest1 s (n / 8) q iv) x y o.buffers;
        counted = rw o.count at d;
      }
