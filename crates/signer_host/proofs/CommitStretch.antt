-- The contract of the exported commit_stretch from that of commit_stretch, which is lent the first m bytes of the root. x is what the buffers held and y what they hold. By the laws of a slice
-- that is passed on.
use Prim.Native.Nat.{ℕ, ◌/◌}
use mathlib.Core.Path.{◌≡◌, refl, ◌∙◌}
use mathlib.Core.Bool.{Bool, true, false, cond}
use mathlib.Core.List.{List, []}
use lib.Dec.{eqb}
use lib.ListN.{length, take}
use Rattle.spec.specs.declared.Shape.{Shape}
use Rattle.spec.specs.declared.Stretch.{Stretch}
use Rattle.spec.specs.declared.Answer.{Answer}
use Rattle.spec.specs.Shapes.{resolved, shape_ok}
use Rattle.spec.specs.Primitives.{faest}
use Rattle.spec.specs.Calls.{count_given, row_ok, stretch_ok, Committed, committed, commit_lengths, commit_stretch_number, CommitStretch}
use Rattle.spec.specs.HostCalls.{count_slice, with_count, HostCommitStretch}
use Rattle.host_words.proofs.Passed as passed
use Rattle.signer_host.proofs.NotEmpty.{root-some}

module _ (s : Shape) (n : ℕ) (z : Stretch) (root iv : List ℕ) (x y : Committed) (count : List ℕ) (r : Answer) (m : ℕ) (e : m ≡ cond (eqb (length count) 4) (length root) 0)
    (o : CommitStretch faest s n z (take m root) iv x y r) where
  abbrev beneath : List ℕ → ℕ
  beneath q = commit_stretch_number (resolved s) n z (commit_lengths (resolved s) z.width q iv x)

  abbrev host : ℕ
  host = commit_stretch_number (resolved s) n z (with_count count (commit_lengths (resolved s) z.width root iv x))

  full : eqb (length count) 4 ≡ true → beneath root ≡ host
  unfolding commit_stretch_number
  full t = rw t refl

  none : eqb (length count) 4 ≡ false → (beneath [] ≡ host) × passed.Silent host
  unfolding commit_stretch_number
  none t = (same (shape_ok (resolved s)) refl, rw t (passed.silent (shape_ok (resolved s)) _ 1 (passed.silent (row_ok n) _ 2 (passed.silent (stretch_ok (n / 8) z) 3 8 (refl, refl) (refl, refl)) (refl, refl)) (refl, refl)))
    where
      same : (b : Bool) → shape_ok (resolved s) ≡ b → beneath [] ≡ host
      same true ok = rw (t, root-some (resolved s) ok) refl
      same false bad = rw bad refl

  pub stretch-sized : count_given r.number ≡ true → length count ≡ 4
  stretch-sized = passed.sized root count m e beneath host full none r.number o.number

  pub stretch-host : (count' : List ℕ) → count' ≡ count_slice r.number r.count count → HostCommitStretch faest s n z root iv x y count count' r.number
  stretch-host count' d =
      record {
        number = passed.number root count m e beneath host full none r.number o.number;
        buffers = passed.bytes root count m e beneath host full none r.number o.number (λ q. committed faest (resolved s) z q iv) x y o.buffers;
        counted = rw o.count at d;
      }
