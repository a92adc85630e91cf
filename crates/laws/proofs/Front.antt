-- A buffer written from the front on: nothing, one element more, all of it. By comparing the index with the last one written.
use Prim.Native.Nat.{ℕ, ◌+◌, ◌≤◌, ◌<◌}
use mathlib.Core.Path.{◌≡◌, refl, sym, ◌∙◌, subst}
use mathlib.Core.List.{List}
use native.Mathlib.Omega.{arith}
use native.Mathlib.Decide.{ℕ_discrete}
use lib.ListN.{length, get_or, set, length-set}
use lib.Seq.{get_or-set_same, get_or-set_other}
use Rattle.spec.specs.Bytes.{tabulate}
use Rattle.laws.specs.Front.{Front}
use Rattle.laws.proofs.Lists.{is-tabulate}

pub front-none : (f : ℕ → ℕ) (l : List ℕ) → Front f (length l) 0 l
front-none f l = record { size = refl; known = λ i h. absurd (omega arith) }

-- the next element, stored
pub front-set : (f : ℕ → ℕ) (long at : ℕ) (l : List ℕ) (x : ℕ) → at < long → Front f long at l → x ≡ f at → Front f long (at + 1) (set l at x)
front-set f long at l x h r e = record { size = length-set l at x ∙ r.size; known = λ i lt. go i lt (ℕ_discrete i at) }
  where
    go : (i : ℕ) → i < at + 1 → Dec (i ≡ at) → get_or (set l at x) i 0 ≡ f i
    go i lt (yes q) = subst (λ (k : ℕ). get_or (set l at x) k 0 ≡ f k) (sym q) (get_or-set_same l at x 0 (rw r.size h) ∙ e)
    go i lt (no q) = get_or-set_other l at i x 0 q ∙ r.known i (omega arith)

-- all of it
pub front-all : (f : ℕ → ℕ) (long n : ℕ) (l : List ℕ) → long ≤ n → Front f long n l → l ≡ tabulate long f
front-all f long n l h r = is-tabulate long f 0 l r.size (λ i lt. r.known i (omega arith))
