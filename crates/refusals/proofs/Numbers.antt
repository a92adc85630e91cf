-- The numbers of the calls by the numbers of their parts, and what holds where a number is 0: each by the laws of lists of tests. s is a resolved shape, n a row length in
-- bits, ls the lengths, and k the number of the part that comes first.
use Prim.Native.Nat.{ℕ, ◌+◌, ◌*◌, ◌/◌, ◌≤◌}
use mathlib.Core.Path.{◌≡◌, refl, sym, ◌∙◌}
use mathlib.Core.Bool.{Bool, true, false, cond}
use mathlib.Core.List.{List, [], ◌∷◌, ◌++◌}
use native.Mathlib.Omega.{arith}
use lib.Dec.{leb}
use lib.ListN.{drop}
use borrow.Author.Tests.{leb-true}
use Rattle.spec.specs.declared.Shape.{Shape}
use Rattle.spec.specs.declared.Stretch.{Stretch}
use Rattle.spec.specs.declared.Answer.{Answer}
use Rattle.spec.specs.Bytes.{all_zero}
use Rattle.spec.specs.Shapes.{node_bytes, leaf_commitment_bytes, shape_ok, grinding_ok, planned_count}
use Rattle.spec.specs.Verifier.{slots_ok}
use Rattle.spec.specs.Calls.{fits, count_with, nodes_ok, decode_number, plan_number, commit_stretch_number, reconstruct_stretch_number}
use Rattle.laws.specs.Lengths.{Sized}
use Rattle.laws.proofs.Lengths.{fits-sized}
use Rattle.rules.proofs.RowLength.{row-max, stretch-max}
use Rattle.refusals.specs.Numbers.{front_tests, front_number, size_tests, size_number, challenge_tests, challenge_number, opening_tests, opening_number, Answered}
use Rattle.std.specs.Prelude.{Err}
use Rattle.refusals.specs.declared.Refusal.{Refusal}
use Rattle.refusals.specs.Refusal.{number_of, count_of, answer_in}
use Rattle.refusals.proofs.Lists.{passed-all, stops, decides, answer-stops, answer-decides, refused-uncounted}

-- ---- commit, and what reconstruct begins with

module _ (s : Shape) (n : ℕ) (z : Stretch) (k : ℕ) where
  module _ (e : k ≡ front_number s n z) where
    -- neither a row nor its stretch has more than 8,192 bytes
    pub front-passed : k ≡ 0 → (shape_ok s ≡ true) × (n / 8 ≤ 8192) × (z.width ≤ 8192)
    unfolding front_number
    front-passed h =
        let q = passed-all (front_tests s n z) (refl, (refl, (refl, tt))) k e h in
        let long = stretch-max n z q.1.0 q.1.1.0 in
        (q.0, row-max n q.1.0, omega arith)

    module _ (ls : List (ℕ × ℕ)) where
      pub front-stops : (k ≡ 0 → ⊥) → k ≡ commit_stretch_number s n z ls
      unfolding front_number commit_stretch_number
      front-stops = stops (front_tests s n z) (refl, (refl, (refl, tt))) k e ((fits ls, 3) ∷ [])

      pub lengths-decide : (r : ℕ) → k ≡ 0 → r ≡ cond (fits ls) 0 3 → r ≡ commit_stretch_number s n z ls
      unfolding front_number commit_stretch_number
      lengths-decide = decides (front_tests s n z) (refl, (refl, (refl, tt))) k e ((fits ls, 3) ∷ [])

  module _ (ls : List (ℕ × ℕ)) (e : k ≡ commit_stretch_number s n z ls) where
    pub lengths-passed : k ≡ 0 → (shape_ok s ≡ true) × (z.first + z.width ≤ 8192) × Sized ls
    unfolding commit_stretch_number
    lengths-passed h =
        let q = passed-all (front_tests s n z ++ (fits ls, 3) ∷ []) (refl, (refl, (refl, (refl, tt)))) k e h in
        (q.0, stretch-max n z q.1.0 q.1.1.0, fits-sized ls q.1.1.1.0)

    -- reconstruct
    pub opening-decides : (ch op : List ℕ) (r : Answer) → k ≡ 0 → Answered (opening_number s ch op) (planned_count s ch) r → Answered (reconstruct_stretch_number s n z ch op ls) (planned_count s ch) r
    unfolding commit_stretch_number opening_number reconstruct_stretch_number
    opening-decides ch op = answer-decides (front_tests s n z ++ (fits ls, 3) ∷ []) (refl, (refl, (refl, (refl, tt)))) k e (opening_tests s ch op) (planned_count s ch)

pub reconstruct-stops : (s : Shape) (n : ℕ) (z : Stretch) (ls : List (ℕ × ℕ)) (ch op : List ℕ) (x : Refusal) → number_of x ≡ commit_stretch_number s n z ls
    → Answered (reconstruct_stretch_number s n z ch op ls) (planned_count s ch) (answer_in (Err x))
unfolding commit_stretch_number reconstruct_stretch_number
reconstruct-stops s n z ls ch op = answer-stops (front_tests s n z ++ (fits ls, 3) ∷ []) (refl, (refl, (refl, (refl, tt)))) (refl, (refl, (refl, (refl, tt)))) (opening_tests s ch op) (planned_count s ch)

-- ---- decode, plan and open

module _ (s : Shape) (ls : List (ℕ × ℕ)) where
  pub shape-stops : shape_ok s ≡ false → 1 ≡ size_number s ls
  unfolding size_number
  shape-stops h = rw h refl

  pub sizes-decide : (r : ℕ) → shape_ok s ≡ true → r ≡ cond (fits ls) 0 3 → r ≡ size_number s ls
  unfolding size_number
  sizes-decide r h e = rw h e

  module _ (k : ℕ) (e : k ≡ size_number s ls) where
    pub sizes-passed : k ≡ 0 → (shape_ok s ≡ true) × Sized ls
    unfolding size_number
    sizes-passed h = (let q = passed-all (size_tests s ls) (refl, (refl, tt)) k e h in (q.0, fits-sized ls q.1.0))

    module _ (ch : List ℕ) where
      pub decode-stops : (k ≡ 0 → ⊥) → k ≡ decode_number s ch ls
      unfolding size_number decode_number
      decode-stops = stops (size_tests s ls) (refl, (refl, tt)) k e ((grinding_ok s ch, 4) ∷ [])

      pub grinding-decides : (r : ℕ) → k ≡ 0 → r ≡ cond (grinding_ok s ch) 0 4 → r ≡ decode_number s ch ls
      unfolding size_number decode_number
      grinding-decides = decides (size_tests s ls) (refl, (refl, tt)) k e ((grinding_ok s ch, 4) ∷ [])

      pub challenge-decides : (r : Answer) → k ≡ 0 → Answered (challenge_number s ch) (planned_count s ch) r → Answered (plan_number s ch ls) (planned_count s ch) r
      unfolding size_number challenge_number plan_number
      challenge-decides = answer-decides (size_tests s ls) (refl, (refl, tt)) k e (challenge_tests s ch) (planned_count s ch)

  pub plan-stops : (ch : List ℕ) (x : Refusal) → number_of x ≡ size_number s ls → Answered (plan_number s ch ls) (planned_count s ch) (answer_in (Err x))
  unfolding size_number plan_number
  plan-stops ch = answer-stops (size_tests s ls) (refl, (refl, tt)) (refl, (refl, tt)) (challenge_tests s ch) (planned_count s ch)

-- with 0 every test of the call is passed

pub decode-accepted : (s : Shape) (ch : List ℕ) (ls : List (ℕ × ℕ)) (k : ℕ) → k ≡ decode_number s ch ls → k ≡ 0 → (shape_ok s ≡ true) × Sized ls
unfolding decode_number
decode-accepted s ch ls k e h = (let q = passed-all (size_tests s ls ++ (grinding_ok s ch, 4) ∷ []) (refl, (refl, (refl, tt))) k e h in (q.0, fits-sized ls q.1.0))

module _ (s : Shape) (ch : List ℕ) (r : Answer) where
  given : r.number ≡ 0 → r.count ≡ count_with r.number (planned_count s ch) → r.count ≡ planned_count s ch
  unfolding count_with
  given h c = rw h at c

  pub plan-accepted : (ls : List (ℕ × ℕ)) → Answered (plan_number s ch ls) (planned_count s ch) r → r.number ≡ 0 → (shape_ok s ≡ true) × Sized ls × (r.count ≡ planned_count s ch) × (r.count ≤ s.t)
  unfolding plan_number nodes_ok
  plan-accepted ls a h =
      let q = passed-all (size_tests s ls ++ challenge_tests s ch) (refl, (refl, (refl, (refl, tt)))) r.number a.0 h in
      let count = given h a.1 in
      (q.0, fits-sized ls q.1.0, count, rw count (leb-true (planned_count s ch) s.t q.1.1.1.0))

  pub reconstruct-accepted : (n : ℕ) (z : Stretch) (op : List ℕ) (ls : List (ℕ × ℕ)) → Answered (reconstruct_stretch_number s n z ch op ls) (planned_count s ch) r → r.number ≡ 0
      → ((shape_ok s ≡ true) × (z.first + z.width ≤ 8192) × (r.count ≡ planned_count s ch) × (r.count ≤ s.t)) × Sized ls
  unfolding reconstruct_stretch_number nodes_ok
  reconstruct-accepted n z op ls a h =
      let q = passed-all (front_tests s n z ++ (fits ls, 3) ∷ opening_tests s ch op) (refl, (refl, (refl, (refl, (refl, (refl, (refl, tt))))))) r.number a.0 h in
      let count = given h a.1 in
      ((q.0, stretch-max n z q.1.0 q.1.1.0, count, rw count (leb-true (planned_count s ch) s.t q.1.1.1.1.1.0)), fits-sized ls q.1.1.1.0)

-- ---- the challenge, and an opening; m is the count

module _ (s : Shape) (ch : List ℕ) (r : Answer) where
  pub grinding-refused : grinding_ok s ch ≡ false → (r.number ≡ 4) × (r.count ≡ 0) → Answered (challenge_number s ch) (planned_count s ch) r
  unfolding challenge_number count_with
  grinding-refused g a = (rw g a.0, rw a.0 a.1)

  -- the count goes with 0 and with 5
  pub allowance-decides : (m k : ℕ) → grinding_ok s ch ≡ true → m ≡ planned_count s ch → k ≡ cond (leb m s.t) 0 5 → (r.number ≡ k) × (r.count ≡ m) → Answered (challenge_number s ch) (planned_count s ch) r
  unfolding challenge_number count_with nodes_ok
  allowance-decides m k g e i a =
      let number = a.0 ∙ i in
      (rw g (rw e at number), a.1 ∙ e ∙ sym (rw number (with-both (leb m s.t))))
    where
      with-both : (b : Bool) → count_with (cond b 0 5) (planned_count s ch) ≡ planned_count s ch
      with-both true = refl
      with-both false = refl

  pub challenge-passed : Answered (challenge_number s ch) (planned_count s ch) r → r.number ≡ 0 → (r.count ≡ planned_count s ch) × (r.count ≤ s.t)
  unfolding challenge_number nodes_ok
  challenge-passed a h =
      let q = passed-all (challenge_tests s ch) (refl, (refl, tt)) r.number a.0 h in
      let count = given s ch r h a.1 in
      (count, rw count (leb-true (planned_count s ch) s.t q.1.0))

-- the opening behind its challenge, whose answer is r
module _ (s : Shape) (ch op : List ℕ) (r : Answer) (a : Answered (challenge_number s ch) (planned_count s ch) r) where
  pub challenge-stops : (r.number ≡ 0 → ⊥) → Answered (opening_number s ch op) (planned_count s ch) r
  unfolding challenge_number opening_number
  challenge-stops h = (stops (challenge_tests s ch) (refl, (refl, tt)) r.number a.0 ((slots_ok s ch op, 6) ∷ []) h, a.1)

  -- the count goes with 0 and with 6
  pub slots-decide : (b : Bool) (k : ℕ) (r' : Answer) → r.number ≡ 0 → b ≡ all_zero (drop (leaf_commitment_bytes s * s.tau + node_bytes s * r.count) op) → k ≡ cond b 0 6
      → (r'.number ≡ k) × (r'.count ≡ r.count) → Answered (opening_number s ch op) (planned_count s ch) r'
  unfolding challenge_number opening_number slots_ok count_with
  slots-decide b k r' h f i a' =
      let count = given s ch r h a.1 in
      let number = a'.0 ∙ i in
      let clear : b ≡ slots_ok s ch op = rw count at f in
      (decides (challenge_tests s ch) (refl, (refl, tt)) r.number a.0 ((slots_ok s ch op, 6) ∷ []) r'.number h (rw clear at number), a'.1 ∙ count ∙ sym (rw number (with-both b)))
    where
      with-both : (b : Bool) → count_with (cond b 0 6) (planned_count s ch) ≡ planned_count s ch
      with-both true = refl
      with-both false = refl

-- ---- decode and commit refuse with no count

pub decode-uncounted : (s : Shape) (ch : List ℕ) (ls : List (ℕ × ℕ)) (x : Refusal) → number_of x ≡ decode_number s ch ls → count_of x ≡ 0
unfolding decode_number
decode-uncounted s ch ls = refused-uncounted (size_tests s ls ++ (grinding_ok s ch, 4) ∷ []) (refl, (refl, (refl, tt)))

pub commit-uncounted : (s : Shape) (n : ℕ) (z : Stretch) (ls : List (ℕ × ℕ)) (x : Refusal) → number_of x ≡ commit_stretch_number s n z ls → count_of x ≡ 0
unfolding commit_stretch_number
commit-uncounted s n z ls = refused-uncounted (front_tests s n z ++ (fits ls, 3) ∷ []) (refl, (refl, (refl, (refl, tt))))
