-- The node count is the number of covered nodes, less twice the hidden leaves, plus one (document 000, figure 5.4, line 16). Each covered inner node has one
-- covered child and reveals the other, or has two and reveals nothing; so count + covered = 2 * covered inner + 1, and the covered leaves are the hidden
-- ones. By induction on the nodes.
use Prim.Native.Nat.{ℕ, zero, suc, ◌+◌, ◌-◌, ◌*◌, ◌≤◌, ◌<◌}
use mathlib.Core.Path.{◌≡◌, refl, sym, ap, ◌∙◌}
use mathlib.Core.Bool.{Bool, true, false, ◌||◌, ◌&&◌, not, cond}
use mathlib.Core.List.{List, [], ◌∷◌}
use native.Mathlib.Omega.{arith}
use native.Mathlib.Decide.{dec_lt}
use lib.Dec.{eqb}
use lib.ListN.{length, length-append}
use borrow.Author.Tests.{eq-eqb, ne_eqb}
use Rattle.spec.specs.Tree.{some, covered, sibling_to_reveal, revealed_from, revealed, node_count}
use Rattle.planning_laws.specs.Lists.{Leaves, WithoutDuplicates, tally, covered_count}
use Rattle.planning_laws.proofs.Covered.{covered-inner, covered-leaf, root-covered}

abbrev one : Bool → ℕ
one b = cond b 1 0

-- ---- revealed and covered nodes

sibling-length : (x y : Bool) (a : ℕ) → length (sibling_to_reveal x y a) + one x + one y ≡ 2 * one (x || y)
unfolding sibling_to_reveal
sibling-length true true a = refl
sibling-length true false a = refl
sibling-length false true a = refl
sibling-length false false a = refl

tally-two : (c : ℕ → Bool) (n a : ℕ) → n ≡ 2 * suc a + 1 → tally c n ≡ one (c (2 * a + 1)) + one (c (2 * a + 2)) + tally c (2 * a + 1)
unfolding tally
tally-two c n a e =
    let q : n ≡ suc (suc (2 * a + 1)) = omega arith in
    let r : suc (2 * a + 1) ≡ 2 * a + 2 = omega arith in
    ap (tally c) q ∙ (ap (λ (m : ℕ). one (c m) + (one (c (2 * a + 1)) + tally c (2 * a + 1))) r ∙ omega arith)

revealed-tally : (c : ℕ → Bool) (n : ℕ) → ((a : ℕ) → a < n → c a ≡ (c (2 * a + 1) || c (2 * a + 2)))
    → length (revealed_from c n) + tally c (2 * n + 1) ≡ 2 * tally c n + one (c 0)
unfolding revealed_from tally
revealed-tally c zero e = omega arith
revealed-tally c (suc a) e =
    let ih = revealed-tally c a (λ b h. e b (omega arith)) in
    let o = sibling-length (c (2 * a + 1)) (c (2 * a + 2)) a in
    let p = ap one (e a (omega arith)) in
    let t = tally-two c (2 * suc a + 1) a refl in
    let l = length-append (sibling_to_reveal (c (2 * a + 1)) (c (2 * a + 2)) a) (revealed_from c a) in
    omega arith

-- ---- the covered leaves are the hidden ones

tally-same : (p q : ℕ → Bool) (n m : ℕ) → n ≤ m → ((a : ℕ) → n ≤ a → p a ≡ q a) → tally p m + tally q n ≡ tally p n + tally q m
unfolding tally
tally-same p q n zero h e = (let z : n ≡ 0 = omega arith in let a = ap (tally p) z in let b = ap (tally q) z in omega arith)
tally-same p q n (suc m) h e = go (dec_lt m n) (λ l. tally-same p q n m l e)
  where
    go : Dec (m < n) → (n ≤ m → tally p m + tally q n ≡ tally p n + tally q m)
        → one (p m) + tally p m + tally q n ≡ tally p n + (one (q m) + tally q m)
    go (yes l) ih =
        let z : n ≡ suc m = omega arith in
        let a : tally p n ≡ one (p m) + tally p m = ap (tally p) z in
        let b : tally q n ≡ one (q m) + tally q m = ap (tally q) z in
        omega arith
    go (no l) ih = (let s = ap one (e m (omega arith)) in let r = ih (omega arith) in omega arith)

pub tally-or : (p q : ℕ → Bool) (n : ℕ) → tally (λ a. p a || q a) n ≡ tally q n + tally (λ a. p a && not (q a)) n
unfolding tally
tally-or p q zero = refl
tally-or p q (suc n) = (let ih = tally-or p q n in let h = at (p n) (q n) in omega arith)
  where
    at : (x y : Bool) → one (x || y) ≡ one y + one (x && not y)
    at true true = refl
    at true false = refl
    at false true = refl
    at false false = refl

-- a test that only x passes, x being from n on and below m
pub tally-point : (c : ℕ → Bool) (n x m : ℕ) → n ≤ x → x < m → c x ≡ true → ((a : ℕ) → (a ≡ x → ⊥) → c a ≡ false) → tally c m ≡ tally c n + 1
unfolding tally
tally-point c n x zero h l t e = absurd (omega arith)
tally-point c n x (suc m) h l t e = go (dec_lt x m) (λ q. tally-point c n x m h q t e)
  where
    none : (k : ℕ) → k ≤ x → tally c k ≡ 0
    none zero k = refl
    none (suc k) g = (let z = ap one (e k (λ d. omega arith)) in let i = none k (omega arith) in omega arith)

    go : Dec (x < m) → (x < m → tally c m ≡ tally c n + 1) → one (c m) + tally c m ≡ tally c n + 1
    go (yes q) ih = (let z = ap one (e m (λ d. omega arith)) in let r = ih q in omega arith)
    go (no q) ih =
        let d : x ≡ m = omega arith in
        let z = ap one (sym (ap c d) ∙ t) in
        let r = none m (omega arith) in
        let s = none n h in
        omega arith

-- what passes one test passes the other
pub tally-le : (p q : ℕ → Bool) (n : ℕ) → ((a : ℕ) → p a ≡ true → q a ≡ true) → tally p n ≤ tally q n
unfolding tally
tally-le p q zero h = omega arith
tally-le p q (suc n) h = (let ih = tally-le p q n h in let t = at (p n) (q n) (h n) in omega arith)
  where
    at : (x y : Bool) → (x ≡ true → y ≡ true) → one x ≤ one y
    at true y f = (let e = ap one (f refl) in omega arith)
    at false y f = omega arith

tally-none : (n : ℕ) → tally (λ a. false) n ≡ 0
unfolding tally
tally-none zero = refl
tally-none (suc n) = (let ih = tally-none n in omega arith)

members-tally : (L : ℕ) (hs : List ℕ) → Leaves L hs → WithoutDuplicates hs
    → tally (λ a. some (eqb a) hs) (2 * L - 1) ≡ tally (λ a. some (eqb a) hs) (L - 1) + length hs
unfolding some
members-tally L [] ls ds = (let a = tally-none (2 * L - 1) in let b = tally-none (L - 1) in omega arith)
members-tally L (x ∷ xs) ls ds =
    let ih = members-tally L xs ls.2 ds.1 in
    let a = tally-or (λ a. eqb a x) (λ a. some (eqb a) xs) (2 * L - 1) in
    let b = tally-or (λ a. eqb a x) (λ a. some (eqb a) xs) (L - 1) in
    let p =
    tally-point (λ a. eqb a x && not (some (eqb a) xs)) (L - 1) x (2 * L - 1) (omega arith) (omega arith)
    (rw (eq-eqb x x refl, ds.0) refl)
    (λ a d. ap (λ (b : Bool). b && not (some (eqb a) xs)) (ne_eqb a x d)) in
    omega arith

-- ---- together

pub count-covered : (L : ℕ) (hs : List ℕ) → Leaves L hs → WithoutDuplicates hs → 0 < length hs
    → node_count L hs + 2 * length hs ≡ covered_count L hs + 1
unfolding node_count revealed covered_count
count-covered L [] ls ds h = absurd (omega arith)
count-covered L (x ∷ xs) ls ds h =
    let hs = x ∷ xs in
    let q : 2 * L - 1 ≡ 2 * (L - 1) + 1 = omega arith in
    let all = revealed-tally (covered hs) (L - 1) (λ a l. covered-inner L a hs ls (omega arith)) in
    let root = ap one (root-covered x xs) in
    let same = tally-same (covered hs) (λ a. some (eqb a) hs) (L - 1) (2 * L - 1) (omega arith) (λ a l. covered-leaf L a hs ls (omega arith)) in
    let members = members-tally L hs ls ds in
    let e = ap (tally (covered hs)) q in
    omega arith
