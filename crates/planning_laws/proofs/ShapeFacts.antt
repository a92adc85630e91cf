-- The shape rules as facts, and the numbers that follow: a vector's bits lie in the challenge, its leaves in the tree, and no tree is large. By taking the
-- conjunction of the rules apart.
use Prim.Native.Nat.{ℕ, zero, suc, ◌+◌, ◌-◌, ◌*◌, ◌/◌, ◌%◌, ◌^◌, ◌≤◌, ◌<◌}
use mathlib.Core.Path.{◌≡◌, refl, sym, ap, ap₂, subst, ◌∙◌}
use mathlib.Core.Bool.{Bool, true, false, ◌&&◌, ◌||◌, true≢false}
use native.Mathlib.Omega.{arith}
use native.Mathlib.Nat.{mul-le-mul}
use native.Mathlib.Decide.{dec_lt}
use lib.Dec.{eqb, leb, ltb}
use lib.Pow.{pow_mono, pow_pos}
use borrow.Author.Tests.{leb-true, ltb-true, eqb-true, le-leb, lt-ltb, le-ltb, eq-eqb, ne_eqb}
use Rattle.spec.specs.declared.Shape.{Shape}
use Rattle.spec.specs.Shapes.{level, node_bytes, challenge_bytes, leaf_commitment_bytes, hash_bytes, key_words, deeper, depth_of, entries_of, first_bit, leaves, level_ok, shape_ok}
use Rattle.laws.proofs.Conjunctions.{refuted}
use Rattle.laws.proofs.Segments.{segment-before}
use Rattle.planning_laws.proofs.Depths.{depth-range, depth-deep, depth-flat, bit-next, leaves-split}
use Rattle.planning_laws.proofs.LeafKindFacts.{other_rules, others-kept, commitment-bounds}

pub record ShapeFacts (s : Shape) : Type 0 where
  pub tau-pos : 1 ≤ s.tau
  pub tau-max : s.tau ≤ 32
  pub k-pos : 1 ≤ s.k
  pub k-max : s.k ≤ 12
  pub depth-max : depth_of s 0 ≤ 12
  pub w-max : s.w ≤ 127
  pub t-pos : 1 ≤ s.t
  pub t-max : s.t ≤ 512
  pub total : s.tau * s.k + deeper s + s.w ≡ level s
  pub few : deeper s < s.tau
  pub level-is : level_ok s.level ≡ true

all-ten : (a b c d e f g h i j : Bool) → (a && b && c && d && e && f && g && h && i && j) ≡ true
    → (a ≡ true) × (b ≡ true) × (c ≡ true) × (d ≡ true) × (e ≡ true) × (f ≡ true) × (g ≡ true) × (h ≡ true) × (i ≡ true) × (j ≡ true)
all-ten false b c d e f g h i j p = absurd (true≢false (sym p))
all-ten true false c d e f g h i j p = absurd (true≢false (sym p))
all-ten true true false d e f g h i j p = absurd (true≢false (sym p))
all-ten true true true false e f g h i j p = absurd (true≢false (sym p))
all-ten true true true true false f g h i j p = absurd (true≢false (sym p))
all-ten true true true true true false g h i j p = absurd (true≢false (sym p))
all-ten true true true true true true false h i j p = absurd (true≢false (sym p))
all-ten true true true true true true true false i j p = absurd (true≢false (sym p))
all-ten true true true true true true true true false j p = absurd (true≢false (sym p))
all-ten true true true true true true true true true false p = absurd (true≢false (sym p))
all-ten true true true true true true true true true true p = (refl, refl, refl, refl, refl, refl, refl, refl, refl, refl)

pub deeper-is : (s : Shape) → deeper s ≡ level s - s.w - s.tau * s.k
unfolding deeper
deeper-is s = refl

facts-of : (s : Shape) → other_rules s ≡ true → ShapeFacts s
unfolding other_rules
facts-of s e =
    let q =
    all-ten (leb 1 s.tau) (leb s.tau 32) (leb 1 s.k) (leb (depth_of s 0) 12) (leb s.w 127) (leb 1 s.t) (leb s.t 512)
    (leb (s.tau * s.k + s.w) (level s)) (ltb (deeper s) s.tau) (level_ok s.level) e in
    let depth : depth_of s 0 ≤ 12 = leb-true _ _ q.3 in
    let room : s.tau * s.k + s.w ≤ level s = leb-true _ _ q.7 in
    record {
      tau-pos = leb-true _ _ q.0;
      tau-max = leb-true _ _ q.1;
      k-pos = leb-true _ _ q.2;
      k-max = (let r = depth-range s 0 in omega arith);
      depth-max = depth;
      w-max = leb-true _ _ q.4;
      t-pos = leb-true _ _ q.5;
      t-max = leb-true _ _ q.6;
      total = (let d = deeper-is s in omega arith);
      few = ltb-true _ _ q.8;
      level-is = q.9;
    }

pub shape-facts : (s : Shape) → shape_ok s ≡ true → ShapeFacts s
shape-facts s e = facts-of s (others-kept s e)

pub shape-refused : (s : Shape) → (ShapeFacts s → ⊥) → false ≡ shape_ok s
shape-refused s h = refuted (shape_ok s) (λ e. h (shape-facts s e))

rules-kept : (s : Shape) → 1 ≤ s.tau → s.tau ≤ 32 → 1 ≤ s.k → depth_of s 0 ≤ 12 → s.w ≤ 127 → 1 ≤ s.t → s.t ≤ 512 → s.tau * s.k + s.w ≤ level s
    → deeper s < s.tau → level_ok s.level ≡ true → true ≡ other_rules s
unfolding other_rules
rules-kept s a b c d e f g h i j =
    simp (
      le-leb 1 s.tau a,
      le-leb s.tau 32 b,
      le-leb 1 s.k c,
      le-leb (depth_of s 0) 12 d,
      le-leb s.w 127 e,
      le-leb 1 s.t f,
      le-leb s.t 512 g,
      le-leb (s.tau * s.k + s.w) (level s) h,
      lt-ltb (deeper s) s.tau i,
      j,
    )

-- with every other limit kept, the depth of the deeper vectors decides
pub rules-by-depth : (s : Shape) (r : ℕ) → 1 ≤ s.tau → s.tau ≤ 32 → 1 ≤ s.k → s.k ≤ 12 → s.w ≤ 127 → 1 ≤ s.t → s.t ≤ 512 → s.tau * s.k + s.w ≤ level s
    → r ≡ deeper s → r < s.tau → level_ok s.level ≡ true → (eqb r 0 || ltb s.k 12) ≡ other_rules s
rules-by-depth s r a b c d e f g h i j n = go (dec_lt 0 r) (dec_lt s.k 12)
  where
    accepted : depth_of s 0 ≤ 12 → true ≡ other_rules s
    accepted l = rules-kept s a b c l e f g h (omega arith) n

    go : Dec (0 < r) → Dec (s.k < 12) → (eqb r 0 || ltb s.k 12) ≡ other_rules s
    go (no p) q = ap (λ (x : Bool). x || ltb s.k 12) (eq-eqb r 0 (omega arith)) ∙ accepted (let z = depth-flat s 0 (omega arith) in omega arith)
    go (yes p) (yes q) =
        ap₂ ◌||◌ (ne_eqb r 0 (λ z. omega arith)) (lt-ltb s.k 12 q) ∙ accepted (let z = depth-deep s 0 (omega arith) in omega arith)
    go (yes p) (no q) =
        ap₂ ◌||◌ (ne_eqb r 0 (λ z. omega arith)) (le-ltb s.k 12 (omega arith))
        ∙ refuted (other_rules s) (λ e. let z = depth-deep s 0 (omega arith) in omega (arith, (facts-of s e).depth-max))

-- ---- widths: what holds of them at every level

pub record Widths (s : Shape) : Type 0 where
  pub level-max : level s ≤ 256
  pub node-min : 16 ≤ node_bytes s
  pub node-max : node_bytes s ≤ 32
  pub node-eight : node_bytes s % 8 ≡ 0
  pub node-words : node_bytes s ≡ 4 * key_words s
  pub node-bits : level s ≡ 8 * node_bytes s
  pub challenge-node : challenge_bytes s ≡ node_bytes s
  pub commitment-min : 1 ≤ leaf_commitment_bytes s
  pub commitment-max : leaf_commitment_bytes s ≤ 96
  pub hash-nodes : hash_bytes s ≡ 2 * node_bytes s

-- what holds at 128, 192 and 256 holds at every level of a shape
pub by_level : (A : ℕ → Type 0) → A 128 → A 192 → A 256 → (n : ℕ) → level_ok n ≡ true → A n
by_level A a b c n e = go (eqb n 128) (eqb n 192) (eqb n 256) refl refl refl e
  where
    go : (x y z : Bool) → eqb n 128 ≡ x → eqb n 192 ≡ y → eqb n 256 ≡ z → (x || (y || z)) ≡ true → A n
    go true y z p q r e = subst A (sym (eqb-true n 128 p)) a
    go false true z p q r e = subst A (sym (eqb-true n 192 q)) b
    go false false true p q r e = subst A (sym (eqb-true n 256 r)) c
    go false false false p q r e = absurd (true≢false (sym e))

-- a shape's level and what its widths are made from
record Multiple (n : ℕ) : Type 0 where
  pub least : 128 ≤ n
  pub most : n ≤ 256
  pub eight : n ≡ 64 * (n / 64)

level-multiple : (n : ℕ) → level_ok n ≡ true → Multiple n
level-multiple = by_level Multiple (record { least = omega arith; most = omega arith; eight = refl }) (record { least = omega arith; most = omega arith; eight = refl }) (record { least = omega arith; most = omega arith; eight = refl })

pub widths : (s : Shape) → ShapeFacts s → Widths s
unfolding level node_bytes challenge_bytes hash_bytes key_words
widths s f =
    let m = level-multiple s.level f.level-is in
    let c = commitment-bounds s (omega arith) (omega arith) in
    record {
      level-max = m.most;
      node-min = omega arith;
      node-max = omega arith;
      node-eight = omega arith;
      node-words = omega arith;
      node-bits = omega arith;
      challenge-node = refl;
      commitment-min = c.0;
      commitment-max = c.1;
      hash-nodes = refl;
    }

-- ---- numbers

pub bit-all : (s : Shape) → ShapeFacts s → first_bit s s.tau + s.w ≡ level s
unfolding first_bit
bit-all s f = omega arith

pub vector-bits : (s : Shape) (i : ℕ) → ShapeFacts s → i < s.tau → first_bit s i + depth_of s i ≤ level s
vector-bits s i f h =
    let a = segment-before (first_bit s) (depth_of s) s.tau i (λ n l. bit-next s n) h in
    let b = bit-all s f in
    omega arith

pub depth_small : (s : Shape) (i : ℕ) → ShapeFacts s → depth_of s i ≤ 12
depth_small s i f = (let r = depth-range s i in omega arith)

-- with depth 12 none is deeper
none-deeper : (r k : ℕ) → 12 ≤ k → (0 < r → k < 12) → r ≡ 0
none-deeper r k h d = go (dec_lt 0 r)
  where
    go : Dec (0 < r) → r ≡ 0
    go (yes p) = absurd (let z = d p in omega arith)
    go (no p) = omega arith

-- a vector of depth 12 has most leaves for its bits; the largest tree has 21 of them
leaves-bound : (tau r k : ℕ) → tau ≤ 32 → 1 ≤ k → k ≤ 12 → (0 < r → k < 12) → r < tau
    → (3 * ((tau + r) * 2 ^ k) ≤ 1024 * (tau * k + r)) × (tau * k + r ≤ 256 → (tau + r) * 2 ^ k ≤ 86016)
leaves-bound tau r zero a p b d e = absurd (omega arith)
leaves-bound tau r (suc zero) a p b d e = (omega arith, λ c. omega arith)
leaves-bound tau r (suc (suc zero)) a p b d e = (omega arith, λ c. omega arith)
leaves-bound tau r (suc (suc (suc zero))) a p b d e = (omega arith, λ c. omega arith)
leaves-bound tau r (suc (suc (suc (suc zero)))) a p b d e = (omega arith, λ c. omega arith)
leaves-bound tau r (suc (suc (suc (suc (suc zero))))) a p b d e = (omega arith, λ c. omega arith)
leaves-bound tau r (suc (suc (suc (suc (suc (suc zero)))))) a p b d e = (omega arith, λ c. omega arith)
leaves-bound tau r (suc (suc (suc (suc (suc (suc (suc zero))))))) a p b d e = (omega arith, λ c. omega arith)
leaves-bound tau r (suc (suc (suc (suc (suc (suc (suc (suc zero)))))))) a p b d e = (omega arith, λ c. omega arith)
leaves-bound tau r (suc (suc (suc (suc (suc (suc (suc (suc (suc zero))))))))) a p b d e = (omega arith, λ c. omega arith)
leaves-bound tau r (suc (suc (suc (suc (suc (suc (suc (suc (suc (suc zero)))))))))) a p b d e = (omega arith, λ c. omega arith)
leaves-bound tau r (suc (suc (suc (suc (suc (suc (suc (suc (suc (suc (suc zero))))))))))) a p b d e = (omega arith, λ c. omega arith)
leaves-bound tau r (suc (suc (suc (suc (suc (suc (suc (suc (suc (suc (suc (suc zero)))))))))))) a p b d e = (let z = none-deeper r 12 (omega arith) d in (omega arith, λ c. omega arith))
leaves-bound tau r (suc (suc (suc (suc (suc (suc (suc (suc (suc (suc (suc (suc (suc k))))))))))))) a p b d e = absurd (omega arith)

leaves-bounds : (s : Shape) → ShapeFacts s → (3 * leaves s ≤ 1024 * (s.tau * s.k + deeper s)) × (s.tau * s.k + deeper s ≤ 256 → leaves s ≤ 86016)
unfolding leaves
leaves-bounds s f =
    leaves-bound s.tau (deeper s) s.k f.tau-max f.k-pos f.k-max (λ h. let d = depth-deep s 0 h in omega (arith, f.depth-max)) f.few

pub leaves-max : (s : Shape) → ShapeFacts s → leaves s ≤ 86016
leaves-max s f = (let w = widths s f in (leaves-bounds s f).1 (omega (arith, f.total)))

pub leaves-level : (s : Shape) → ShapeFacts s → 3 * leaves s ≤ 1024 * level s
leaves-level s f = (let b = (leaves-bounds s f).0 in omega (arith, f.total))

pub leaves-pos : (s : Shape) → ShapeFacts s → 1 ≤ leaves s
leaves-pos s f =
    let a = leaves-split s in
    let b : 1 * 1 ≤ s.tau * 2 ^ s.k = mul-le-mul f.tau-pos (pow_pos s.k) in
    omega arith

pub entries-small : (s : Shape) (i : ℕ) → ShapeFacts s → entries_of s i ≤ 4096
unfolding entries_of
entries-small s i f = pow_mono (depth_small s i f)
