-- Where the laws of a shape see the leaf kind: its rule among the shape rules, the default, the bytes of a leaf commitment. Each is said so that whoever cites it
-- need not see the kind. By its cases.
use Prim.Native.Nat.{ℕ, ◌+◌, ◌*◌, ◌≤◌}
use mathlib.Core.Path.{◌≡◌, refl, sym, ap, ◌∙◌}
use mathlib.Core.Bool.{Bool, true, false, ◌&&◌, cond}
use mathlib.Core.List.{List, [], ◌∷◌}
use native.Mathlib.Omega.{arith}
use lib.Dec.{eqb, leb, ltb}
use lib.ListN.{length}
use borrow.Author.Tests.{leb-true, eqb-true, le-leb}
use Rattle.spec.specs.declared.Shape.{Shape}
use Rattle.spec.specs.Bytes.{tabulate, all_zero}
use Rattle.spec.specs.Shapes.{faest128f, ordinary, resolved, level, node_bytes, leaf_commitment_bytes, deeper, depth_of, level_ok, shape_ok}
use Rattle.spec.specs.Primitives.{Primitives, prg}
use Rattle.spec.specs.Leaves.{leaf_commitment}
use Rattle.laws.proofs.Conjunctions.{both_true, and-true}
use Rattle.laws.proofs.Lists.{length-tabulate}

-- ---- the shape rules: that of the kind, and the others

unfoldable pub other_rules : Shape → Bool
other_rules s =
    leb 1 s.tau && leb s.tau 32 && leb 1 s.k && leb (depth_of s 0) 12 && leb s.w 127 && leb 1 s.t && leb s.t 512
    && leb (s.tau * s.k + s.w) (level s) && ltb (deeper s) s.tau && level_ok s.level

rules-apart : (s : Shape) → shape_ok s ≡ true → (other_rules s ≡ true) × (leb s.kind 1 ≡ true)
unfolding shape_ok other_rules
rules-apart s e = both_true _ (leb s.kind 1) e

pub others-kept : (s : Shape) → shape_ok s ≡ true → other_rules s ≡ true
others-kept s e = (rules-apart s e).0

pub kind-max : (s : Shape) → shape_ok s ≡ true → s.kind ≤ 1
kind-max s e = leb-true s.kind 1 (rules-apart s e).1

-- with the rule of the kind kept, the others decide
pub others-decide : (s : Shape) → s.kind ≤ 1 → other_rules s ≡ shape_ok s
unfolding shape_ok other_rules
others-decide s h = and-true _ ∙ ap (λ (x : Bool). other_rules s && x) (sym (le-leb s.kind 1 h))

-- the default has level 128, and is put for no other
pub resolved-level : (s : Shape) → (resolved s).level ≡ s.level
unfolding resolved faest128f
resolved-level s = go (all_zero (s.tau ∷ s.k ∷ s.w ∷ s.t ∷ [])) (eqb s.level 128) (ordinary s) refl
  where
    go : (a b c : Bool) → eqb s.level 128 ≡ b → (cond (a && b && c) faest128f s).level ≡ s.level
    go false b c e = refl
    go true false c e = refl
    go true true false e = refl
    go true true true e = sym (eqb-true s.level 128 e)

-- ---- a leaf commitment: two nodes' bytes or three

pub commitment-bounds : (s : Shape) → 16 ≤ node_bytes s → node_bytes s ≤ 32 → (1 ≤ leaf_commitment_bytes s) × (leaf_commitment_bytes s ≤ 96)
unfolding leaf_commitment_bytes
commitment-bounds s h l = go (ordinary s)
  where
    go : (b : Bool) → (1 ≤ cond b 3 2 * node_bytes s) × (cond b 3 2 * node_bytes s ≤ 96)
    go true = (omega arith, omega arith)
    go false = (omega arith, omega arith)

-- it has its length, whatever the kind
pub commitment-length : (P : Primitives) (s : Shape) (iv : List ℕ) (i : ℕ) (key : List ℕ) → length (leaf_commitment P s iv i key) ≡ leaf_commitment_bytes s
unfolding leaf_commitment prg
commitment-length P s iv i key = go (ordinary s) (leaf_commitment_bytes s) _ _
  where
    go : (o : Bool) (n : ℕ) (f g : ℕ → ℕ) → length (cond o (tabulate n f) (tabulate n g)) ≡ n
    go true n f g = length-tabulate n f
    go false n f g = length-tabulate n g
