-- The numbers that a head and its fields have room for. By the shape rules and the row rule.
use Prim.Native.Nat.{ℕ, ◌+◌, ◌-◌, ◌*◌, ◌/◌, ◌%◌, ◌≤◌, ◌<◌}
use mathlib.Core.Path.{◌≡◌, refl, ap}
use mathlib.Core.Bool.{Bool, true, false, ◌&&◌, cond}
use mathlib.Core.List.{[], ◌∷◌}
use native.Mathlib.Omega.{arith}
use native.Mathlib.Nat.{mul-le-mul}
use lib.Dec.{eqb, leb}
use borrow.Author.Tests.{eqb-true, leb-true, ne_eqb}
use Rattle.spec.specs.declared.Shape.{Shape}
use Rattle.spec.specs.Bytes.{all_zero}
use Rattle.spec.specs.Shapes.{faest128f, ordinary, resolved, level, node_bytes, leaf_commitment_bytes, shape_ok, opening_bytes, corrections_bytes}
use Rattle.spec.specs.Calls.{row_ok}
use Rattle.laws.proofs.Conjunctions.{both_true}
use Rattle.laws.proofs.Concat.{mul-limit}
use Rattle.planning_laws.proofs.LeafKindFacts.{kind-max}
use Rattle.planning_laws.proofs.ShapeFacts.{shape-facts, widths}
use Rattle.record.specs.Record.{head_bytes, corrections_place, opening_place, commitment_place, record_end, version_for, record_bytes}

-- the version that is written for ordinary leaves, and for others
abbrev pub version_by : Bool → ℕ
version_by o = cond o 2 3

pub head_small : (version : ℕ) → head_bytes version ≤ 11
unfolding head_bytes
head_small version = go (eqb version 1) (eqb version 2) (eqb version 3)
  where
    go : (a b c : Bool) → cond a 9 (cond b 10 (cond c 11 0)) ≤ 11
    go true b c = omega arith
    go false true c = omega arith
    go false false true = omega arith
    go false false false = omega arith

-- a head has nine bytes at least, in a version other than 1 the level behind them, and in version 3 the kind behind that
pub head-nine : (version : ℕ) → 0 < head_bytes version → 9 ≤ head_bytes version
unfolding head_bytes
head-nine version = go (eqb version 1) (eqb version 2) (eqb version 3)
  where
    go : (a b c : Bool) → 0 < cond a 9 (cond b 10 (cond c 11 0)) → 9 ≤ cond a 9 (cond b 10 (cond c 11 0))
    go true b c h = omega arith
    go false true c h = omega arith
    go false false true h = omega arith
    go false false false h = omega arith

pub head-level : (version : ℕ) → (version ≡ 1 → ⊥) → 0 < head_bytes version → 10 ≤ head_bytes version
unfolding head_bytes
head-level version n = rw (ne_eqb version 1 n) (go (eqb version 2) (eqb version 3))
  where
    go : (b c : Bool) → 0 < cond b 10 (cond c 11 0) → 10 ≤ cond b 10 (cond c 11 0)
    go true c h = omega arith
    go false true h = omega arith
    go false false h = omega arith

pub head-kind : (version : ℕ) → version ≡ 3 → head_bytes version ≡ 11
unfolding head_bytes
head-kind version e = rw e refl

-- the numbers of a shape as given, which is resolved to an allowed one
pub record Small (s : Shape) : Type 0 where
  pub tau : s.tau ≤ 32
  pub k : s.k ≤ 12
  pub w : s.w ≤ 127
  pub t : s.t ≤ 512
  pub level-max : s.level ≤ 256
  pub level-eight : s.level ≡ 8 * (s.level / 8)
  pub kind : s.kind ≤ 1

pub given-small : (s : Shape) → shape_ok (resolved s) ≡ true → Small s
unfolding resolved all_zero level node_bytes
given-small s ok = go (all_zero (s.tau ∷ s.k ∷ s.w ∷ s.t ∷ []) && eqb s.level 128 && ordinary s) refl
  where
    go : (z : Bool) → (all_zero (s.tau ∷ s.k ∷ s.w ∷ s.t ∷ []) && eqb s.level 128 && ordinary s) ≡ z → Small s
    go true e =
        let y = both_true _ (ordinary s) e in
        let z = both_true (all_zero (s.tau ∷ s.k ∷ s.w ∷ s.t ∷ [])) (eqb s.level 128) y.0 in
        let a = both_true (eqb s.tau 0) _ z.0 in
        let b = both_true (eqb s.k 0) _ a.1 in
        let c = both_true (eqb s.w 0) _ b.1 in
        let d = both_true (eqb s.t 0) true c.1 in
        let p = eqb-true s.tau 0 a.0 in
        let q = eqb-true s.k 0 b.0 in
        let r = eqb-true s.w 0 c.0 in
        let t = eqb-true s.t 0 d.0 in
        let l = eqb-true s.level 128 z.1 in
        let o = eqb-true s.kind 0 y.1 in
        record { tau = omega arith; k = omega arith; w = omega arith; t = omega arith; level-max = omega arith; level-eight = omega arith; kind = omega arith }
    go false e =
        let same : resolved s ≡ s = ap (λ (z : Bool). cond z faest128f s) e in
        let valid : shape_ok s ≡ true = (rw same at ok) in
        let f = shape-facts s valid in
        let v = widths s f in
        record { tau = f.tau-max; k = f.k-max; w = f.w-max; t = f.t-max; level-max = v.level-max; level-eight = v.node-bits; kind = kind-max s valid }

pub row_small : (n : ℕ) → row_ok n ≡ true → n ≤ 65536
unfolding row_ok
row_small n h = leb-true n 65536 (both_true (leb 8 n) (leb n 65536) (both_true (eqb (n % 8) 0) _ h).1).1

pub corrections-small : (s : Shape) (b : ℕ) → shape_ok s ≡ true → b ≤ 8192 → corrections_bytes s b ≤ 253952
unfolding corrections_bytes
corrections-small s b ok h =
    let f = shape-facts s ok in
    let l : s.tau - 1 ≤ 31 = omega arith in
    mul-le-mul h l

pub opening-small : (s : Shape) → shape_ok s ≡ true → opening_bytes s ≤ 19456
unfolding opening_bytes
opening-small s ok =
    let f = shape-facts s ok in
    let v = widths s f in
    let a = mul-limit (leaf_commitment_bytes s) s.tau 96 32 v.commitment-max f.tau-max in
    let b = mul-limit (node_bytes s) s.t 32 512 v.node-max f.t-max in
    omega arith

-- a head with the kind is a byte longer, and the opening behind it shorter
em-opening : (s : Shape) → shape_ok s ≡ true → ordinary s ≡ false → opening_bytes s ≤ 18432
unfolding opening_bytes leaf_commitment_bytes
em-opening s ok e =
    let f = shape-facts s ok in
    let v = widths s f in
    let k : leaf_commitment_bytes s ≡ 2 * node_bytes s = ap (λ (o : Bool). cond o 3 2 * node_bytes s) e in
    let a = mul-limit (leaf_commitment_bytes s) s.tau 64 32 (omega arith) f.tau-max in
    let b = mul-limit (node_bytes s) s.t 32 512 v.node-max f.t-max in
    omega arith

pub record-small : (s : Shape) (b : ℕ) → shape_ok s ≡ true → b ≤ 8192 → record_bytes s b ≤ 273555
unfolding head_bytes corrections_place opening_place commitment_place record_end version_for record_bytes
record-small s b ok h =
    let v = widths s (shape-facts s ok) in
    let c = corrections-small s b ok h in
    let o = go (ordinary s) refl in
    omega arith
  where
    go : (o : Bool) → ordinary s ≡ o → head_bytes (version_by o) + opening_bytes s ≤ 19466
    go true e = (let l = opening-small s ok in omega arith)
    go false e = (let l = em-opening s ok e in omega arith)
