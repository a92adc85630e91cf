-- The leaf of version 1: its message, written in two parts, and its hash, copied out in two parts. By the laws of `take`, `drop` and `++`.
use Prim.Native.Nat.{ℕ, ◌+◌, ◌*◌}
use mathlib.Core.Path.{◌≡◌, sym, ap, ap₂, ◌∙◌}
use mathlib.Core.Bool.{Bool, false, cond}
use mathlib.Core.List.{List, ◌++◌, append-nil}
use native.Mathlib.Nat.{zero-add}
use native.Mathlib.Omega.{arith}
use lib.ListN.{length, take, drop, length-append, length-drop}
use lib.Seq.{take_all, take_at, drop-length}
use Rattle.spec.specs.declared.Shape.{Shape}
use Rattle.spec.specs.Shapes.{ordinary, node_bytes, leaf_commitment_bytes, rate}
use Rattle.spec.specs.Hashes.{hash0}
use Rattle.spec.specs.Sponge.{sponge, shake}
use Rattle.spec.specs.Primitives.{faest}
use Rattle.spec.specs.Version1.{faest1, leaf_commitment_bytes1, hashed_leaf, leaf_seed1, leaf_commitment1}
use Rattle.laws.proofs.Lists.{length-tabulate}

-- a buffer of n bytes, written whole
copied : (n : ℕ) (y d : List ℕ) → length d ≡ n → y ++ drop (0 + n) d ≡ y
copied n y d e = ap (λ (m : ℕ). y ++ drop m d) (zero-add n ∙ sym e) ∙ ap (λ (l : List ℕ). y ++ l) (drop-length d) ∙ append-nil y

-- the key, and the IV behind it
message : (key iv d : List ℕ) (n : ℕ) → length key ≡ n → length iv ≡ 16 → length d ≡ n + 16
    → take n (take n key ++ drop (0 + n) d) ++ (take 16 iv ++ drop (n + 16) (take n key ++ drop (0 + n) d)) ≡ key ++ iv
message key iv d n ek ei ed =
    let front : take n key ≡ key = take_all n key (omega arith) in
    let m = key ++ drop (0 + n) d in
    let long : n + 16 ≡ length m = sym (simp (length-append, length-drop) (omega arith)) in
    ap (λ (k : List ℕ). take n (k ++ drop (0 + n) d) ++ (take 16 iv ++ drop (n + 16) (k ++ drop (0 + n) d))) front
    ∙ ap₂ (λ (a b : List ℕ). a ++ b) (take_at key (drop (0 + n) d) n ek)
    (ap₂ (λ (a b : List ℕ). a ++ b) (take_all 16 iv (omega arith)) (ap (λ (j : ℕ). drop j m) long ∙ drop-length m) ∙ append-nil iv)

-- leaves of this kind have commitments of version 1's length
pub width_one : (s : Shape) → ordinary s ≡ false → leaf_commitment_bytes s ≡ leaf_commitment_bytes1 s
unfolding leaf_commitment_bytes leaf_commitment_bytes1
width_one s o = ap (λ (b : Bool). cond b 3 2 * node_bytes s) o

pub h0-length : (r : ℕ) (m : List ℕ) (n : ℕ) → length (hash0 r m n) ≡ n
unfolding hash0 shake sponge
h0-length r m n = length-tabulate n _

-- what is written: the message's first part, the message, the hash, the seed and the commitment
module _ (s : Shape) (key iv d e f g : List ℕ) (n r : ℕ) (o : ordinary s ≡ false) (en : n ≡ node_bytes s) (er : r ≡ rate s)
    (ek : length key ≡ node_bytes s) (ei : length iv ≡ 16) (ed : length d ≡ node_bytes s + 16) (ee : length e ≡ node_bytes s + leaf_commitment_bytes s)
    (ef : length f ≡ node_bytes s) (eg : length g ≡ leaf_commitment_bytes s)
    (m₁ m h seed out : List ℕ) (e₁ : m₁ ≡ take n key ++ drop (0 + n) d) (em : m ≡ take n m₁ ++ (take 16 iv ++ drop (n + 16) m₁))
    (eh : h ≡ hash0 r m (length e)) (es : seed ≡ take n h ++ drop (0 + n) f) (eo : out ≡ take (length g) (drop n h) ++ drop (0 + length g) g) where
  hash-is : h ≡ hashed_leaf faest1 s iv key
  unfolding faest faest1 hashed_leaf
  hash-is =
      eh
      ∙ ap₂ (λ (r : ℕ) (x : List ℕ). hash0 r x (length e)) er
      (em ∙ ap (λ (x : List ℕ). take n x ++ (take 16 iv ++ drop (n + 16) x)) e₁ ∙ message key iv d n (ek ∙ sym en) ei (ed ∙ ap (λ (n : ℕ). n + 16) (sym en)))
      ∙ ap (hash0 (rate s) (key ++ iv)) (ee ∙ ap (λ (w : ℕ). node_bytes s + w) (width_one s o))

  pub seed-one : seed ≡ leaf_seed1 faest1 s iv key
  unfolding leaf_seed1
  seed-one = es ∙ copied n (take n h) f (ef ∙ sym en) ∙ ap₂ take en hash-is

  pub commitment-one : out ≡ leaf_commitment1 faest1 s iv key
  unfolding leaf_commitment1
  commitment-one =
      let long : length h ≡ length e = ap length eh ∙ h0-length r m (length e) in
      eo
      ∙ copied (length g) (take (length g) (drop n h)) g (let z : length g ≡ length g = omega arith in z)
      ∙ take_all (length g) (drop n h) (simp length-drop (omega arith))
      ∙ ap₂ drop en hash-is
