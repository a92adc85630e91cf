-- Strings put one behind another, and the numbers and parts of a record put so. By the laws of `take` and `++`.
use Prim.Native.Nat.{ℕ, ◌+◌, ◌/◌, ◌%◌, ◌≤◌, ◌<◌}
use mathlib.Core.Path.{◌≡◌, refl, sym, ap, ◌∙◌}
use mathlib.Core.Bool.{Bool, true, false, cond}
use mathlib.Core.List.{List, [], ◌∷◌, ◌++◌, append_assoc}
use native.Mathlib.Omega.{arith}
use native.Mathlib.Nat.{div-one, zero-add}
use lib.ListN.{length, get_or, take, set, length-append}
use lib.Seq.{take_all, take-suc-set}
use Rattle.spec.specs.declared.Shape.{Shape}
use Rattle.spec.specs.Bytes.{part, tabulate, digits}
use Rattle.spec.specs.Shapes.{ordinary, resolved, shape_ok}
use Rattle.laws.proofs.Concat.{part-whole}
use Rattle.laws.proofs.Putting.{put-take}
use Rattle.record.specs.Fields.{field_of}
use Rattle.spec.specs.Bytes.{big_endian_bytes}
use Rattle.record.specs.Record.{head_bytes, Contents, version_for, head_for, record_of}
use Rattle.record.proofs.Fields.{length-field}
use Rattle.record.proofs.Bounds.{given-small}
use Rattle.record_writer.specs.Put.{Put}

pub put_first : (x : List ℕ) (b : ℕ) → 0 < length x → Put (b ∷ []) 0 x (set x 0 b)
put_first x b h = record { front = take-suc-set x 0 b h }

-- a of m bytes, then b
pub put_then : {a b x y z : List ℕ} {at : ℕ} (m : ℕ) → length a ≡ m → Put a at x y → Put b (at + m) y z → Put (a ++ b) at x z
put_then {a} {b} {x} {y} {z} {at} m e p q =
    record {
      front =
          ap (λ (n : ℕ). take n z) (let l = length-append a b in let k : at + length (a ++ b) ≡ at + m + length b = omega arith in k)
          ∙ q.front
          ∙ ap (λ (l : List ℕ). l ++ b) (ap (λ (n : ℕ). take (at + n) y) (sym e) ∙ p.front)
          ∙ append_assoc (take at x) a b;
    }

-- a field, then what stands behind it, at place e
pub put_next : (a : List ℕ) {b x y z : List ℕ} {at e : ℕ} → e ≡ at + 4 + length a → Put (field_of a) at x y → Put b e y z → Put (field_of a ++ b) at x z
put_next a {at = at} {e = e} h p q =
    let k : e ≡ at + (4 + length a) = omega arith in
    put_then (4 + length a) (length-field a) p (rw (sym k) q)

-- the n bytes of t copied
pub put-copied : (x y s t d : List ℕ) (at n : ℕ) → s ≡ t → at + n ≤ length x → length t ≡ n → y ≡ take at x ++ (part s 0 n ++ d) → Put t at x y
put-copied x y s t d at n c h e w =
    record {
      front =
          ap (λ (m : ℕ). take (at + m) y) e
          ∙ ap (take (at + n)) (w ∙ ap (λ (l : List ℕ). take at x ++ (l ++ d)) (ap (λ (l : List ℕ). part l 0 n) c ∙ part-whole t n e))
          ∙ put-take at n x t d (omega arith) e;
    }

pub put_whole : {a x y : List ℕ} → Put a 0 x y → length y ≡ length a → y ≡ a
put_whole {a} {x} {y} p e =
    sym (take_all (length a) y (omega arith)) ∙ ap (λ (n : ℕ). take n y) (sym (zero-add (length a))) ∙ p.front

-- ---- numbers

pub two-of : (n : ℕ) → big_endian_bytes 2 n ≡ n / 256 % 256 ∷ n % 256 ∷ []
unfolding big_endian_bytes digits tabulate
two-of n = ap (λ (m : ℕ). n / 256 % 256 ∷ m % 256 ∷ []) (div-one n)

pub four-of : (n : ℕ) → big_endian_bytes 4 n ≡ n / 16777216 % 256 ∷ n / 65536 % 256 ∷ n / 256 % 256 ∷ n % 256 ∷ []
unfolding big_endian_bytes digits tabulate
four-of n = ap (λ (m : ℕ). n / 16777216 % 256 ∷ n / 65536 % 256 ∷ n / 256 % 256 ∷ m % 256 ∷ []) (div-one n)

-- the head's bytes: its numbers fit them, and the kind is among them where the version has it
pub head_bytes_lem : (s : Shape) (n a b d hi lo l m : ℕ) (row : List ℕ) → shape_ok (resolved s) ≡ true → a ≡ s.tau % 256 → b ≡ s.k % 256 → d ≡ s.w % 256 → hi ≡ s.t / 256 % 256
    → lo ≡ s.t % 256 → l ≡ s.level / 8 % 256 → m ≡ s.kind % 256 → row ≡ big_endian_bytes 4 n
    → take (head_bytes (version_for s)) (a ∷ b ∷ d ∷ hi ∷ lo ∷ get_or row 0 0 ∷ get_or row 1 0 ∷ get_or row 2 0 ∷ get_or row 3 0 ∷ l ∷ m ∷ []) ≡ head_for s n
unfolding head_bytes version_for head_for
head_bytes_lem s n a b d hi lo l m row ok e₁ e₂ e₃ e₄ e₅ e₆ e₇ e₈ =
    let f = given-small s ok in
    let g₁ : a ≡ s.tau = omega arith in
    let g₂ : b ≡ s.k = omega arith in
    let g₃ : d ≡ s.w = omega arith in
    let g₄ : l ≡ s.level / 8 = omega arith in
    let g₅ : m ≡ s.kind = omega arith in
    rw (g₁, g₂, g₃, e₄, e₅, g₄, g₅, e₈, two-of s.t, four-of n) (go (ordinary s) _ _ _ _ _ _ _ _ _ _)
  where
    go : (o : Bool) (x₀ x₁ x₂ x₃ x₄ x₅ x₆ x₇ x₈ x₉ : ℕ)
        → take (head_bytes (cond o 2 3)) (x₀ ∷ x₁ ∷ x₂ ∷ x₃ ∷ x₄ ∷ x₅ ∷ x₆ ∷ x₇ ∷ x₈ ∷ x₉ ∷ s.kind ∷ []) ≡ x₀ ∷ x₁ ∷ x₂ ∷ x₃ ∷ x₄ ∷ x₅ ∷ x₆ ∷ x₇ ∷ x₈ ∷ x₉ ∷ cond o [] (s.kind ∷ [])
    go true x₀ x₁ x₂ x₃ x₄ x₅ x₆ x₇ x₈ x₉ = refl
    go false x₀ x₁ x₂ x₃ x₄ x₅ x₆ x₇ x₈ x₉ = refl

-- ---- the whole

-- a version v and a head h
pub put-version : (s : Shape) (n : ℕ) {v : ℕ} {h x y z : List ℕ} → v ≡ version_for s → h ≡ head_for s n → Put (v ∷ []) 0 x y → Put (field_of h) 1 y z → Put (version_for s ∷ field_of (head_for s n)) 0 x z
put-version s n e f p q = put_then 1 refl (rw e at p) (rw f at q)

-- a₁, .., a₅ are the places behind fields one to five
pub put_record : (c : Contents) (a₁ a₂ a₃ a₄ a₅ : ℕ) {x x₁ x₂ x₃ x₄ x₅ y : List ℕ} → a₁ ≡ 5 + length (head_for c.shape c.row) → a₂ ≡ a₁ + 4 + length c.iv
    → a₃ ≡ a₂ + 4 + length c.challenge → a₄ ≡ a₃ + 4 + length c.corrections → a₅ ≡ a₄ + 4 + length c.opening
    → Put (version_for c.shape ∷ field_of (head_for c.shape c.row)) 0 x x₁ → Put (field_of c.iv) a₁ x₁ x₂ → Put (field_of c.challenge) a₂ x₂ x₃
    → Put (field_of c.corrections) a₃ x₃ x₄ → Put (field_of c.opening) a₄ x₄ x₅ → Put (field_of c.commitment) a₅ x₅ y → Put (record_of c) 0 x y
unfolding record_of
put_record c a₁ a₂ a₃ a₄ a₅ e₁ e₂ e₃ e₄ e₅ p₀ p₁ p₂ p₃ p₄ p₅ =
    let l = length-field (head_for c.shape c.row) in
    let z : a₁ ≡ 0 + a₁ = omega arith in
    put_then a₁ (omega arith) p₀
    (rw z at (put_next c.iv e₂ p₁ (put_next c.challenge e₃ p₂ (put_next c.corrections e₄ p₃ (put_next c.opening e₅ p₄ p₅)))))

-- its length, by the lengths of the fields
pub length-record : (c : Contents)
    → length (record_of c)
    ≡ 25 + length (head_for c.shape c.row) + length c.iv + length c.challenge + length c.corrections + length c.opening + length c.commitment
unfolding record_of
length-record c = simp (length-append, length-field) (omega arith)
