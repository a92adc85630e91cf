-- A field in a string: what was written is read, and what was read is what is written. By the laws of `take`, `drop` and `++`.
use Prim.Native.Nat.{ℕ, zero, suc, ◌+◌, ◌≤◌, ◌<◌, ◌^◌}
use mathlib.Core.Path.{◌≡◌, refl, sym, ap, ap₂, ◌∙◌}
use mathlib.Core.Bool.{true, ◌&&◌}
use mathlib.Core.List.{List, [], ◌∷◌, ◌++◌, append_assoc}
use native.Mathlib.Omega.{arith}
use lib.Dec.{leb}
use lib.ListN.{length, take, drop, length-append, length-drop, take-append-drop}
use lib.Seq.{take_at, take-take, length-take-le, drop_at, drop-drop, take-add}
use borrow.Author.Tests.{le-leb, eq-eqb, leb-true, eqb-true}
use Rattle.spec.specs.Bytes.{part}
use Rattle.laws.proofs.Conjunctions.{both_true}
use Rattle.laws.proofs.Lists.{length_part}
use Rattle.laws.proofs.Numbers.{Digits}
use Rattle.laws.proofs.Strings.{digits-part}
use Rattle.record.specs.Fields.{field_ok, field_at, behind, field_of}
use Rattle.spec.specs.Bytes.{big_endian, big_endian_bytes}
use Rattle.laws.proofs.BigEndian.{big-endian-bytes, length-big-endian, bytes-big-endian}

pub length-field : (x : List ℕ) → length (field_of x) ≡ 4 + length x
unfolding field_of
length-field x = length-append (big_endian_bytes 4 (length x)) x ∙ ap (λ (n : ℕ). n + length x) (length-big-endian 4 (length x))

-- the field of x, of n bytes, stands at place `at` of rec, with `post` behind it
module _ (rec x post : List ℕ) (at n : ℕ) (stands : drop at rec ≡ field_of x ++ post) (long : length x ≡ n) where
  pub field_end : at + 4 + n + length post ≡ length rec
  field_end = let a = ap length stands ∙ length-append (field_of x) post in omega (arith, length-field x, length-drop at rec)

  pub field-stands : n < 2 ^ 32 → field_ok rec at n ≡ true
  unfolding field_ok field_of
  field-stands small =
      let head : part rec at 4 ≡ big_endian_bytes 4 (length x) =
      ap (take 4) (stands ∙ append_assoc (big_endian_bytes 4 (length x)) x post) ∙ take_at (big_endian_bytes 4 (length x)) (x ++ post) 4 (length-big-endian 4 (length x)) in
      let r = field_end in
      ap₂ ◌&&◌ (le-leb (at + 4 + n) (length rec) (omega arith)) (eq-eqb (big_endian (part rec at 4)) n (ap big_endian head ∙ big-endian-bytes 4 (length x) (omega arith) ∙ long))

  pub field-read : field_at rec at n ≡ x
  unfolding field_of
  field-read =
      ap (take n)
      (sym (drop-drop 4 at rec)
      ∙ ap (drop 4) (stands ∙ append_assoc (big_endian_bytes 4 (length x)) x post)
      ∙ drop_at (big_endian_bytes 4 (length x)) (x ++ post) 4 (length-big-endian 4 (length x)))
      ∙ take_at x post n long

  pub field-behind : drop (behind at n) rec ≡ post
  field-behind =
      ap (λ (m : ℕ). drop m rec) (let z : at + 4 + n ≡ at + (4 + n) = omega arith in z)
      ∙ sym (drop-drop (4 + n) at rec)
      ∙ ap (drop (4 + n)) stands
      ∙ drop_at (field_of x) post (4 + n) (length-field x ∙ ap (λ (m : ℕ). 4 + m) long)

-- a field that is there
module _ (rec : List ℕ) (at n : ℕ) (ok : field_ok rec at n ≡ true) where
  pub field_room : behind at n ≤ length rec
  unfolding field_ok
  field_room = leb-true (at + 4 + n) (length rec) (both_true (leb (at + 4 + n) (length rec)) _ ok).0

  pub field-length : length (field_at rec at n) ≡ n
  field-length = length_part rec (at + 4) n field_room

  -- what stands at its place is that field, as it is written
  pub field-written : Digits 8 rec → drop at rec ≡ field_of (field_at rec at n) ++ drop (behind at n) rec
  unfolding field_ok field_of
  field-written bytes =
      let four = length_part rec at 4 (let r = field_room in omega arith) in
      let value : big_endian (part rec at 4) ≡ n = eqb-true (big_endian (part rec at 4)) n (both_true (leb (at + 4 + n) (length rec)) _ ok).1 in
      let head : part rec at 4 ≡ big_endian_bytes 4 (length (field_at rec at n)) =
      sym (bytes-big-endian (part rec at 4) (digits-part 8 rec at 4 bytes)) ∙ ap₂ big_endian_bytes four (value ∙ sym field-length) in
      sym (take-append-drop (4 + n) (drop at rec))
      ∙ ap₂ (λ (a b : List ℕ). a ++ b)
      (take-add 4 n (drop at rec) ∙ ap₂ (λ (a b : List ℕ). a ++ b) head (ap (take n) (drop-drop 4 at rec)))
      (drop-drop (4 + n) at rec ∙ ap (λ (m : ℕ). drop m rec) (let z : at + (4 + n) ≡ at + 4 + n = omega arith in z))

-- ---- a string cut at e, behind a field

part_cut : (e : ℕ) (rec : List ℕ) (at n : ℕ) → at + n ≤ e → part (take e rec) at n ≡ part rec at n
part_cut e rec zero n h = take-take n e rec (omega arith)
part_cut zero rec (suc at) n h = absurd (omega arith)
part_cut (suc e) [] (suc at) n h = refl
part_cut (suc e) (x ∷ rec) (suc at) n h = part_cut e rec at n (omega arith)

pub field_cut : (e : ℕ) (rec : List ℕ) (at n : ℕ) → behind at n ≤ e → field_at (take e rec) at n ≡ field_at rec at n
field_cut e rec at n h = part_cut e rec (at + 4) n h

pub field-kept : (e : ℕ) (rec : List ℕ) (at n : ℕ) → behind at n ≤ e → e ≤ length rec → field_ok rec at n ≡ true → field_ok (take e rec) at n ≡ true
unfolding field_ok
field-kept e rec at n h l ok =
    rw (length-take-le e rec l, le-leb (at + 4 + n) e h, part_cut e rec at 4 (omega arith)) (both_true (leb (at + 4 + n) (length rec)) _ ok).1
