-- A record whose fields are there, cut behind the sixth, is read, and says the same. Each field ends within the part that is left.
use Prim.Native.Nat.{ℕ, ◌+◌, ◌/◌, ◌≤◌, ◌<◌}
use mathlib.Core.Path.{◌≡◌, refl}
use mathlib.Core.Bool.{true, ◌&&◌}
use mathlib.Core.List.{List, ◌++◌}
use native.Mathlib.Omega.{arith}
use lib.ListN.{length, take, get_or}
use lib.Seq.{length-take-le, get_or-take}
use borrow.Author.Tests.{eq-eqb}
use Rattle.spec.specs.declared.Shape.{Shape}
use Rattle.spec.specs.Shapes.{resolved, challenge_bytes, hash_bytes, iv_bytes, opening_bytes, corrections_bytes}
use Rattle.laws.proofs.Refusals.{all-passed}
use Rattle.record.specs.Fields.{field_ok}
use Rattle.record.specs.Record.{version_of, head_bytes, version_ok, iv_place, challenge_place, corrections_place, opening_place, commitment_place, record_end, rest_ok, contents_of, head_tests, rest_tests, head_number, fields_number, end_of, read_number}
use Rattle.record.proofs.Fields.{field_room, field_cut, field-kept}
use Rattle.record.proofs.Reading.{Rest, front-version, front-head, front-said, front-row, fields-front, fields-rest}

-- the places ascend, and the first record byte stands before them
pub end-least : (h : ℕ) (s : Shape) (b : ℕ) → 41 ≤ record_end h s b
unfolding corrections_place opening_place commitment_place record_end
end-least h s b = omega arith

module _ (rec : List ℕ) (ok : fields_number rec ≡ 0) where
  abbrev v : ℕ
  v = version_of rec

  abbrev h : ℕ
  h = head_bytes v

  abbrev s : Shape
  s = resolved (contents_of rec).shape

  abbrev b : ℕ
  b = (contents_of rec).row / 8

  abbrev e : ℕ
  e = end_of rec

  abbrev cut : List ℕ
  cut = take (end_of rec) rec

  front : head_number rec ≡ 0
  front = fields-front rec ok

  rest : Rest (head_bytes (version_of rec)) (resolved (contents_of rec).shape) ((contents_of rec).row / 8) rec
  rest = fields-rest rec ok

  pub end-within : end_of rec ≤ length rec
  unfolding record_end
  end-within = field_room rec (commitment_place h s b) (hash_bytes s) rest.4

  first : get_or cut 0 0 ≡ get_or rec 0 0
  first = get_or-take e rec 0 0 (let l = end-least h s b in omega arith)

  pub cut-contents : contents_of (take (end_of rec) rec) ≡ contents_of rec
  unfolding corrections_place opening_place commitment_place record_end contents_of
  cut-contents =
      rw (
        first,
        field_cut e rec 1 h (omega arith),
        field_cut e rec (iv_place h) iv_bytes (omega arith),
        field_cut e rec (challenge_place h) (challenge_bytes s) (omega arith),
        field_cut e rec (corrections_place h s) (corrections_bytes s b) (omega arith),
        field_cut e rec (opening_place h s b) (opening_bytes s) (omega arith),
        field_cut e rec (commitment_place h s b) (hash_bytes s) (omega arith),
      )
      refl

  kept : rest_ok h s b cut ≡ true
  unfolding corrections_place opening_place commitment_place record_end rest_ok
  kept =
      let l = end-within in
      rw (
        field-kept e rec (iv_place h) iv_bytes (omega arith) l rest.0,
        field-kept e rec (challenge_place h) (challenge_bytes s) (omega arith) l rest.1,
        field-kept e rec (corrections_place h s) (corrections_bytes s b) (omega arith) l rest.2,
        field-kept e rec (opening_place h s b) (opening_bytes s) (omega arith) l rest.3,
        field-kept e rec (commitment_place h s b) (hash_bytes s) (omega arith) l rest.4,
      )
      refl

  there : field_ok cut 1 h ≡ true
  unfolding corrections_place opening_place commitment_place record_end
  there = field-kept e rec 1 h (omega arith) end-within (front-head rec front)

  pub cut-read : read_number (take (end_of rec) rec) ≡ 0
  unfolding read_number version_ok
  cut-read =
      let end = eq-eqb (length cut) e (length-take-le e rec end-within) in
      all-passed (head_tests cut ++ rest_tests cut)
      (rw first (front-version rec front), (rw first there, (rw (first, cut-contents) (front-said rec front), (rw cut-contents (front-row rec front), (rw (first, cut-contents) kept, (rw (first, cut-contents) end, tt))))))
