-- A record is read back as what was written, in each version, and a record that is read is what is written of its contents. Field by field, by the laws of a field.
use Prim.Native.Nat.{ℕ, ◌+◌, ◌*◌, ◌/◌, ◌≤◌, ◌<◌, ◌^◌}
use mathlib.Core.Path.{◌≡◌, refl, sym, ap, ap₂, ◌∙◌}
use mathlib.Core.Bool.{Bool, true, false, ◌&&◌, cond, true≢false}
use mathlib.Core.List.{List, [], ◌∷◌, ◌++◌, append-nil}
use native.Mathlib.Omega.{arith}
use lib.Dec.{eqb, ltb}
use lib.ListN.{length, take, drop, get_or, length-append, take-append-drop, drop_of_length-le}
use lib.Seq.{take_at, drop_at, drop-drop, drop-cons, get_or-drop}
use borrow.Author.Tests.{eq-eqb, eqb-true, eqb-false}
use Rattle.spec.specs.declared.Shape.{Shape}
use Rattle.spec.specs.Bytes.{part, all_zero}
use Rattle.spec.specs.Shapes.{faest128f, ordinary, resolved, challenge_bytes, hash_bytes, shape_ok, iv_bytes, opening_bytes, corrections_bytes}
use Rattle.spec.specs.Calls.{row_ok}
use Rattle.laws.specs.Lengths.{Sized}
use Rattle.laws.proofs.Conjunctions.{both_true}
use Rattle.laws.proofs.Lists.{length_part}
use Rattle.laws.proofs.Numbers.{Digits}
use Rattle.laws.proofs.Strings.{digits-part}
use Rattle.laws.proofs.Refusals.{all-passed}
use Rattle.planning_laws.proofs.ShapeFacts.{shape-facts, widths}
use Rattle.record.specs.Fields.{field_ok, field_of}
use Rattle.spec.specs.Bytes.{big_endian, big_endian_bytes}
use Rattle.record.specs.Record.{version_of, head_bytes, version_ok, head_of, shape_in, row_in, iv_place, challenge_place, corrections_place, opening_place, commitment_place, record_end, rest_ok, Contents, contents_of, kind_fits, head_tests, rest_tests, read_number, version_for, head_for, rest_of, record_of, head_of_version1, record_of_version1}
use Rattle.laws.proofs.BigEndian.{big-endian-bytes, length-big-endian, bytes-big-endian}
use Rattle.record.proofs.Fields.{field-stands, field-read, field-behind, field_end, field_room, field-length, field-written}
use Rattle.record.proofs.Reading.{Lengths, front-version, front-head, front-said, fields-rest, read-fields, read-front, read_length}
use Rattle.record.proofs.Bounds.{version_by, head_small, given-small, row_small, corrections-small, opening-small}

-- ---- the head: nine bytes of numbers, and what stands behind them

-- the level that a level byte x says in version v
abbrev level_in : ℕ → ℕ → ℕ
level_in v x = cond (eqb v 1) 128 (8 * x)

abbrev numbers : Shape → ℕ → List ℕ → List ℕ
numbers s n xs = (s.tau ∷ s.k ∷ s.w ∷ big_endian_bytes 2 s.t) ++ (big_endian_bytes 4 n ++ xs)

module _ (s : Shape) (n : ℕ) (xs : List ℕ) where
  numbers-length : length (numbers s n xs) ≡ 9 + length xs
  numbers-length =
      let a = length-big-endian 2 s.t in
      let b = length-big-endian 4 n in
      let d = length-append (big_endian_bytes 4 n) xs in
      length-append (s.tau ∷ s.k ∷ s.w ∷ big_endian_bytes 2 s.t) (big_endian_bytes 4 n ++ xs) ∙ omega arith

  allowance-back : s.t < 65536 → big_endian (part (numbers s n xs) 3 2) ≡ s.t
  allowance-back h =
      ap big_endian (take_at (big_endian_bytes 2 s.t) (big_endian_bytes 4 n ++ xs) 2 (length-big-endian 2 s.t)) ∙ big-endian-bytes 2 s.t h

  row_back : n < 2 ^ 32 → row_in (numbers s n xs) ≡ n
  unfolding row_in
  row_back h =
      ap big_endian
      (ap (take 4) (drop_at (big_endian_bytes 2 s.t) (big_endian_bytes 4 n ++ xs) 2 (length-big-endian 2 s.t))
      ∙ take_at (big_endian_bytes 4 n) xs 4 (length-big-endian 4 n))
      ∙ big-endian-bytes 4 n h

  numbers-behind : drop 9 (numbers s n xs) ≡ xs
  numbers-behind =
      sym (drop-drop 4 2 (big_endian_bytes 2 s.t ++ (big_endian_bytes 4 n ++ xs)))
      ∙ ap (drop 4) (drop_at (big_endian_bytes 2 s.t) (big_endian_bytes 4 n ++ xs) 2 (length-big-endian 2 s.t))
      ∙ drop_at (big_endian_bytes 4 n) xs 4 (length-big-endian 4 n)

  numbers_after : (i : ℕ) → get_or (numbers s n xs) (9 + i) 0 ≡ get_or xs i 0
  numbers_after i = sym (get_or-drop 9 (numbers s n xs) i 0) ∙ ap (λ (l : List ℕ). get_or l i 0) numbers-behind

  -- the shape is read that was written, where what stands behind the numbers says its level and kind
  numbers-shape : (v : ℕ) → s.t < 65536 → level_in v (get_or xs 0 0) ≡ s.level → cond (eqb v 3) (get_or xs 1 0) 0 ≡ s.kind → shape_in v (numbers s n xs) ≡ s
  unfolding shape_in
  numbers-shape v h e f =
      let l : level_in v (get_or (numbers s n xs) 9 0) ≡ s.level = ap (level_in v) (numbers_after 0) ∙ e in
      let k : cond (eqb v 3) (get_or (numbers s n xs) 10 0) 0 ≡ s.kind = ap (λ (x : ℕ). cond (eqb v 3) x 0) (numbers_after 1) ∙ f in
      rw (allowance-back h, l, k) refl

-- the numbers of a head are what is written of them
numbers-only : (h : List ℕ) (s : Shape) → 9 ≤ length h → Digits 8 h → s.tau ≡ get_or h 0 0 → s.k ≡ get_or h 1 0 → s.w ≡ get_or h 2 0 → s.t ≡ big_endian (part h 3 2)
    → h ≡ numbers s (row_in h) (drop 9 h)
unfolding row_in
numbers-only h s e bytes e₁ e₂ e₃ e₄ =
    let t : big_endian_bytes 2 (big_endian (part h 3 2)) ≡ part h 3 2 =
    ap (λ (m : ℕ). big_endian_bytes m (big_endian (part h 3 2))) (sym (length_part h 3 2 (omega arith))) ∙ bytes-big-endian (part h 3 2) (digits-part 8 h 3 2 bytes) in
    let n : big_endian_bytes 4 (big_endian (part h 5 4)) ≡ part h 5 4 =
    ap (λ (m : ℕ). big_endian_bytes m (big_endian (part h 5 4))) (sym (length_part h 5 4 (omega arith))) ∙ bytes-big-endian (part h 5 4) (digits-part 8 h 5 4 bytes) in
    drop-cons h 0 0 (omega arith)
    ∙ ap (λ (l : List ℕ). get_or h 0 0 ∷ l) (drop-cons h 1 0 (omega arith))
    ∙ ap (λ (l : List ℕ). get_or h 0 0 ∷ get_or h 1 0 ∷ l) (drop-cons h 2 0 (omega arith))
    ∙ ap (λ (l : List ℕ). get_or h 0 0 ∷ get_or h 1 0 ∷ get_or h 2 0 ∷ l)
    (sym (take-append-drop 2 (drop 3 h))
    ∙ ap₂ (λ (a b : List ℕ). a ++ b) (sym t)
    (drop-drop 2 3 h ∙ sym (take-append-drop 4 (drop 5 h)) ∙ ap₂ (λ (a b : List ℕ). a ++ b) (sym n) (drop-drop 4 5 h)))
    ∙ sym (rw (e₁, e₂, e₃, e₄) refl)

-- ---- the head of the version that is written for a shape

-- the level, and for the Even-Mansour kind the kind
abbrev last : Shape → Bool → List ℕ
last s o = (s.level / 8) ∷ cond o [] (s.kind ∷ [])

pub head-length : (s : Shape) (n : ℕ) → length (head_for s n) ≡ head_bytes (version_for s)
unfolding head_for version_for head_bytes
head-length s n = numbers-length s n (last s (ordinary s)) ∙ go (ordinary s)
  where
    go : (o : Bool) → 9 + length (last s o) ≡ head_bytes (version_by o)
    go true = refl
    go false = refl

version-known : (s : Shape) → ltb 0 (head_bytes (version_for s)) ≡ true
unfolding version_for head_bytes
version-known s = go (ordinary s)
  where
    go : (o : Bool) → ltb 0 (head_bytes (version_by o)) ≡ true
    go true = refl
    go false = refl

pub version-resolved : (s : Shape) → version_for (resolved s) ≡ version_for s
unfolding version_for resolved faest128f
version-resolved s = go (all_zero (s.tau ∷ s.k ∷ s.w ∷ s.t ∷ []) && eqb s.level 128) (ordinary s) refl
  where
    go : (z o : Bool) → ordinary s ≡ o → version_by (ordinary (cond (z && o) faest128f s)) ≡ version_by (ordinary s)
    go true true e = sym (ap version_by e)
    go true false e = refl
    go false o e = refl

-- an allowed kind is that of the version
kind-written : (s : Shape) → s.kind ≤ 1 → kind_fits (version_for s) s.kind ≡ true
unfolding version_for
kind-written s h = go (ordinary s) refl
  where
    go : (o : Bool) → ordinary s ≡ o → kind_fits (version_by o) s.kind ≡ true
    go true e = refl
    go false e = eq-eqb s.kind 1 (let n = eqb-false s.kind 0 e in omega arith)

shape-back : (s : Shape) (n : ℕ) → s.t < 65536 → s.level ≡ 8 * (s.level / 8) → shape_in (version_for s) (head_for s n) ≡ s
unfolding head_for version_for
shape-back s n h e = go (ordinary s) refl
  where
    go : (o : Bool) → ordinary s ≡ o → shape_in (version_by o) (numbers s n (last s o)) ≡ s
    go true f = numbers-shape s n (last s true) 2 h (sym e) (sym (eqb-true s.kind 0 f))
    go false f = numbers-shape s n (last s false) 3 h (sym e) refl

head-back : (s : Shape) (n : ℕ) → n < 2 ^ 32 → row_in (head_for s n) ≡ n
unfolding head_for
head-back s n h = row_back s n (last s (ordinary s)) h

-- ---- the head of version 1

first-is : (s : Shape) (n : ℕ) → head_of_version1 s n ≡ numbers s n []
unfolding head_of_version1
first-is s n = ap (λ (l : List ℕ). (s.tau ∷ s.k ∷ s.w ∷ big_endian_bytes 2 s.t) ++ l) (sym (append-nil (big_endian_bytes 4 n)))

first-length : (s : Shape) (n : ℕ) → length (head_of_version1 s n) ≡ head_bytes 1
unfolding head_bytes
first-length s n = ap length (first-is s n) ∙ numbers-length s n []

first-shape : (s : Shape) (n : ℕ) → s.t < 65536 → s.level ≡ 128 → s.kind ≡ 0 → shape_in 1 (head_of_version1 s n) ≡ s
first-shape s n h e f = ap (shape_in 1) (first-is s n) ∙ numbers-shape s n [] 1 h (sym e) (sym f)

first-row : (s : Shape) (n : ℕ) → n < 2 ^ 32 → row_in (head_of_version1 s n) ≡ n
first-row s n h = ap row_in (first-is s n) ∙ row_back s n [] h

-- ---- a head is what is written of what it says

first-only : (v : ℕ) (h : List ℕ) → length h ≡ 9 → Digits 8 h → h ≡ head_of_version1 (shape_in v h) (row_in h)
unfolding shape_in
first-only v h e bytes =
    numbers-only h (shape_in v h) (omega arith) bytes refl refl refl refl
    ∙ ap (numbers (shape_in v h) (row_in h)) (drop_of_length-le h {i = 9} (omega arith))
    ∙ sym (first-is (shape_in v h) (row_in h))

-- xs is the head behind its level
level-only : (v : ℕ) (h xs : List ℕ) → eqb v 1 ≡ false → 10 ≤ length h → Digits 8 h → drop 10 h ≡ xs → h ≡ numbers (shape_in v h) (row_in h) (((shape_in v h).level / 8) ∷ xs)
unfolding shape_in
level-only v h xs other e bytes behind =
    let level : (shape_in v h).level / 8 ≡ get_or h 9 0 = ap (λ (a : Bool). cond a 128 (8 * get_or h 9 0) / 8) other ∙ omega arith in
    numbers-only h (shape_in v h) (omega arith) bytes refl refl refl refl
    ∙ ap (numbers (shape_in v h) (row_in h)) (drop-cons h 9 0 (omega arith) ∙ ap₂ (λ (x : ℕ) (l : List ℕ). x ∷ l) (sym level) behind)

second-only : (v : ℕ) (h : List ℕ) → v ≡ 2 → length h ≡ 10 → Digits 8 h → h ≡ head_for (shape_in v h) (row_in h)
unfolding shape_in head_for
second-only v h two e bytes =
    level-only v h [] (rw two refl) (omega arith) bytes (drop_of_length-le h {i = 10} (omega arith))
    ∙ ap (λ (xs : List ℕ). numbers (shape_in v h) (row_in h) (((shape_in v h).level / 8) ∷ xs)) (rw two refl)

third-only : (v : ℕ) (h : List ℕ) → v ≡ 3 → (shape_in v h).kind ≡ 1 → length h ≡ 11 → Digits 8 h → h ≡ head_for (shape_in v h) (row_in h)
unfolding shape_in head_for
third-only v h three one e bytes =
    level-only v h (get_or h 10 0 ∷ []) (rw three refl) (omega arith) bytes
    (drop-cons h 10 0 (omega arith) ∙ ap (λ (l : List ℕ). get_or h 10 0 ∷ l) (drop_of_length-le h {i = 11} (omega arith)))
    ∙ ap (λ (xs : List ℕ). numbers (shape_in v h) (row_in h) (((shape_in v h).level / 8) ∷ xs)) tail
  where
    tail : get_or h 10 0 ∷ [] ≡ cond (ordinary (shape_in v h)) [] ((shape_in v h).kind ∷ [])
    tail = sym (rw (ap (λ (k : ℕ). eqb k 0) one) (rw three refl))

-- ---- the fields of c behind a head of version v that says its shape and row length

module _ (v : ℕ) (head : List ℕ) (c : Contents) (long : length head ≡ head_bytes v) (shape : shape_in v head ≡ c.shape) (row : row_in head ≡ c.row) (sized : Sized (Lengths c)) where
  abbrev h : ℕ
  h = head_bytes v

  abbrev s : Shape
  s = resolved c.shape

  abbrev b : ℕ
  b = c.row / 8

  abbrev rec : List ℕ
  rec = v ∷ (field_of head ++ rest_of c)

  -- what stands behind fields two to five
  abbrev rest₅ : List ℕ
  rest₅ = field_of c.commitment

  abbrev rest₄ : List ℕ
  rest₄ = field_of c.opening ++ rest₅

  abbrev rest₃ : List ℕ
  rest₃ = field_of c.corrections ++ rest₄

  abbrev rest₂ : List ℕ
  rest₂ = field_of c.challenge ++ rest₃

  at₂ : drop (iv_place h) rec ≡ rest_of c
  at₂ = field-behind rec head (rest_of c) 1 h refl long

  at₃ : drop (challenge_place h) rec ≡ rest₂
  at₃ = field-behind rec c.iv rest₂ (iv_place h) iv_bytes at₂ sized.0

  at₄ : drop (corrections_place h s) rec ≡ rest₃
  unfolding corrections_place
  at₄ = field-behind rec c.challenge rest₃ (challenge_place h) (challenge_bytes s) at₃ sized.1.0

  at₅ : drop (opening_place h s b) rec ≡ rest₄
  unfolding opening_place
  at₅ = field-behind rec c.corrections rest₄ (corrections_place h s) (corrections_bytes s b) at₄ sized.1.1.0

  at₆ : drop (commitment_place h s b) rec ≡ rest₅ ++ []
  unfolding commitment_place
  at₆ = field-behind rec c.opening rest₅ (opening_place h s b) (opening_bytes s) at₅ sized.1.1.1.0 ∙ sym (append-nil rest₅)

  parts-length : length (v ∷ (field_of head ++ rest_of c)) ≡ record_end (head_bytes v) (resolved c.shape) (c.row / 8)
  unfolding record_end
  parts-length = (let e = field_end rec c.commitment [] (commitment_place h s b) (hash_bytes s) at₆ sized.1.1.1.1.0 in omega arith)

  head-is : head_of rec ≡ head
  head-is = field-read rec head (rest_of c) 1 h refl long

  parts-contents : contents_of (v ∷ (field_of head ++ rest_of c)) ≡ c
  unfolding contents_of
  parts-contents =
      rw (
        head-is,
        shape,
        row,
        field-read rec c.iv rest₂ (iv_place h) iv_bytes at₂ sized.0,
        field-read rec c.challenge rest₃ (challenge_place h) (challenge_bytes s) at₃ sized.1.0,
        field-read rec c.corrections rest₄ (corrections_place h s) (corrections_bytes s b) at₄ sized.1.1.0,
        field-read rec c.opening rest₅ (opening_place h s b) (opening_bytes s) at₅ sized.1.1.1.0,
        field-read rec c.commitment [] (commitment_place h s b) (hash_bytes s) at₆ sized.1.1.1.1.0,
      )
      refl

  module _ (known : ltb 0 (head_bytes v) ≡ true) (ok : shape_ok (resolved c.shape) ≡ true) (fitting : kind_fits v c.shape.kind ≡ true) (allowed : row_ok c.row ≡ true) where
    rest_back : rest_ok h s b rec ≡ true
    unfolding rest_ok
    rest_back =
        let m = row_small c.row allowed in
        let l = corrections-small s b ok (omega arith) in
        let o = opening-small s ok in
        let z = widths s (shape-facts s ok) in
        rw (
          field-stands rec c.iv rest₂ (iv_place h) iv_bytes at₂ sized.0 (omega arith),
          field-stands rec c.challenge rest₃ (challenge_place h) (challenge_bytes s) at₃ sized.1.0 (omega arith),
          field-stands rec c.corrections rest₄ (corrections_place h s) (corrections_bytes s b) at₄ sized.1.1.0 (omega arith),
          field-stands rec c.opening rest₅ (opening_place h s b) (opening_bytes s) at₅ sized.1.1.1.0 (omega arith),
          field-stands rec c.commitment [] (commitment_place h s b) (hash_bytes s) at₆ sized.1.1.1.1.0 (omega arith),
        )
        refl

    parts-read : read_number (v ∷ (field_of head ++ rest_of c)) ≡ 0
    unfolding read_number version_ok
    parts-read =
        let front = field-stands rec head (rest_of c) 1 h refl long (let m = head_small v in omega arith) in
        let end = eq-eqb (length rec) (record_end h s b) parts-length in
        let said = parts-contents in
        let both = ap₂ ◌&&◌ ok fitting in
        all-passed (head_tests rec ++ rest_tests rec) (known, (front, (rw said both, (rw said allowed, (rw said rest_back, (rw said end, tt))))))

-- ---- the record of c, in the version that is written and in version 1

module _ (c : Contents) (ok : shape_ok (resolved c.shape) ≡ true) (row : row_ok c.row ≡ true) (sized : Sized (Lengths c)) where
  few : c.shape.t < 65536
  few = (let f = given-small c.shape ok in omega arith)

  short : c.row < 2 ^ 32
  short = (let f = row_small c.row row in omega arith)

  said-shape : shape_in (version_for c.shape) (head_for c.shape c.row) ≡ c.shape
  said-shape = shape-back c.shape c.row few (given-small c.shape ok).level-eight

  pub contents-back : contents_of (record_of c) ≡ c
  unfolding record_of
  contents-back =
      parts-contents (version_for c.shape) (head_for c.shape c.row) c (head-length c.shape c.row) said-shape (head-back c.shape c.row short) sized

  pub reads-back : read_number (record_of c) ≡ 0
  unfolding record_of
  reads-back =
      parts-read (version_for c.shape) (head_for c.shape c.row) c (head-length c.shape c.row) said-shape (head-back c.shape c.row short) sized
      (version-known c.shape) ok (kind-written c.shape (given-small c.shape ok).kind) row

  pub first-contents : c.shape.level ≡ 128 → c.shape.kind ≡ 0 → contents_of (record_of_version1 c) ≡ c
  unfolding record_of_version1
  first-contents e f =
      parts-contents 1 (head_of_version1 c.shape c.row) c (first-length c.shape c.row) (first-shape c.shape c.row few e f)
      (first-row c.shape c.row short) sized

  pub first_reads : c.shape.level ≡ 128 → c.shape.kind ≡ 0 → read_number (record_of_version1 c) ≡ 0
  unfolding record_of_version1 head_bytes
  first_reads e f =
      parts-read 1 (head_of_version1 c.shape c.row) c (first-length c.shape c.row) (first-shape c.shape c.row few e f)
      (first-row c.shape c.row short) sized refl ok refl row

-- ---- a record that is read

module _ (rec : List ℕ) (ok : read_number rec ≡ 0) where
  abbrev Said : Contents
  Said = contents_of rec

  abbrev v : ℕ
  v = version_of rec

  abbrev m : ℕ
  m = head_bytes v

  abbrev r : Shape
  r = resolved Said.shape

  abbrev n : ℕ
  n = Said.row / 8

  said : (shape_ok r && kind_fits v Said.shape.kind) ≡ true
  said = front-said rec (read-front rec ok)

  there : field_ok rec 1 m ≡ true
  there = front-head rec (read-front rec ok)

  kind_0 : eqb v 3 ≡ false → Said.shape.kind ≡ 0
  unfolding contents_of shape_in
  kind_0 e = ap (λ (a : Bool). cond a (get_or (head_of rec) 10 0) 0) e

  -- the version says the kind
  pub read-kind : (contents_of rec).shape.kind ≡ cond (eqb (version_of rec) 3) 1 0
  read-kind = go (eqb v 3) refl
    where
      go : (a : Bool) → eqb v 3 ≡ a → Said.shape.kind ≡ cond a 1 0
      go true e =
          let fitting = (both_true (shape_ok r) (kind_fits v Said.shape.kind) said).1 in
          eqb-true Said.shape.kind 1 (sym (ap (λ (a : Bool). cond a (eqb Said.shape.kind 1) true) e) ∙ fitting)
      go false e = kind_0 e

  -- it is its version, its head and the fields of what it says
  read-parts : Digits 8 rec → rec ≡ version_of rec ∷ (field_of (head_of rec) ++ rest_of (contents_of rec))
  unfolding contents_of corrections_place opening_place commitment_place record_end
  read-parts bytes =
      let q = fields-rest rec (read-fields rec ok) in
      let six = field-written rec (commitment_place m r n) (hash_bytes r) q.4 bytes ∙ ap (λ (l : List ℕ). field_of Said.commitment ++ l) (drop_of_length-le rec {i = record_end m r n} (let e = read_length rec ok in omega arith)) ∙ append-nil _ in
      let five = field-written rec (opening_place m r n) (opening_bytes r) q.3 bytes ∙ ap (λ (l : List ℕ). field_of Said.opening ++ l) six in
      let four = field-written rec (corrections_place m r) (corrections_bytes r n) q.2 bytes ∙ ap (λ (l : List ℕ). field_of Said.corrections ++ l) five in
      let three = field-written rec (challenge_place m) (challenge_bytes r) q.1 bytes ∙ ap (λ (l : List ℕ). field_of Said.challenge ++ l) four in
      let two = field-written rec (iv_place m) iv_bytes q.0 bytes ∙ ap (λ (l : List ℕ). field_of Said.iv ++ l) three in
      let one = field-written rec 1 m there bytes ∙ ap (λ (l : List ℕ). field_of (head_of rec) ++ l) two in
      drop-cons rec 0 0 (let e = field_room rec 1 m there in omega arith) ∙ ap (λ (l : List ℕ). v ∷ l) one

  -- it is the record of what it says, in version 1 or in the version that is written
  pub read_only : Digits 8 rec → rec ≡ cond (eqb (version_of rec) 1) (record_of_version1 (contents_of rec)) (record_of (contents_of rec))
  unfolding version_ok head_bytes shape_in contents_of record_of_version1 record_of version_for
  read_only bytes = go (eqb v 1) (eqb v 2) (eqb v 3) refl refl refl
    where
      digits : Digits 8 (head_of rec)
      digits = digits-part 8 rec 5 m bytes

      long : length (head_of rec) ≡ m
      long = field-length rec 1 m there

      -- version x, which is written for the shape
      by-version : (x : ℕ) → v ≡ x → version_for Said.shape ≡ x → head_of rec ≡ head_for Said.shape Said.row → rec ≡ record_of (contents_of rec)
      by-version x e f is = read-parts bytes ∙ ap₂ (λ (x : ℕ) (l : List ℕ). x ∷ (field_of l ++ rest_of (contents_of rec))) (e ∙ sym f) is

      go : (a b d : Bool) → eqb v 1 ≡ a → eqb v 2 ≡ b → eqb v 3 ≡ d → rec ≡ cond a (record_of_version1 (contents_of rec)) (record_of (contents_of rec))
      go true q d e f g =
          let nine : m ≡ 9 = rw (eqb-true v 1 e) refl in
          read-parts bytes ∙ ap₂ (λ (x : ℕ) (l : List ℕ). x ∷ (field_of l ++ rest_of (contents_of rec))) (eqb-true v 1 e) (first-only v (head_of rec) (long ∙ nine) digits)
      go false true d e f g =
          let two = eqb-true v 2 f in
          let ten : m ≡ 10 = rw two refl in
          by-version 2 two (rw two refl) (second-only v (head_of rec) two (long ∙ ten) digits)
      go false false true e f g =
          let three = eqb-true v 3 g in
          let eleven : m ≡ 11 = rw three refl in
          let one = read-kind ∙ ap (λ (a : Bool). cond a 1 0) g in
          by-version 3 three (rw (ap (λ (k : ℕ). eqb k 0) one) refl) (third-only v (head_of rec) three one (long ∙ eleven) digits)
      go false false false e f g = absurd (true≢false (sym (front-version rec (read-front rec ok)) ∙ rw (e, f, g) refl))
