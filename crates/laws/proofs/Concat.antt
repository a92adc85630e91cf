-- Strings laid one after another: where each stands, and its bytes. `at i` is where string i begins. By induction on the number of strings.
use Prim.Native.Nat.{ℕ, zero, suc, ◌+◌, ◌-◌, ◌*◌, ◌/◌, ◌%◌, ◌≤◌, ◌<◌}
use mathlib.Core.Path.{◌≡◌, refl, sym, ap, ap₂, ◌∙◌}
use mathlib.Core.List.{List, ◌++◌, append-nil, append_assoc}
use native.Mathlib.Omega.{arith}
use native.Mathlib.Nat.{add-zero, add-suc, zero-mul, mul-suc, mul-zero, mul-add, mul-le-mul, lt_of_mul-lt-mul_left, le_refl, mod-lt, div-add-mod}
use native.Mathlib.Numerals.{add-one}
use native.Mathlib.Decide.{dec_lt}
use lib.ListN.{length, get_or, take, drop, length-append, length-drop}
use lib.Seq.{take-append-le, drop-append-le, drop-append-add, take-add, take_all, ext_get_or}
use Rattle.spec.specs.Bytes.{part, tabulate, concat}
use Rattle.laws.proofs.Segments.{segment-before}
use Rattle.laws.proofs.Lists.{length-tabulate, get_or-tabulate, get_or-part}

-- ---- a part of two strings

pub part-front : (xs ys : List ℕ) (at n : ℕ) → at + n ≤ length xs → part (xs ++ ys) at n ≡ part xs at n
part-front xs ys at n h =
    ap (take n) (drop-append-le at xs ys (omega arith)) ∙ take-append-le n (drop at xs) ys (simp length-drop (omega arith))

pub part-after : (xs ys : List ℕ) (at m n : ℕ) → at ≡ length xs + m → part (xs ++ ys) at n ≡ part ys m n
part-after xs ys at m n e = ap (λ (a : ℕ). part (xs ++ ys) a n) e ∙ ap (take n) (drop-append-add xs ys m)

pub part-whole : (xs : List ℕ) (n : ℕ) → length xs ≡ n → part xs 0 n ≡ xs
part-whole xs n e = take_all n xs (omega arith)

-- ---- strings of any lengths

module _ (f : ℕ → List ℕ) (at : ℕ → ℕ) (none : at 0 ≡ 0) where
  abbrev pub Laid : ℕ → Type 0
  Laid n = (i : ℕ) → i < n → at (suc i) ≡ at i + length (f i)

  before : (n i : ℕ) → Laid n → i < n → at i + length (f i) ≤ at n
  before n i h l = segment-before at (λ i. length (f i)) n i h l

  pub laid-length : (n : ℕ) → Laid n → length (concat n f) ≡ at n
  unfolding concat
  laid-length zero h = sym none
  laid-length (suc n) h =
      let a = laid-length n (λ i l. h i (omega arith)) in
      let b = h n (omega arith) in
      simp length-append (omega arith)

  pub laid-part : (n i m l : ℕ) → Laid n → i < n → m + l ≤ length (f i) → part (concat n f) (at i + m) l ≡ part (f i) m l
  unfolding concat
  laid-part zero i m l h k z = absurd (omega arith)
  laid-part (suc n) i m l h k z = go (dec_lt i n) (λ d. laid-part n i m l (λ a q. h a (omega arith)) d z)
    where
      go : Dec (i < n) → (i < n → part (concat n f) (at i + m) l ≡ part (f i) m l) → part (concat n f ++ f n) (at i + m) l ≡ part (f i) m l
      go (yes d) ih =
          let a = before n i (λ a q. h a (omega arith)) d in
          let b = laid-length n (λ a q. h a (omega arith)) in
          part-front (concat n f) (f n) (at i + m) l (omega arith) ∙ ih d
      go (no d) ih =
          let e : n ≡ i = omega arith in
          let b = laid-length n (λ a q. h a (omega arith)) in
          part-after (concat n f) (f n) (at i + m) m l (let q : at n ≡ at i = ap at e in omega arith) ∙ ap (λ (x : ℕ). part (f x) m l) e

-- ---- strings of w bytes each

module _ (f : ℕ → List ℕ) (w : ℕ) where
  even : (n : ℕ) → ((i : ℕ) → i < n → length (f i) ≡ w) → (i : ℕ) → i < n → w * suc i ≡ w * i + length (f i)
  even n h i l = (let e = h i l in let m = mul-suc w i in omega arith)

  pub even-length : (n : ℕ) → ((i : ℕ) → i < n → length (f i) ≡ w) → length (concat n f) ≡ w * n
  even-length n h = laid-length f (λ i. w * i) (mul-zero w) n (even n h)

  pub even-part : (n i : ℕ) → ((i : ℕ) → i < n → length (f i) ≡ w) → i < n → part (concat n f) (w * i) w ≡ f i
  even-part n i h l =
      ap (λ (a : ℕ). part (concat n f) a w) (let z : w * i ≡ w * i + 0 = omega arith in z)
      ∙ laid-part f (λ i. w * i) (mul-zero w) n i 0 w (even n h) l (let e = h i l in omega arith)
      ∙ part-whole (f i) w (h i l)

-- byte p of string j of strings given by a rule
pub concat-byte : (b k : ℕ) (f : ℕ → ℕ → ℕ) (j p : ℕ) → j < k → p < b → get_or (concat k (λ j. tabulate b (f j))) (b * j + p) 0 ≡ f j p
concat-byte b k f j p h l =
    sym (get_or-part (concat k (λ j. tabulate b (f j))) (b * j) b p l)
    ∙ ap (λ (x : List ℕ). get_or x p 0) (even-part (λ j. tabulate b (f j)) b k j (λ j h. length-tabulate b (f j)) h)
    ∙ get_or-tabulate b (f j) p 0 l

pub concat-same : (f g : ℕ → List ℕ) (n : ℕ) → ((i : ℕ) → i < n → f i ≡ g i) → concat n f ≡ concat n g
unfolding concat
concat-same f g zero h = refl
concat-same f g (suc n) h = ap₂ ◌++◌ (concat-same f g n (λ i l. h i (omega arith))) (h n (omega arith))

pub concat-append : (f : ℕ → List ℕ) (m n : ℕ) → concat (m + n) f ≡ concat m f ++ concat n (λ i. f (m + i))
unfolding concat
concat-append f m zero = ap (λ (k : ℕ). concat k f) (add-zero m) ∙ sym (append-nil (concat m f))
concat-append f m (suc n) =
    ap (λ (k : ℕ). concat k f) (add-suc m n)
    ∙ ap (λ (l : List ℕ). l ++ f (m + n)) (concat-append f m n)
    ∙ append_assoc (concat m f) (concat n (λ i. f (m + i))) (f (m + n))

-- a list of b * k bytes is the rule's strings where each byte is
pub is-concat : (b k : ℕ) (f : ℕ → ℕ → ℕ) (l : List ℕ) → length l ≡ b * k → ((j p : ℕ) → j < k → p < b → get_or l (b * j + p) 0 ≡ f j p)
    → l ≡ concat k (λ j. tabulate b (f j))
is-concat b k f l e h = ext_get_or 0 l (concat k (λ j. tabulate b (f j))) (e ∙ sym long) (λ q lt. byte q (rw e at lt))
  where
    long : length (concat k (λ j. tabulate b (f j))) ≡ b * k
    long = even-length (λ j. tabulate b (f j)) b k (λ j h. length-tabulate b (f j))

    some : (q n : ℕ) → q < n * k → 0 < n
    some q zero lt = absurd (let z = zero-mul k in omega arith)
    some q (suc n) lt = omega arith

    byte : (q : ℕ) → q < b * k → get_or l q 0 ≡ get_or (concat k (λ j. tabulate b (f j))) q 0
    byte q lt =
        let whole = div-add-mod q b in
        let low : q % b < b = mod-lt q (some q b lt) in
        let high : q / b < k = lt_of_mul-lt-mul_left b (omega arith) in
        ap (λ (x : ℕ). get_or l x 0) (sym whole)
        ∙ h (q / b) (q % b) high low
        ∙ sym (concat-byte b k f (q / b) (q % b) high low)
        ∙ ap (λ (x : ℕ). get_or (concat k (λ j. tabulate b (f j))) x 0) whole

-- a list of w * n bytes is n strings where each part is
pub parts-concat : (f : ℕ → List ℕ) (w n : ℕ) (l : List ℕ) → length l ≡ w * n → ((i : ℕ) → i < n → part l (w * i) w ≡ f i) → l ≡ concat n f
unfolding concat
parts-concat f w n l e h = sym (take_all (w * n) l (omega arith)) ∙ front n (omega arith)
  where
    front : (m : ℕ) → m ≤ n → take (w * m) l ≡ concat m f
    front zero k = ap (λ (x : ℕ). take x l) (mul-zero w)
    front (suc m) k = ap (λ (x : ℕ). take x l) (mul-suc w m) ∙ take-add (w * m) w l ∙ ap₂ ◌++◌ (front m (omega arith)) (h m (omega arith))

-- ---- products of a width and a number of blocks

pub mul_next : (w n : ℕ) → w * (n + 1) ≡ w * n + w
mul_next w n = ap (λ (m : ℕ). w * m) (add-one n) ∙ mul-suc w n

pub mul-within : (w c n : ℕ) → c < n → w * c + w ≤ w * n
mul-within w c n h =
    let l : w * suc c ≤ w * n = mul-le-mul (le_refl w) h in
    omega (arith, mul-suc w c)

pub mul-limit : (w c n m : ℕ) → w ≤ n → c ≤ m → w * c ≤ n * m
mul-limit w c n m h k = mul-le-mul h k

-- t blocks are n of them and the rest
pub mul-rest : (w n t : ℕ) → n ≤ t → w * t ≡ w * n + w * (t - n)
mul-rest w n t h = ap (λ (m : ℕ). w * m) (omega arith) ∙ mul-add w n (t - n)
