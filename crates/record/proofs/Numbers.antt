-- Numbers of several bytes, most significant first: bytes and number determine each other. From the laws of digits, the list the other way round.
use Prim.Native.Nat.{ℕ, suc, ◌+◌, ◌*◌, ◌^◌, ◌<◌, ◌≤◌}
use mathlib.Core.Path.{◌≡◌, sym, ap, ◌∙◌}
use mathlib.Core.List.{List, [], ◌∷◌}
use native.Mathlib.Omega.{arith}
use native.Mathlib.Numerals.{add-one}
use lib.ListN.{length, get_or, take, drop}
use lib.Seq.{drop-cons}
use Rattle.spec.specs.Bytes.{part, number, big_endian}

-- ---- two and four bytes of a string

part-next : (xs : List ℕ) (at n : ℕ) → at < length xs → part xs at (suc n) ≡ get_or xs at 0 ∷ part xs (at + 1) n
part-next xs at n h = ap (take (suc n)) (drop-cons xs at 0 h) ∙ ap (λ (a : ℕ). get_or xs at 0 ∷ take n (drop a xs)) (sym (add-one at))

pub two_bytes : (xs : List ℕ) (at : ℕ) → at + 2 ≤ length xs → big_endian (part xs at 2) ≡ 256 * get_or xs at 0 + get_or xs (at + 1) 0
unfolding big_endian number
two_bytes xs at h = ap big_endian (part-next xs at 1 (omega arith) ∙ ap (λ (l : List ℕ). get_or xs at 0 ∷ l) (part-next xs (at + 1) 0 (omega arith))) ∙ omega arith

pub four_bytes : (xs : List ℕ) (at : ℕ) → at + 4 ≤ length xs
    → big_endian (part xs at 4) ≡ 256 * (256 * (256 * get_or xs at 0 + get_or xs (at + 1) 0) + get_or xs (at + 2) 0) + get_or xs (at + 3) 0
unfolding big_endian number
four_bytes xs at h =
    let two : at + 1 + 1 ≡ at + 2 = omega arith in
    let three : at + 2 + 1 ≡ at + 3 = omega arith in
    let c : part xs (at + 2) 2 ≡ get_or xs (at + 2) 0 ∷ get_or xs (at + 3) 0 ∷ [] =
    part-next xs (at + 2) 1 (omega arith) ∙ ap (λ (a : ℕ). get_or xs (at + 2) 0 ∷ part xs a 1) three ∙ ap (λ (l : List ℕ). get_or xs (at + 2) 0 ∷ l) (part-next xs (at + 3) 0 (omega arith)) in
    let b : part xs (at + 1) 3 ≡ get_or xs (at + 1) 0 ∷ get_or xs (at + 2) 0 ∷ get_or xs (at + 3) 0 ∷ [] =
    part-next xs (at + 1) 2 (omega arith) ∙ ap (λ (a : ℕ). get_or xs (at + 1) 0 ∷ part xs a 2) two ∙ ap (λ (l : List ℕ). get_or xs (at + 1) 0 ∷ l) c in
    ap big_endian (part-next xs at 3 (omega arith) ∙ ap (λ (l : List ℕ). get_or xs at 0 ∷ l) b) ∙ omega arith
