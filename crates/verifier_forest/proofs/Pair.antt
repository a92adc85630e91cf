-- The two children of a covered node, written one after the other in either order. By the laws of parts that are lent.
use Prim.Native.Nat.{ℕ, zero, suc, ◌+◌, ◌-◌, ◌*◌, ◌≤◌, ◌<◌}
use mathlib.Core.Path.{◌≡◌, sym, ap, ◌∙◌}
use mathlib.Core.List.{List, ◌++◌}
use native.Mathlib.Nat.{le_refl}
use native.Mathlib.Decide.{dec_lt}
use native.Mathlib.Omega.{arith}
use lib.ListN.{length, take, drop}
use Rattle.spec.specs.Bytes.{part, zeros}
use Rattle.laws.proofs.Lists.{length_part, length-zeros}
use Rattle.laws.proofs.Concat.{mul-limit}
use Rattle.laws.proofs.Putting.{behind, put, put-size, put-here, put-before, put-after}
use Rattle.tree.proofs.Growing.{node-place}
use Rattle.verifier_forest.specs.ByWay.{CoveredPair}

-- where the children of node a stand in a tree of n bytes: child b, `on`, and the other, `off`, both behind the nodes before, and neither over the other
pub record Places (w a b n : ℕ) : Type 0 where
  pub small : 16 * (2 * a + 3) ≤ n
  pub first_on : w * (2 * a + 1) ≤ w * (2 * a + 1 + b)
  pub first_off : w * (2 * a + 1) ≤ w * (2 * a + 2 - b)
  pub on_room : w * (2 * a + 1 + b) + w ≤ n
  pub off-room : w * (2 * a + 2 - b) + w ≤ n
  pub apart : w * (2 * a + 1 + b) < w * (2 * a + 2 - b) → w * (2 * a + 1 + b) + w ≤ w * (2 * a + 2 - b)
  pub apart-back : w * (2 * a + 2 - b) ≤ w * (2 * a + 1 + b) → w * (2 * a + 2 - b) + w ≤ w * (2 * a + 1 + b)

pub places : (w a b n : ℕ) → 16 ≤ w → b ≤ 1 → w * (2 * a + 3) ≤ n → Places w a b n
places w a (suc (suc b)) n h o l = absurd (omega arith)
places w a zero n h o l =
    let m = mul-limit 16 (2 * a + 3) w (2 * a + 3) h (le_refl (2 * a + 3)) in
    let x = node-place w a 1 in
    let y = node-place w a 2 in
    let z = node-place w a 3 in
    let p : w * (2 * a + 1 + 0) ≡ w * (2 * a + 1) = ap (λ (k : ℕ). w * k) (omega arith) in
    let q : w * (2 * a + 2 - 0) ≡ w * (2 * a + 2) = ap (λ (k : ℕ). w * k) (omega arith) in
    record { small = omega arith; first_on = omega arith; first_off = omega arith; on_room = omega arith; off-room = omega arith; apart = λ t. omega arith; apart-back = λ t. omega arith }
places w a (suc zero) n h o l =
    let m = mul-limit 16 (2 * a + 3) w (2 * a + 3) h (le_refl (2 * a + 3)) in
    let x = node-place w a 1 in
    let y = node-place w a 2 in
    let z = node-place w a 3 in
    let p : w * (2 * a + 1 + 1) ≡ w * (2 * a + 2) = ap (λ (k : ℕ). w * k) (omega arith) in
    let q : w * (2 * a + 2 - 1) ≡ w * (2 * a + 1) = ap (λ (k : ℕ). w * k) (omega arith) in
    record { small = omega arith; first_on = omega arith; first_off = omega arith; on_room = omega arith; off-room = omega arith; apart = λ t. omega arith; apart-back = λ t. omega arith }

-- child b comes back from a call as zeros, and then the other is put
module _ (w a b : ℕ) (d y slot : List ℕ) (h : 16 ≤ w) (o : b ≤ 1) (r : w * (2 * a + 3) ≤ length d) (long : length slot ≡ w)
    (cleared : y ≡ zeros (length (part d (w * (2 * a + 1 + b)) (w * (2 * a + 1 + b) + w - w * (2 * a + 1 + b))) - 0)) where
  abbrev First : ℕ
  First = w * (2 * a + 1)

  abbrev On : ℕ
  On = w * (2 * a + 1 + b)

  abbrev Off : ℕ
  Off = w * (2 * a + 2 - b)

  abbrev Mid : List ℕ
  Mid = put d On w y

  at : Places w a b (length d)
  at = places w a b (length d) h o r

  zero_is : y ≡ zeros w
  zero_is =
      cleared
      ∙ ap zeros
      (let z = ap (λ (n : ℕ). length (part d On n)) (let m : On + w - On ≡ w = omega arith in m) ∙ length_part d On w at.on_room in
      let e : length (part d On (On + w - On)) - 0 ≡ w = omega arith in e)

  zero-long : length y ≡ w
  zero-long = ap length zero_is ∙ length-zeros w

  room : Off + w ≤ length Mid
  room = (let e = put-size d y On w at.on_room zero-long in let p = at in omega arith)

  kept : Dec (On < Off) → part (put Mid Off w slot) On w ≡ part Mid On w
  kept (yes l) = put-before Mid slot Off w room long On w (at.apart l)
  kept (no l) = put-after Mid slot Off w room long On w (at.apart-back (omega arith))

  pub written : (e : List ℕ) → e ≡ take Off Mid ++ (slot ++ drop (Off + w) Mid) → CoveredPair w a b slot d e
  written e q =
      let p = at in
      let new : e ≡ put Mid Off w slot = q ∙ ap (λ (x : List ℕ). take Off Mid ++ (slot ++ x)) (sym (behind Off w Mid)) in
      record {
        front = ap (take First) new ∙ put-before Mid slot Off w room long 0 First (omega arith) ∙ put-before d y On w p.on_room zero-long 0 First (omega arith);
        cleared = ap (λ (x : List ℕ). part x On w) new ∙ kept (dec_lt On Off) ∙ put-here d y On w p.on_room zero-long ∙ zero_is;
        copied = ap (λ (x : List ℕ). part x Off w) new ∙ put-here Mid slot Off w room long;
      }
