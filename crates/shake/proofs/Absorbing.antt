-- What the sponge holds as the parts of a message come in. A part only goes on in the string that is xored into the last block's state; where it ends the
-- block, the permutation closes the block.
use mathlib.Core.Path.{◌≡◌, refl, sym, ap, ap₂, ◌∙◌}
use mathlib.Core.List.{List, [], ◌∷◌, ◌++◌, append-nil, append_assoc}
use Prim.Native.Nat.{ℕ, zero, suc, ◌+◌, ◌-◌, ◌*◌, ◌/◌, ◌%◌, ◌≤◌, ◌<◌}
use native.Mathlib.Nat.{mul-suc, mul-zero}
use native.Mathlib.Omega.{arith}
use lib.ListN.{length, take, drop, length-append, length-drop, length-set, drop_of_length-le}
use lib.Seq.{take_all, take-append-le, drop-append-le, get_or-drop}
use Rattle.laws.proofs.Division.{quotient, remainder}
use Rattle.laws.proofs.Lists.{length-tabulate, length-zeros}
use Rattle.laws.proofs.Numbers.{Digits}
use Rattle.laws.proofs.Strings.{digits_append, length-xor_bytes}
use Rattle.spec.specs.Bytes.{part, zeros}
use Rattle.spec.specs.Keccak.{theta, rho, pi, chi, iota, round, first_rounds, keccak_f}
use Rattle.spec.specs.Sponge.{xor_in, absorbed, padding, padded, absorbed_all}
use Rattle.shake.specs.Absorbing.{Holds, Absorbs}
use Rattle.shake.specs.declared.Sponge.{Sponge}
use Rattle.shake.proofs.XorIn.{xor_in-none, xor_in-more}

-- the permutation leaves 25 lanes
rounds-length : (n : ℕ) (a : List ℕ) → length (first_rounds (suc n) a) ≡ 25
unfolding first_rounds round iota chi
rounds-length n a = length-set (chi (pi (rho (theta (first_rounds n a))))) 0 _ ∙ length-tabulate 25 _

keccak-length : (a : List ℕ) → length (keccak_f a) ≡ 25
unfolding keccak_f
keccak-length a = rounds-length 23 a

absorbed-length : (r n : ℕ) (m : List ℕ) → length (absorbed r n m) ≡ 25
unfolding absorbed
absorbed-length r zero m = length-zeros 25
absorbed-length r (suc n) m = keccak-length (xor_in (absorbed r n m) (part m (r * n) r))

-- the full blocks of m, with nothing behind them xored in
blocks_end : (r n : ℕ) (m : List ℕ) → length m ≤ r * n → xor_in (absorbed r n m) (drop (r * n) m) ≡ absorbed r n m
blocks_end r n m h = ap (xor_in (absorbed r n m)) (drop_of_length-le m h) ∙ xor_in-none (absorbed r n m) (absorbed-length r n m)

-- what comes behind the first n blocks does not change their state
absorbed-more : (r n : ℕ) (m p : List ℕ) → r * n ≤ length m → absorbed r n (m ++ p) ≡ absorbed r n m
unfolding absorbed
absorbed-more r zero m p h = refl
absorbed-more r (suc n) m p h =
    let e : r * suc n ≡ r * n + r = mul-suc r n in
    let before : r * n ≤ length m = omega arith in
    let whole : r ≤ length (drop (r * n) m) = rw length-drop (omega arith) in
    ap₂ (λ (a b : List ℕ). keccak_f (xor_in a b)) (absorbed-more r n m p before)
    (ap (take r) (drop-append-le (r * n) m p before) ∙ take-append-le r (drop (r * n) m) p whole)

-- nothing yet
pub holds-none : (r : ℕ) → 0 < r → Holds r [] (zeros 25) 0
unfolding absorbed
holds-none r h =
    record {
      full = 0;
      count = omega (arith, mul-zero r);
      room = h;
      small = λ i. omega arith;
      state = sym (blocks_end r 0 [] (omega arith));
    }

-- a part p comes in: it is xored in behind fill zeros, with n zeros behind it
module _ (r : ℕ) (m lanes : List ℕ) (fill : ℕ) (p : List ℕ) (n : ℕ) (h : Holds r m lanes fill) (hp : Digits 8 p) where
  abbrev next : List ℕ
  next = xor_in lanes (zeros fill ++ (p ++ zeros n))

  after : next ≡ xor_in (absorbed r h.full (m ++ p)) (drop (r * h.full) (m ++ p))
  after =
      let q = r * h.full in
      let le : q ≤ length m = omega (arith, h.count) in
      let e : length (drop q m) ≡ fill = rw length-drop (omega (arith, h.count)) in
      ap₂ (λ (a b : List ℕ). xor_in a (b ++ (p ++ zeros n))) h.state (ap zeros (sym e))
      ∙ xor_in-more (absorbed r h.full m) (drop q m) p n (λ i. rw get_or-drop (h.small (q + i))) hp
      ∙ ap₂ xor_in (sym (absorbed-more r h.full m p le)) (sym (drop-append-le q m p le))

  -- the block stays open
  holds-part : fill + length p < r → Holds r (m ++ p) next (fill + length p)
  holds-part fits =
      record {
        full = h.full;
        count = rw length-append (omega (arith, h.count));
        room = fits;
        small = digits_append 8 m p h.small hp;
        state = after;
      }

  -- the part ends the block
  holds-full : fill + length p ≡ r → Holds r (m ++ p) (keccak_f next) 0
  unfolding absorbed
  holds-full fits =
      let q = h.full in
      let e : r * suc q ≡ r * q + r = mul-suc r q in
      let c : length (m ++ p) ≡ r * suc q + 0 = rw length-append (omega (arith, h.count)) in
      let last : length (drop (r * q) (m ++ p)) ≤ r = rw length-drop (omega arith) in
      record {
        full = suc q;
        count = c;
        room = omega (arith, h.room);
        small = digits_append 8 m p h.small hp;
        state =
            ap keccak_f (after ∙ ap (xor_in (absorbed r q (m ++ p))) (sym (take_all r (drop (r * q) (m ++ p)) last)))
            ∙ sym (blocks_end r (suc q) (m ++ p) (omega arith));
      }

-- the same, whatever m is
module _ {r : ℕ} {lanes : List ℕ} {fill : ℕ} (p : List ℕ) {lanes' : List ℕ} (n : ℕ) (hp : Digits 8 p) where
  pub part_open : fill + length p < r → lanes' ≡ xor_in lanes (zeros fill ++ (p ++ zeros n)) → (m : List ℕ) → Holds r m lanes fill
      → Holds r (m ++ p) lanes' (fill + length p)
  part_open fits e m h = rw e (holds-part r m lanes fill p n h hp fits)

  pub part_full : fill + length p ≡ r → lanes' ≡ keccak_f (xor_in lanes (zeros fill ++ (p ++ zeros n))) → (m : List ℕ) → Holds r m lanes fill
      → Holds r (m ++ p) lanes' 0
  part_full fits e m h = rw e (holds-full r m lanes fill p n h hp fits)

-- several parts
pub absorbs-none : (s : Sponge) → Absorbs s [] s
absorbs-none s = record { rate = refl; holds = λ m h. rw append-nil h }

pub absorbs_more : {s t u : Sponge} {a b : List ℕ} → Absorbs s a t → Absorbs t b u → Absorbs s (a ++ b) u
absorbs_more {s} {t} {u} {a} {b} x y = record { rate = y.rate ∙ x.rate; holds = λ m h. rw (← append_assoc m a b) (y.holds (m ++ a) (x.holds m h)) }

-- the padding, whole blocks
pub length-padding : (suffix n : ℕ) → 0 < n → length (padding suffix n) ≡ n
unfolding padding
length-padding suffix n h =
    let e : suc (length (zeros (n - 1))) ≡ n = rw length-zeros (omega arith) in
    length-xor_bytes (suffix ∷ zeros (n - 1)) (zeros (n - 1) ++ (128 ∷ [])) (rw length-append (omega arith)) ∙ e

module _ (r suffix : ℕ) (m lanes : List ℕ) (fill : ℕ) (h : Holds r m lanes fill) where
  pub holds-all : (lanes' : List ℕ) (fill' : ℕ) → Holds r (m ++ padding suffix (r - fill)) lanes' fill' → lanes' ≡ absorbed_all r suffix m
  unfolding absorbed_all padded
  holds-all lanes' fill' h' =
      let p : List ℕ = m ++ padding suffix (r - fill) in
      let rest : length m % r ≡ fill = ap (λ (n : ℕ). n % r) h.count ∙ remainder r h.full h.room in
      let e : r * suc h.full ≡ r * h.full + r = mul-suc r h.full in
      let whole : length p ≡ r * suc h.full + 0 =
      rw (length-append, length-padding suffix (r - fill) (omega (arith, h.room))) (omega (arith, h.count, h.room)) in
      let pos : 0 < r = omega (arith, h.room) in
      let none : fill' ≡ 0 =
      sym (remainder r h'.full h'.room) ∙ ap (λ (n : ℕ). n % r) (sym h'.count ∙ whole) ∙ remainder r (suc h.full) pos in
      let count : length p / r ≡ h'.full = ap (λ (n : ℕ). n / r) h'.count ∙ quotient r h'.full h'.room in
      h'.state
      ∙ blocks_end r h'.full p (omega (arith, h'.count))
      ∙ ap (λ (n : ℕ). absorbed r n p) (sym count)
      ∙ ap (λ (n : ℕ). absorbed r (length (m ++ padding suffix (r - n)) / r) (m ++ padding suffix (r - n))) (sym rest)
