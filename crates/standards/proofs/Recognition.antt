-- The statements of ../specs/Recognition.antt. The inverse by one test over 256 bytes; the product by the laws of remainders; the sponge's blocks byte by
-- byte, byte i standing in block i / r; the count by the law of covered nodes.
use Prim.Native.Nat.{ℕ, zero, suc, ◌+◌, ◌*◌, ◌/◌, ◌%◌, ◌^◌, ◌≤◌, ◌<◌}
use mathlib.Core.Path.{◌≡◌, refl, sym, ap, ◌∙◌}
use mathlib.Core.Bool.{Bool, cond}
use mathlib.Core.List.{List, ◌++◌, append-nil, append_assoc}
use native.Mathlib.Nat.{mod-lt, mul_comm, div-add-mod', div-lt_iff_lt-mul, lt_of_lt_of_le}
use native.Mathlib.Omega.{arith}
use lib.Dec.{T, eqb, eqb→eq, lit<, lit≤}
use lib.ListN.{length, get_or, take}
use lib.Pow.{pow_mono}
use lib.Seq.{length-take-le, get_or-take}
use Rattle.spec.specs.Bytes.{tabulate, concat}
use Rattle.spec.specs.Polynomials.{product, remainder, field_product}
use Rattle.spec.specs.Gf256.{mul, squares, inverse}
use Rattle.spec.specs.Keccak.{keccak_f}
use Rattle.spec.specs.Sponge.{state_byte, absorbed_all, permuted, output_byte, sponge}
use Rattle.spec.specs.Shapes.{level, field_width, field_polynomial, leaves, hidden_leaves, planned_count}
use Rattle.laws.proofs.Lists.{length-tabulate, is-tabulate}
use Rattle.laws.proofs.Concat.{even-length, concat-byte}
use Rattle.laws.proofs.Tables.{at-below}
use Rattle.laws.proofs.Polynomials.{product_lt, remainder-lt, remainder-multiple, remainder-unique}
use Rattle.planning_laws.proofs.Count.{count-covered}
use Rattle.planning_laws.proofs.HiddenLeaves.{hidden-count, hidden-leaves, hidden-distinct}
use Rattle.planning_laws.proofs.ShapeFacts.{shape-facts, by_level}
use Rattle.planning_laws.proofs.ShapeLaws.{shape-laws}
use Rattle.standards.specs.Recognition.{SboxInverse, FieldProduct, Gf256Product, LeafHashProduct, squeezed, SpongeBlocks, CountOfCovered, PlannedCount}

-- ---- the inverse

inverts : ℕ → Bool
inverts k = eqb (mul (suc k) (inverse (suc k))) 1

tested : (k : ℕ) → k < 255 → T (inverts k)
unfolding inverts product remainder field_product mul squares inverse
tested k h = at-below inverts 255 tt k h

pub sbox-inverse : SboxInverse
unfolding inverts
sbox-inverse zero p h = absurd (omega arith)
sbox-inverse (suc k) p h = eqb→eq (mul (suc k) (inverse (suc k))) 1 (tested k (omega arith))

-- ---- the product

field-product : (w m : ℕ) → 2 ^ w ≤ m → m < 2 ^ suc w → FieldProduct w m
unfolding field_product
field-product w m low high =
    record {
      degree = λ n a b ha hb. remainder-lt w m low high n (product n a b) (small n a b ha);
      multiple = λ n a b ha hb. remainder-multiple w m low high n (product n a b) (small n a b ha);
      unique = remainder-unique w m low high;
    }
  where
    small : (n a b : ℕ) → a < 2 ^ w → product n a b < 2 ^ (w + n)
    small n a b ha = product_lt w n a b (lt_of_lt_of_le ha (pow_mono {i = w} {j = suc w} (omega arith)))

pub gf256-product : Gf256Product
gf256-product = field-product 8 0x11b (lit≤ tt) (lit< tt)

pub leaf-hash-product : LeafHashProduct
unfolding level field_width field_polynomial
leaf-hash-product s ok =
    by_level
    (λ n. FieldProduct (3 * n) (cond (eqb n 128) (2 ^ 384 + 2 ^ 12 + 2 ^ 3 + 2 ^ 2 + 1) (cond (eqb n 192) (2 ^ 576 + 2 ^ 13 + 2 ^ 4 + 2 ^ 3 + 1) (2 ^ 768 + 2 ^ 19 + 2 ^ 17 + 2 ^ 4 + 1))))
    (field-product 384 (2 ^ 384 + 2 ^ 12 + 2 ^ 3 + 2 ^ 2 + 1) (lit≤ tt) (lit< tt))
    (field-product 576 (2 ^ 576 + 2 ^ 13 + 2 ^ 4 + 2 ^ 3 + 1) (lit≤ tt) (lit< tt))
    (field-product 768 (2 ^ 768 + 2 ^ 19 + 2 ^ 17 + 2 ^ 4 + 1) (lit≤ tt) (lit< tt))
    s.level (shape-facts s ok).level-is

-- ---- the sponge

-- a permutation more, at the front or behind
permuted-next : (n : ℕ) (s : List ℕ) → permuted n (keccak_f s) ≡ keccak_f (permuted n s)
unfolding permuted
permuted-next zero s = refl
permuted-next (suc n) s = ap keccak_f (permuted-next n s)

squeezed-more : (r n : ℕ) (s : List ℕ) → squeezed r (suc n) s ≡ squeezed r n s ++ tabulate r (state_byte (permuted n s))
unfolding squeezed permuted
squeezed-more r zero s = append-nil (tabulate r (state_byte s))
squeezed-more r (suc n) s =
    let next = squeezed r n (keccak_f s) in
    ap (λ (rest : List ℕ). tabulate r (state_byte s) ++ rest) (squeezed-more r n (keccak_f s))
    ∙ sym (append_assoc (tabulate r (state_byte s)) next (tabulate r (state_byte (permuted n (keccak_f s)))))
    ∙ ap (λ (a : List ℕ). (tabulate r (state_byte s) ++ next) ++ tabulate r (state_byte a)) (permuted-next n s)

blocks-squeezed : (r n : ℕ) (s : List ℕ) → concat n (λ q. tabulate r (state_byte (permuted q s))) ≡ squeezed r n s
unfolding squeezed concat
blocks-squeezed r zero s = refl
blocks-squeezed r (suc n) s =
    ap (λ (front : List ℕ). front ++ tabulate r (state_byte (permuted n s))) (blocks-squeezed r n s) ∙ sym (squeezed-more r n s)

pub sponge-blocks : SpongeBlocks
unfolding sponge output_byte
sponge-blocks r suffix n blocks m hr h =
    let s = absorbed_all r suffix m in
    let f : ℕ → ℕ → ℕ = λ q p. state_byte (permuted q s) p in
    let long : length (concat blocks (λ q. tabulate r (f q))) ≡ r * blocks = even-length (λ q. tabulate r (f q)) r blocks (λ i l. length-tabulate r (f i)) in
    sym (is-tabulate n (λ i. f (i / r) (i % r)) 0 (take n (concat blocks (λ q. tabulate r (f q))))
    (length-take-le n (concat blocks (λ q. tabulate r (f q))) (omega arith))
    (λ i l.
    get_or-take n (concat blocks (λ q. tabulate r (f q))) i 0 l
    ∙ ap (λ (k : ℕ). get_or (concat blocks (λ q. tabulate r (f q))) k 0)
    (let z : i ≡ r * (i / r) + i % r = (let d = div-add-mod' i r in let c = mul_comm r (i / r) in omega arith) in z)
    ∙ concat-byte r blocks f (i / r) (i % r) ((div-lt_iff_lt-mul hr).1 (let c = mul_comm r blocks in let z : i < blocks * r = omega arith in z)) (mod-lt i hr)))
    ∙ ap (take n) (blocks-squeezed r blocks s)

-- ---- the count

pub count-of-covered : CountOfCovered
count-of-covered = count-covered

pub planned-count : PlannedCount
unfolding planned_count
planned-count s ch e =
    let n = hidden-count s ch in
    ap (λ (m : ℕ). planned_count s ch + 2 * m) (sym n)
    ∙ count-covered (leaves s) (hidden_leaves s ch) (hidden-leaves s ch) (hidden-distinct s ch) (let z = (shape-laws s e).tau-pos in omega arith)
