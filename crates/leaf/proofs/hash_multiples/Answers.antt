-- The key of the vector lies within the keys, and the multiples are those in the field of the level, where the leaves are ordinary.
use Prim.Native.Nat.{ℕ, ◌+◌, ◌-◌, ◌*◌, ◌≤◌, ◌<◌}
use mathlib.Core.Path.{◌≡◌, sym, ap, ◌∙◌, subst}
use mathlib.Core.Bool.{true, true≢false}
use mathlib.Core.List.{List}
use native.Mathlib.Nat.{le-add_right}
use native.Mathlib.Omega.{arith}
use lib.ListN.{length}
use Rattle.spec.specs.declared.Shape.{Shape}
use Rattle.spec.specs.Bytes.{number, part}
use Rattle.spec.specs.Shapes.{leaf_commitment_bytes, shape_ok, field_width, field_polynomial}
use Rattle.laws.proofs.Lists.{length_part}
use Rattle.laws.proofs.Concat.{mul-within, mul-limit}
use Rattle.planning_laws.proofs.ShapeFacts.{shape-facts}
use Rattle.field.specs.Multiples.{Multiples}
use Rattle.leaf.specs.HashKeys.{HashMultiples}
use Rattle.leaf.proofs.Keys.{key_of}
use Rattle.leaf.proofs.hash_multiples.Goals as goal

-- where the key of vector i begins
start_small : (s : Shape) → shape_ok s ≡ true → (w i : ℕ) → w ≤ 96 → i < s.tau → w * i ≤ 3072
start_small s ok w i h k = (let f = shape-facts s ok in mul-limit w i 96 32 h (omega arith))

-- and ends, within the keys
key-end : (s : Shape) (w i n : ℕ) → w ≡ leaf_commitment_bytes s → i < s.tau → n ≡ leaf_commitment_bytes s * s.tau → w * i + w ≤ n
key-end s w i n e h k =
    let all : w * s.tau ≡ leaf_commitment_bytes s * s.tau = ap (λ (n : ℕ). n * s.tau) e in
    let m = mul-within w i s.tau h in
    omega arith

pub overflow_mul-w : goal.overflow_mul-w
overflow_mul-w c =
    let m = start_small c.args.s c.requires.0 c.commitment_bytes-w.result c.args.i c.commitment_bytes-w.ensures.1 c.requires.1 in
    omega arith

pub overflow_mul-w-then-is_ordinary : goal.overflow_mul-w-then-is_ordinary
overflow_mul-w-then-is_ordinary c =
    let m = start_small c.args.s c.requires.0 c.commitment_bytes-w.result c.args.i c.commitment_bytes-w.ensures.1 c.requires.1 in
    omega arith

pub overflow_add-w : goal.overflow_add-w
overflow_add-w c =
    let w = c.commitment_bytes-w in
    let m = start_small c.args.s c.requires.0 w.result c.args.i w.ensures.1 c.requires.1 in
    omega (arith, w.ensures.1)

pub slice_bounds-multiples-count : goal.slice_bounds-multiples-count
slice_bounds-multiples-count c = le-add_right _ _

pub slice_bounds-multiples-start : goal.slice_bounds-multiples-start
slice_bounds-multiples-start c = le-add_right _ _

pub slice_bounds-multiples-end : goal.slice_bounds-multiples-end
slice_bounds-multiples-end c = key-end c.args.s c.commitment_bytes-w.result c.args.i _ c.commitment_bytes-w.ensures.0 c.requires.1 c.requires.2

pub multiples-requires : goal.multiples-requires
multiples-requires c =
    let w = c.commitment_bytes-w in
    let at = w.result * c.args.i in
    let one : at + w.result - at ≡ w.result = omega arith in (
      c.requires.0,
      sym c.is_ordinary.ensures ∙ c.if-is_ordinary.true,
      ap (λ (n : ℕ). length (part c.args.keys.now at n)) one ∙ length_part c.args.keys.now at w.result (key-end c.args.s w.result c.args.i _ w.ensures.0 c.requires.1 c.requires.2) ∙ w.ensures.0,
    )

pub returns-then-is_ordinary : goal.returns-then-is_ordinary
unfolding HashMultiples
returns-then-is_ordinary c = λ iv h o.
    let g = c.args in
    let w = c.commitment_bytes-w in
    subst (λ (x : List ℕ). Multiples (field_width g.s) (field_polynomial g.s) (number 8 x) c.multiples.result) (key_of g.s iv g.keys.now h w.result g.i w.ensures.0 o) c.multiples.ensures

pub returns : goal.returns
unfolding HashMultiples
returns c = λ iv h o. absurd (true≢false (sym o ∙ sym c.is_ordinary.ensures ∙ c.if-is_ordinary.false))
