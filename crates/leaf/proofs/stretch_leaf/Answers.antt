-- What `fill`, `leaf_hash` and `copy_part` ensure, with the definitions of the seed and the commitment unfolded.
use mathlib.Core.Path.{◌≡◌, sym, ap, ap₂, ◌∙◌}
use mathlib.Core.Bool.{true}
use mathlib.Core.List.{List, ◌++◌, append-nil}
use Prim.Native.Nat.{ℕ, ◌+◌, ◌-◌, ◌%◌}
use native.Mathlib.Nat.{zero-add}
use native.Mathlib.Omega.{arith}
use lib.ListN.{length, take, drop}
use lib.Seq.{drop-length}
use Rattle.laws.proofs.Lists.{tabulate-from-0}
use Rattle.planning_laws.proofs.ShapeFacts.{shape-facts, widths}
use Rattle.spec.specs.declared.Shape.{Shape}
use Rattle.spec.specs.Bytes.{tabulate}
use Rattle.spec.specs.Shapes.{ordinary, node_bytes, leaf_commitment_bytes, key_words, field_width, field_polynomial, leaves}
use Rattle.spec.specs.Generator.{generator_byte}
use Rattle.job.specs.declared.Version.TheVariants.{Two}
use Rattle.job.specs.declared.Nonce.{Nonce}
use Rattle.job.specs.Versions.{byte_of}
use Rattle.job.proofs.Each.{byte-two}
use Rattle.spec.specs.LeafHash.{leaf_hash_byte}
use Rattle.spec.specs.Primitives.{faest, prg}
use Rattle.spec.specs.Leaves.{hash_key, stretched, leaf_seed, leaf_commitment}
use Rattle.leaf.specs.HashKeys.{HashMultiples}
use Rattle.leaf.proofs.ByKind.{ordinary-seed, ordinary-commitment}
use Rattle.leaf.proofs.stretch_leaf.Goals as goal

-- what `fill` writes, with the tweak of the leaves of vector i
filled : (s : Shape) (key : List ℕ) (x : Nonce) (i m : ℕ) (y : List ℕ) → x.version ≡ Two → x.tweak ≡ i + leaves s - 1 → m ≡ node_bytes s + leaf_commitment_bytes s
    → y ≡ tabulate m (λ p. byte_of (key_words s) key x (0 + p)) → y ≡ stretched faest s x.iv i key
unfolding faest prg stretched
filled s key x i m y v et em e =
    e
    ∙ ap (λ (f : ℕ → ℕ). tabulate m (λ p. f (0 + p))) (byte-two (key_words s) key x v)
    ∙ ap₂ (λ (m t : ℕ). tabulate m (λ p. generator_byte (key_words s) key x.iv t (0 + p))) em et
    ∙ tabulate-from-0 (node_bytes s + leaf_commitment_bytes s) (generator_byte (key_words s) key x.iv (i + leaves s - 1))

-- the seed's buffer, written whole
seed : (s : Shape) (key iv : List ℕ) (i n : ℕ) (x d y : List ℕ) → ordinary s ≡ true → x ≡ stretched faest s iv i key → n ≡ node_bytes s → length d ≡ node_bytes s → y ≡ take n x ++ drop (0 + n) d
    → y ≡ leaf_seed faest s iv i key
seed s key iv i n x d y o ex en ed e =
    e
    ∙ ap (λ (m : ℕ). take n x ++ drop m d) (zero-add n ∙ en ∙ sym ed)
    ∙ ap (λ (l : List ℕ). take n x ++ l) (drop-length d)
    ∙ append-nil (take n x)
    ∙ ap₂ take en ex
    ∙ sym (ordinary-seed faest s iv i key o)

commitment : (s : Shape) (key iv : List ℕ) (i : ℕ) (x y : List ℕ) → ordinary s ≡ true → x ≡ stretched faest s iv i key
    → y ≡ tabulate (leaf_commitment_bytes s) (leaf_hash_byte (field_width s) (field_polynomial s) (hash_key faest s iv i) (take (node_bytes s) x) (drop (node_bytes s) x))
    → y ≡ leaf_commitment faest s iv i key
unfolding faest
commitment s key iv i x y o ex e =
    e
    ∙ ap (λ (l : List ℕ). tabulate (leaf_commitment_bytes s) (leaf_hash_byte (field_width s) (field_polynomial s) (hash_key faest s iv i) (take (node_bytes s) l) (drop (node_bytes s) l))) ex
    ∙ ap
    (λ (l : List ℕ). tabulate (leaf_commitment_bytes s) (leaf_hash_byte (field_width s) (field_polynomial s) (hash_key faest s iv i) l (drop (node_bytes s) (stretched faest s iv i key))))
    (sym (ordinary-seed faest s iv i key o))
    ∙ sym (ordinary-commitment faest s iv i key o)

pub fill-requires : goal.fill-requires
fill-requires c =
    let p = c.requires in
    let w = widths c.args.s (shape-facts c.args.s p.0) in
    (omega (arith, w.node-min), omega (arith, w.node-max), ap (λ (n : ℕ). n % 8) p.3 ∙ w.node-eight, omega (arith, w.node-max, w.commitment-max))

pub returns : goal.returns
unfolding HashMultiples
returns c = λ i tweak multiples.
    let g = c.args in
    let p = c.requires in
    let n = c.node_bytes-n in
    let call = c.fill in
    let words = p.3 ∙ (widths g.s (shape-facts g.s p.0)).node-words in
    let x = call.new.out in
    let e = filled g.s g.key.now g.x i (length g.stretched.now) x p.2 tweak p.4 (call.ensures (key_words g.s) words) in (
      seed g.s g.key.now g.x.iv i n.result x g.seed.now _ p.1 e n.ensures.0 p.5 c.copy_part.ensures,
      commitment g.s g.key.now g.x.iv i x _ p.1 e (c.leaf_hash.ensures (hash_key faest g.s g.x.iv i) (multiples p.1)),
    )
