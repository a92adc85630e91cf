-- What `fill` and `copy_part` ensure, with the definitions of the seed and the commitment for this kind.
use mathlib.Core.Path.{◌≡◌, sym, ap, ap₂, ◌∙◌}
use mathlib.Core.Bool.{false}
use mathlib.Core.List.{List, ◌++◌, append-nil}
use Prim.Native.Nat.{ℕ, ◌+◌, ◌-◌, ◌%◌}
use native.Mathlib.Nat.{zero-add}
use native.Mathlib.Omega.{arith}
use lib.ListN.{length, take, drop}
use lib.Seq.{take-length, drop-length}
use Rattle.laws.proofs.Lists.{tabulate-from-0}
use Rattle.planning_laws.proofs.ShapeFacts.{shape-facts, widths}
use Rattle.spec.specs.declared.Shape.{Shape}
use Rattle.spec.specs.Bytes.{tabulate}
use Rattle.spec.specs.Shapes.{ordinary, leaf_commitment_bytes, key_words, leaves}
use Rattle.spec.specs.Generator.{generator_byte}
use Rattle.job.specs.declared.Version.TheVariants.{Two}
use Rattle.job.specs.declared.Nonce.{Nonce}
use Rattle.job.specs.Versions.{byte_of}
use Rattle.job.proofs.Each.{byte-two}
use Rattle.spec.specs.Primitives.{faest, prg}
use Rattle.spec.specs.Leaves.{leaf_seed, leaf_commitment}
use Rattle.leaf.proofs.ByKind.{em-seed, em-commitment}
use Rattle.leaf.proofs.em_leaf.Goals as goal

-- the seed's buffer, written whole with the key
seed : (s : Shape) (key iv : List ℕ) (i : ℕ) (d y : List ℕ) → ordinary s ≡ false → length key ≡ length d → y ≡ take (length key) key ++ drop (0 + length key) d
    → y ≡ leaf_seed faest s iv i key
seed s key iv i d y o l e =
    e
    ∙ ap₂ (λ (a : List ℕ) (m : ℕ). a ++ drop m d) (take-length key) (zero-add (length key) ∙ l)
    ∙ ap (λ (a : List ℕ). key ++ a) (drop-length d)
    ∙ append-nil key
    ∙ sym (em-seed faest s iv i key o)

commitment : (s : Shape) (key : List ℕ) (x : Nonce) (i m : ℕ) (y : List ℕ) → ordinary s ≡ false → x.version ≡ Two → x.tweak ≡ i + leaves s - 1 → m ≡ leaf_commitment_bytes s
    → y ≡ tabulate m (λ p. byte_of (key_words s) key x (0 + p)) → y ≡ leaf_commitment faest s x.iv i key
unfolding faest prg
commitment s key x i m y o v et em e =
    e
    ∙ ap (λ (f : ℕ → ℕ). tabulate m (λ p. f (0 + p))) (byte-two (key_words s) key x v)
    ∙ ap₂ (λ (m t : ℕ). tabulate m (λ p. generator_byte (key_words s) key x.iv t (0 + p))) em et
    ∙ tabulate-from-0 (leaf_commitment_bytes s) (generator_byte (key_words s) key x.iv (i + leaves s - 1))
    ∙ sym (em-commitment faest s x.iv i key o)

pub fill-requires : goal.fill-requires
fill-requires c =
    let p = c.requires in
    let w = widths c.args.s (shape-facts c.args.s p.0) in
    (omega (arith, w.node-min), omega (arith, w.node-max), ap (λ (n : ℕ). n % 8) p.3 ∙ w.node-eight, omega (arith, w.node-max, w.commitment-max))

pub returns : goal.returns
returns c = λ i tweak.
    let g = c.args in
    let p = c.requires in
    let words = p.3 ∙ (widths g.s (shape-facts g.s p.0)).node-words in (
      seed g.s g.key.now g.x.iv i g.seed.now _ p.1 (p.3 ∙ sym p.4) c.copy_part.ensures,
      commitment g.s g.key.now g.x i (length g.out.now) _ p.1 p.2 tweak p.5
          (c.fill.ensures (key_words g.s) words),
    )
