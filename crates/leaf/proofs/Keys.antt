-- The hash keys of all vectors: as H0 gives them, or none; their length, and the key of one vector. By the definitions.
use Prim.Native.Nat.{ℕ, ◌+◌, ◌-◌, ◌*◌}
use mathlib.Core.Path.{◌≡◌, sym, ap, ap₂, subst, ◌∙◌}
use mathlib.Core.Bool.{true, false, true≢false}
use mathlib.Core.List.{List}
use native.Mathlib.Omega.{arith}
use lib.ListN.{length}
use Rattle.spec.specs.declared.Shape.{Shape}
use Rattle.spec.specs.Bytes.{part}
use Rattle.spec.specs.Hashes.{hash0}
use Rattle.spec.specs.Shapes.{ordinary, leaf_commitment_bytes, rate}
use Rattle.spec.specs.Primitives.{faest}
use Rattle.spec.specs.Leaves.{hash_key}
use Rattle.leaf.specs.HashKeys.{HashKeys}
use Rattle.leaf.proofs.Hashed.{h0-length}

pub keys-made : (s : Shape) (iv keys : List ℕ) (r n : ℕ) → r ≡ rate s → n ≡ leaf_commitment_bytes s * s.tau → keys ≡ hash0 r iv n → HashKeys s iv keys
unfolding faest
keys-made s iv keys r n er en e =
    let k : keys ≡ faest.h0 s iv (leaf_commitment_bytes s * s.tau) = e ∙ ap₂ (λ (r n : ℕ). hash0 r iv n) er en in
    record { size = ap length k ∙ h0-length (rate s) iv (leaf_commitment_bytes s * s.tau); made = λ o. k }

pub keys_none : (s : Shape) (iv keys : List ℕ) → ordinary s ≡ false → length keys ≡ leaf_commitment_bytes s * s.tau → HashKeys s iv keys
keys_none s iv keys o l = record { size = l; made = λ p. absurd (true≢false (sym p ∙ o)) }

-- of an IV that is another by name
pub keys-same : (s : Shape) (iv iv' keys : List ℕ) → iv ≡ iv' → HashKeys s iv' keys → HashKeys s iv keys
keys-same s iv iv' keys e h = subst (λ (x : List ℕ). HashKeys s x keys) (sym e) h

-- the key of vector i; w is the length of a hash key
pub key_of : (s : Shape) (iv keys : List ℕ) → HashKeys s iv keys → (w i : ℕ) → w ≡ leaf_commitment_bytes s → ordinary s ≡ true
    → part keys (w * i) (w * i + w - w * i) ≡ hash_key faest s iv i
unfolding hash_key
key_of s iv keys h w i k o =
    let one : w * i + w - w * i ≡ w = omega arith in
    ap₂ (λ (l : List ℕ) (n : ℕ). part l (w * i) n) (h.made o) one ∙ ap (λ (n : ℕ). part (faest.h0 s iv (leaf_commitment_bytes s * s.tau)) (n * i) n) k
