-- The definitions by version, at each of the two, are the version's own. By computing.
use Prim.Native.Nat.{ℕ, ◌+◌}
use mathlib.Core.Path.{◌≡◌, refl, ap}
use mathlib.Core.List.{List}
use native.Mathlib.Omega.{arith}
use Rattle.spec.specs.declared.Shape.{Shape}
use Rattle.spec.specs.declared.Stretch.{Stretch}
use Rattle.spec.specs.Shapes.{key_words}
use Rattle.spec.specs.Generator.{generator_block, generator_byte}
use Rattle.spec.specs.Primitives.{faest}
use Rattle.spec.specs.Leaves.{leaf_key}
use Rattle.spec.specs.Rows.{row_byte, stretch_byte}
use Rattle.spec.specs.Signer.{signer_leaf_commitment}
use Rattle.spec.specs.Verifier.{hidden_leaf_commitment, verifier_leaf_commitment}
use Rattle.spec.specs.Version1.{faest1, generator1_block, generator1_byte, leaf_key1, signer_leaf_commitment1, row1_byte}
use Rattle.job.specs.declared.Version.{Version}
use Rattle.job.specs.declared.Version.TheVariants.{One, Two}
use Rattle.job.specs.declared.Nonce.{Nonce}
use Rattle.job.specs.declared.Job.{Job}
use Rattle.job.specs.Versions.{primitives_of, counter_of, block_of, byte_of, leaf_node, leaf_seed_of, leaf_commitment_of, KindFits, hidden_from}
use Rattle.job.specs.Jobs.{entry_commitment, entry_byte, given_commitment}

-- the generator of a version, by a nonce
pub prg-byte : (v : Version) (s : Shape) (key iv : List ℕ) (tweak : ℕ) → (primitives_of v).prg_byte s key iv tweak ≡ byte_of (key_words s) key (record { iv = iv; tweak = tweak; version = v })
unfolding faest faest1 primitives_of counter_of block_of byte_of generator_block generator_byte generator1_block generator1_byte
prg-byte One s key iv tweak = refl
prg-byte Two s key iv tweak = refl

pub byte-two : (nk : ℕ) (key : List ℕ) (x : Nonce) → x.version ≡ Two → byte_of nk key x ≡ generator_byte nk key x.iv x.tweak
unfolding counter_of block_of byte_of generator_block generator_byte
byte-two nk key x e = ap (λ (v : Version). byte_of nk key (record { iv = x.iv; tweak = x.tweak; version = v })) e

-- version 2 asks nothing of the kind
pub two_fits : (s : Shape) → KindFits Two s
two_fits s e = (let z : ◌≡◌ {A = ℕ} 0 1 = cc in absurd (omega arith))

module _ (s : Shape) (z : Stretch) (iv nodes : List ℕ) where
  abbrev pub job : Version → Job
  job v = record { shape = s; stretch = z; iv = iv; version = v }

  -- version 2
  pub commitment-2 : entry_commitment (job Two) nodes ≡ signer_leaf_commitment faest s iv nodes
  unfolding leaf_key signer_leaf_commitment leaf_node leaf_commitment_of entry_commitment
  commitment-2 = refl

  pub byte-2 : entry_byte (job Two) nodes ≡ stretch_byte faest s z iv nodes
  unfolding leaf_key row_byte stretch_byte primitives_of leaf_node leaf_seed_of entry_byte
  byte-2 = refl

  pub given-2 : (ch opening : List ℕ) → given_commitment (job Two) ch opening nodes ≡ verifier_leaf_commitment faest s iv ch opening nodes
  unfolding leaf_key hidden_leaf_commitment verifier_leaf_commitment leaf_node leaf_commitment_of hidden_from entry_commitment given_commitment
  given-2 ch opening = refl

  -- version 1
  pub commitment-1 : entry_commitment (job One) nodes ≡ signer_leaf_commitment1 faest1 s iv nodes
  unfolding leaf_key1 signer_leaf_commitment1 leaf_node leaf_commitment_of entry_commitment
  commitment-1 = refl

  pub byte-1 : (i e p : ℕ) → entry_byte (job One) nodes i e p ≡ row1_byte faest1 s iv nodes i e (z.first + p)
  unfolding faest1 leaf_key1 row1_byte primitives_of leaf_node leaf_seed_of entry_byte
  byte-1 i e p = refl
