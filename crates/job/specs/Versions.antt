-- What the code of both versions is proved against: each definition is that of version 2 or of version 1.
use Rattle.std.specs.Prelude.{ℕ, ◌+◌, ◌*◌, ◌/◌, ◌%◌, ◌≡◌, false, List, get_or}
use Rattle.spec.specs.declared.Shape.{Shape}
use Rattle.spec.specs.Aes.{state_of, bytes_of, cipher, key_expansion}
use Rattle.spec.specs.Shapes.{ordinary, node_bytes, leaf_commitment_bytes, depth_of, leaf_of, tree_bytes, opening_bytes}
use Rattle.spec.specs.Generator.{add_to_upper_word, add_to_lower_word}
use Rattle.spec.specs.Primitives.{Primitives, faest}
use Rattle.spec.specs.Leaves.{leaf_seed, leaf_commitment}
use Rattle.spec.specs.Version1.{faest1, add_to_iv, first_node, leaf_in, leaf_seed1, leaf_commitment1, decommitment_from, trees1_bytes, opening1_bytes}
use Rattle.job.specs.declared.Version.{Version}
use Rattle.job.specs.declared.Version.TheVariants.{One, Two}
use Rattle.job.specs.declared.Nonce.{Nonce}

unfoldable pub primitives_of : Version → Primitives
primitives_of One = faest1
primitives_of Two = faest

-- ---- the generator, for a key of nk words

-- what block n encrypts
unfoldable pub counter_of : Version → List ℕ → ℕ → ℕ → List (List ℕ)
counter_of One iv tweak n = state_of (add_to_iv iv n)
counter_of Two iv tweak n = add_to_lower_word (add_to_upper_word (state_of iv) tweak) n

unfoldable pub block_of : ℕ → List ℕ → Nonce → ℕ → List ℕ
block_of nk key x n = bytes_of (cipher (nk + 6) (key_expansion nk key) (counter_of x.version x.iv x.tweak n))

unfoldable pub byte_of : ℕ → List ℕ → Nonce → ℕ → ℕ
byte_of nk key x p = get_or (block_of nk key x (p / 16)) (p % 16) 0

-- ---- the leaves, from the lent nodes of a call: a tree, or the trees of all vectors

-- where the leaf of entry j of vector i stands among them, and how long they are
unfoldable pub leaf_node : Version → Shape → ℕ → ℕ → ℕ
leaf_node One s i j = first_node s i + leaf_in s i j
leaf_node Two s i j = leaf_of s i j

unfoldable pub nodes_bytes : Version → Shape → ℕ
nodes_bytes One s = trees1_bytes s
nodes_bytes Two s = tree_bytes s

-- a leaf commitment of version 1 has two nodes' length and takes no hash key: inside, its shape has the kind whose leaves are so
abbrev pub KindFits : Version → Shape → Type 0
KindFits v s = v ≡ One → ordinary s ≡ false

-- the seed and the commitment of the leaf `key` of vector i
unfoldable pub leaf_seed_of : Version → Shape → List ℕ → ℕ → List ℕ → List ℕ
leaf_seed_of One s iv i key = leaf_seed1 faest1 s iv key
leaf_seed_of Two s iv i key = leaf_seed faest s iv i key

unfoldable pub leaf_commitment_of : Version → Shape → List ℕ → ℕ → List ℕ → List ℕ
leaf_commitment_of One s iv i key = leaf_commitment1 faest1 s iv key
leaf_commitment_of Two s iv i key = leaf_commitment faest s iv i key

-- ---- an opening: its length, and where it has the hidden leaf commitment of vector i

unfoldable pub opening_length : Version → Shape → ℕ
opening_length One s = opening1_bytes s
opening_length Two s = opening_bytes s

unfoldable pub hidden_from : Version → Shape → ℕ → ℕ
hidden_from One s i = decommitment_from s i + node_bytes s * depth_of s i
hidden_from Two s i = leaf_commitment_bytes s * i
