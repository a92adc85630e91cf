-- Document 02, E12: FAEST version 1.1, with one tree for each vector, hashed leaves and no tweak. That specification is not among the documents: docs/DECISIONS.md lists what was taken, each point that differs from
-- version 2 behind one name of this file. What is not defined here is that of version 2: shapes, widths and challenge, the hashes, the order of the leaf commitments and the commitment (Leaves.antt),
-- u, columns, corrections and matrix of given rows (Rows.antt, Signer.antt, Verifier.antt).
use Rattle.std.specs.Prelude.{ℕ, ◌+◌, ◌-◌, ◌*◌, ◌/◌, ◌%◌, ◌^◌, Bool, ◌&&◌, cond, List, [], ◌∷◌, ◌++◌, eqb, get_or, take, drop}
use Rattle.std.specs.Int.Bits.{bit_xor}
use Rattle.spec.specs.declared.Shape.{Shape}
use Rattle.spec.specs.Bytes.{part, tabulate, concat, zeros, big_endian, big_endian_bytes, index_of}
use Rattle.spec.specs.Aes.{state_of, bytes_of, cipher, key_expansion}
use Rattle.spec.specs.Tree.{covered, expand_tree}
use Rattle.spec.specs.Shapes.{level, ordinary, node_bytes, key_words, depth_of, entries_of, first_bit, first_entry, leaves, shape_ok, hidden_index}
use Rattle.spec.specs.Primitives.{Primitives, faest, prg}
use Rattle.spec.specs.Leaves.{node_at}

-- the shapes: those of version 2 with w 0, T 1 and ordinary leaves. They are not resolved: four zeros are none
unfoldable pub shape1_ok : Shape → Bool
shape1_ok s = shape_ok s && eqb s.w 0 && eqb s.t 1 && ordinary s

-- ---- the generator: AES in counter mode, the whole IV one number, highest byte first (NIST SP 800-38A, appendix B.1, the standard incrementing function, m 128)

unfoldable pub add_to_iv : List ℕ → ℕ → List ℕ
add_to_iv iv n = big_endian_bytes 16 ((big_endian iv + n) % 2 ^ 128)

unfoldable pub generator1_block : ℕ → List ℕ → List ℕ → ℕ → List ℕ
generator1_block nk key iv n = bytes_of (cipher (nk + 6) (key_expansion nk key) (state_of (add_to_iv iv n)))

unfoldable pub generator1_byte : ℕ → List ℕ → List ℕ → ℕ → ℕ
generator1_byte nk key iv p = get_or (generator1_block nk key iv (p / 16)) (p % 16) 0

-- version 2's hashes, and a generator that takes no notice of a tweak; the leaf hash is not used
unfoldable pub faest1 : Primitives
faest1 =
    record {
      prg_byte = λ s key iv tweak p. generator1_byte (key_words s) key iv p;
      h0 = faest.h0;
      h1 = faest.h1;
      hash_byte = faest.hash_byte;
    }

-- n bytes of the generator, everywhere with the same IV
unfoldable pub prg1 : Primitives → Shape → List ℕ → List ℕ → ℕ → List ℕ
prg1 P s key iv n = prg P s key iv 0 n

-- ---- the trees: that of vector i has entries_of s i leaves, numbered as in Tree.antt; all of them stand in vector order

-- the roots of the vectors are parts of one output
unfoldable pub vector_root : Primitives → Shape → List ℕ → List ℕ → ℕ → List ℕ
vector_root P s root iv i = part (prg1 P s root iv (node_bytes s * s.tau)) (node_bytes s * i) (node_bytes s)

unfoldable pub children1 : Primitives → Shape → List ℕ → ℕ → List ℕ → List ℕ
children1 P s iv a x = prg1 P s x iv (2 * node_bytes s)

unfoldable pub vector_tree : Primitives → Shape → List ℕ → List ℕ → ℕ → List ℕ
vector_tree P s root iv i = expand_tree (node_bytes s) (vector_root P s root iv i) (children1 P s iv) (entries_of s i - 1)

unfoldable pub signer_trees : Primitives → Shape → List ℕ → List ℕ → List ℕ
signer_trees P s root iv = concat s.tau (vector_tree P s root iv)

-- how many nodes the trees before that of vector i have
unfoldable pub first_node : Shape → ℕ → ℕ
first_node s i = 2 * first_entry s i - i

-- the leaf of entry j in the tree of vector i, and its bytes among all trees
unfoldable pub leaf_in : Shape → ℕ → ℕ → ℕ
leaf_in s i j = entries_of s i - 1 + j

unfoldable pub leaf_key1 : Shape → List ℕ → ℕ → ℕ → List ℕ
leaf_key1 s trees i j = node_at s trees (first_node s i + leaf_in s i j)

-- ---- a leaf: H0 of its key and the IV gives its seed and then its commitment, which has two nodes' length

unfoldable pub leaf_commitment_bytes1 : Shape → ℕ
leaf_commitment_bytes1 s = 2 * node_bytes s

unfoldable pub hashed_leaf : Primitives → Shape → List ℕ → List ℕ → List ℕ
hashed_leaf P s iv key = P.h0 s (key ++ iv) (node_bytes s + leaf_commitment_bytes1 s)

unfoldable pub leaf_seed1 : Primitives → Shape → List ℕ → List ℕ → List ℕ
leaf_seed1 P s iv key = take (node_bytes s) (hashed_leaf P s iv key)

unfoldable pub leaf_commitment1 : Primitives → Shape → List ℕ → List ℕ → List ℕ
leaf_commitment1 P s iv key = drop (node_bytes s) (hashed_leaf P s iv key)

-- of entry j of vector i
unfoldable pub signer_leaf_commitment1 : Primitives → Shape → List ℕ → List ℕ → ℕ → ℕ → List ℕ
signer_leaf_commitment1 P s iv trees i j = leaf_commitment1 P s iv (leaf_key1 s trees i j)

-- byte p of the row of entry e of vector i
unfoldable pub row1_byte : Primitives → Shape → List ℕ → List ℕ → ℕ → ℕ → ℕ → ℕ
row1_byte P s iv trees i e p = P.prg_byte s (leaf_seed1 P s iv (leaf_key1 s trees i e)) iv 0 p

-- ---- the opening: each vector's decommitment, in vector order

-- the sibling of the node at level l on the way from the root, level 0, to leaf j of a tree of depth d
unfoldable pub sibling_at : ℕ → ℕ → ℕ → ℕ
sibling_at d j l = 2 ^ l - 1 + bit_xor (j / 2 ^ (d - l)) 1

-- those of the levels 1 to d
unfoldable pub siblings : Shape → List ℕ → ℕ → List ℕ
siblings s ch i = tabulate (depth_of s i) (λ l. sibling_at (depth_of s i) (hidden_index s ch i) (l + 1))

unfoldable pub leaf_commitment_at1 : Shape → List ℕ → ℕ → ℕ → List ℕ
leaf_commitment_at1 s lcs i j = part lcs (leaf_commitment_bytes1 s * (first_entry s i + j)) (leaf_commitment_bytes1 s)

-- the siblings from the root's child down, then the hidden leaf commitment
unfoldable pub decommitment : Shape → List ℕ → List ℕ → List ℕ → ℕ → List ℕ
decommitment s ch trees lcs i =
    concat (depth_of s i) (λ l. node_at s trees (first_node s i + get_or (siblings s ch i) l 0)) ++ leaf_commitment_at1 s lcs i (hidden_index s ch i)

unfoldable pub opening1_of : Shape → List ℕ → List ℕ → List ℕ → List ℕ
opening1_of s ch trees lcs = concat s.tau (decommitment s ch trees lcs)

-- where the decommitment of vector i begins in an opening: each has a node for a level and two for the leaf commitment; sibling m of it, and the leaf commitment
unfoldable pub decommitment_from : Shape → ℕ → ℕ
decommitment_from s i = node_bytes s * (first_bit s i + 2 * i)

unfoldable pub slot1 : Shape → List ℕ → ℕ → ℕ → List ℕ
slot1 s opening i m = part opening (decommitment_from s i + node_bytes s * m) (node_bytes s)

unfoldable pub hidden_leaf_commitment1 : Shape → List ℕ → ℕ → List ℕ
hidden_leaf_commitment1 s opening i = part opening (decommitment_from s i + node_bytes s * depth_of s i) (leaf_commitment_bytes1 s)

-- ---- the trees that an opening gives

-- node a of the tree of vector i is covered: it lies on the way to the hidden leaf
unfoldable pub on_path : Shape → List ℕ → ℕ → ℕ → Bool
on_path s ch i a = covered (leaf_in s i (hidden_index s ch i) ∷ []) a

-- a child c of a covered node: zeros if it is covered too, else its bytes in the opening
unfoldable pub given_node1 : Shape → List ℕ → List ℕ → ℕ → ℕ → List ℕ
given_node1 s ch opening i c = cond (on_path s ch i c) (zeros (node_bytes s)) (slot1 s opening i (index_of c (siblings s ch i)))

unfoldable pub reconstructed_children1 : Primitives → Shape → List ℕ → List ℕ → List ℕ → ℕ → ℕ → List ℕ → List ℕ
reconstructed_children1 P s iv ch opening i a x =
    cond (on_path s ch i a) (given_node1 s ch opening i (2 * a + 1) ++ given_node1 s ch opening i (2 * a + 2)) (children1 P s iv a x)

unfoldable pub reconstructed_vector_tree : Primitives → Shape → List ℕ → List ℕ → List ℕ → ℕ → List ℕ
reconstructed_vector_tree P s iv ch opening i = expand_tree (node_bytes s) (zeros (node_bytes s)) (reconstructed_children1 P s iv ch opening i) (entries_of s i - 1)

unfoldable pub reconstructed_trees : Primitives → Shape → List ℕ → List ℕ → List ℕ → List ℕ
reconstructed_trees P s iv ch opening = concat s.tau (reconstructed_vector_tree P s iv ch opening)

unfoldable pub verifier_leaf_commitment1 : Primitives → Shape → List ℕ → List ℕ → List ℕ → List ℕ → ℕ → ℕ → List ℕ
verifier_leaf_commitment1 P s iv ch opening trees i j =
    cond (eqb j (hidden_index s ch i)) (hidden_leaf_commitment1 s opening i) (leaf_commitment1 P s iv (leaf_key1 s trees i j))

-- ---- lengths of buffers in bytes; those of the other buffers are version 2's

unfoldable pub trees1_bytes : Shape → ℕ
trees1_bytes s = node_bytes s * (2 * leaves s - s.tau)

unfoldable pub leaf_commitments1_bytes : Shape → ℕ
leaf_commitments1_bytes s = leaf_commitment_bytes1 s * leaves s

unfoldable pub opening1_bytes : Shape → ℕ
opening1_bytes s = node_bytes s * (level s + 2 * s.tau)
