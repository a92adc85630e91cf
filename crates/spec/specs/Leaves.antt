-- Document 000, sections 5.1 and 5.2 (figures 5.3 to 5.5): the nodes of the tree, the seed and the commitment of a leaf, and the commitment to all
-- leaves. Both halves use these; `lc i j` is the leaf commitment of entry j of vector i.
use Rattle.std.specs.Prelude.{ℕ, ◌+◌, ◌-◌, ◌*◌, cond, List, take, drop}
use Rattle.spec.specs.declared.Shape.{Shape}
use Rattle.spec.specs.Bytes.{part, tabulate, concat}
use Rattle.spec.specs.Shapes.{ordinary, node_bytes, leaf_commitment_bytes, entries_of, leaves, leaf_of}
use Rattle.spec.specs.Primitives.{Primitives, prg}

-- node a of a tree's bytes, and the leaf of entry j of vector i
unfoldable pub node_at : Shape → List ℕ → ℕ → List ℕ
node_at s tree a = part tree (node_bytes s * a) (node_bytes s)

unfoldable pub leaf_key : Shape → List ℕ → ℕ → ℕ → List ℕ
leaf_key s tree i j = node_at s tree (leaf_of s i j)

-- figure 5.4, Commit, line 7: the two children of node a, whose bytes are x
unfoldable pub children : Primitives → Shape → List ℕ → ℕ → List ℕ → List ℕ
children P s iv a x = prg P s x iv a (2 * node_bytes s)

-- figure 5.4, Commit, line 2: uhash_i, the hash key of vector i. One call of H0 gives all of them. Ordinary leaves alone have one.
unfoldable pub hash_key : Primitives → Shape → List ℕ → ℕ → List ℕ
hash_key P s iv i = part (P.h0 s iv (leaf_commitment_bytes s * s.tau)) (leaf_commitment_bytes s * i) (leaf_commitment_bytes s)

-- FAEST.LeafCommit, section 5.1, for an ordinary leaf: the leaf `key` of vector i is stretched; the first bytes are the seed, and the leaf hash of all is the commitment
unfoldable pub stretched : Primitives → Shape → List ℕ → ℕ → List ℕ → List ℕ
stretched P s iv i key = prg P s key iv (i + leaves s - 1) (node_bytes s + leaf_commitment_bytes s)

-- FAEST-EM.LeafCommit: the leaf is its own seed, and what the generator makes of it is the commitment
unfoldable pub leaf_seed : Primitives → Shape → List ℕ → ℕ → List ℕ → List ℕ
leaf_seed P s iv i key = cond (ordinary s) (take (node_bytes s) (stretched P s iv i key)) key

unfoldable pub leaf_commitment : Primitives → Shape → List ℕ → ℕ → List ℕ → List ℕ
leaf_commitment P s iv i key =
    cond (ordinary s)
    (tabulate (leaf_commitment_bytes s) (P.hash_byte s (hash_key P s iv i) (leaf_seed P s iv i key) (drop (node_bytes s) (stretched P s iv i key))))
    (prg P s key iv (i + leaves s - 1) (leaf_commitment_bytes s))

-- the leaf commitments of vector i in entry order, and of all vectors, one after another
unfoldable pub vector_commitments : Shape → (ℕ → ℕ → List ℕ) → ℕ → List ℕ
vector_commitments s lc i = concat (entries_of s i) (lc i)

unfoldable pub leaf_commitments : Shape → (ℕ → ℕ → List ℕ) → List ℕ
leaf_commitments s lc = concat s.tau (vector_commitments s lc)

-- figure 5.4, Commit, lines 12 and 13: h_i, and the commitment
unfoldable pub vector_hash : Primitives → Shape → (ℕ → ℕ → List ℕ) → ℕ → List ℕ
vector_hash P s lc i = P.h1 s (vector_commitments s lc i)

unfoldable pub commitment_of : Primitives → Shape → (ℕ → ℕ → List ℕ) → List ℕ
commitment_of P s lc = P.h1 s (concat s.tau (vector_hash P s lc))
