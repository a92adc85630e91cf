-- Document 02's E4, computed: numbers in four bytes, what becomes of the count slice with each answer, and in which turn its length is compared.
use Prim.Native.Nat.{ℕ}
use mathlib.Core.Path.{◌≡◌, refl}
use mathlib.Core.List.{List, [], ◌∷◌}
use lib.ListN.{replicate}
use Rattle.spec.specs.declared.Shape.{Shape}
use Rattle.spec.specs.Bytes.{tabulate, zeros, all_zero, digits}
use Rattle.spec.specs.Challenge.{bit_at, bits_at, clear_at}
use Rattle.spec.specs.Shapes.{level, node_bytes, challenge_bytes, leaf_commitment_bytes, hash_bytes, deeper, depth_of, first_bit, leaves, shape_ok, grinding_ok, tree_bytes, leaf_commitments_bytes, matrix_bytes, corrections_bytes}
use Rattle.spec.specs.Calls.{row_ok, stretch_ok, decode_number, commit_lengths, commit_stretch_number}
use Rattle.spec.specs.HostCalls.{word_bytes, count_slice, with_count, host_list_lengths}
use Rattle.spec.proofs.Refusals.{shape, small, ch, signer_buffers, stretch}

abbrev pub Words : Type 0
Words =
    (word_bytes [] ≡ [])
    × (word_bytes (67305985 ∷ 40959 ∷ []) ≡ 1 ∷ 2 ∷ 3 ∷ 4 ∷ 255 ∷ 159 ∷ 0 ∷ 0 ∷ [])

pub words : Words
unfolding tabulate digits word_bytes
words = (refl, refl)

-- the slice with each number from 0 to 8, where 259 nodes are planned
abbrev kept : List ℕ
kept = replicate 4 165

abbrev given : List ℕ
given = 3 ∷ 1 ∷ 0 ∷ 0 ∷ []

abbrev pub Slices : Type 0
Slices = tabulate 9 (λ n. count_slice n 259 kept) ≡ given ∷ kept ∷ kept ∷ kept ∷ kept ∷ given ∷ given ∷ kept ∷ kept ∷ []

pub slices : Slices
unfolding tabulate digits count_slice
slices = refl

-- decode with a list of n bytes and a count slice of m bytes
abbrev decoding : Shape → ℕ → ℕ → ℕ → ℕ
decoding s first n m = decode_number s (ch first) (with_count (zeros m) (host_list_lengths s s.tau (ch first) (zeros n)))

-- commit of a stretch of a byte, with rows of n bits and a count slice of m bytes
abbrev committing : ℕ → ℕ → ℕ → ℕ
committing n first m =
    commit_stretch_number small n (stretch first 1) (with_count (zeros m) (commit_lengths small 1 (zeros 16) (zeros 16) (signer_buffers 1)))

abbrev pub Turns : Type 0
Turns =
    (decoding small 0 4 4 ≡ 0)
    × (decoding (shape 1 1 126 1) 2 4 3 ≡ 1)
    × (decoding small 2 4 0 ≡ 3)
    × (decoding small 2 4 3 ≡ 3)
    × (decoding small 2 4 5 ≡ 3)
    × (decoding small 2 1 4 ≡ 3)
    × (decoding small 2 8 4 ≡ 3)
    × (decoding small 2 4 4 ≡ 4)
    × (committing 8 0 4 ≡ 0)
    × (committing 12 1 3 ≡ 2)
    × (committing 8 1 3 ≡ 8)
    × (committing 8 0 3 ≡ 3)

pub turns : Turns
unfolding tabulate zeros all_zero bit_at bits_at clear_at level node_bytes challenge_bytes leaf_commitment_bytes hash_bytes deeper depth_of first_bit leaves shape_ok grinding_ok tree_bytes leaf_commitments_bytes matrix_bytes corrections_bytes row_ok stretch_ok decode_number commit_stretch_number
turns = (refl, refl, refl, refl, refl, refl, refl, refl, refl, refl, refl, refl)
