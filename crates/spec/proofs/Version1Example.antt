-- Document 02, E12: the calls of version 1 over the stand-in primitives, with trees of depths 2, 2 and 1 and rows of two bytes: every byte of every buffer. A shape of version 1 has w 0 and so at least 11 vectors; here w is 123, for an
-- example that can be read. And the counter: a carry, and the wrap of all 128 bits. The lists are those that a model of its own derives. By computing, each buffer from the trees as they are listed.
use Prim.Native.Nat.{ℕ, ◌*◌}
use mathlib.Core.Path.{◌≡◌, refl, ap, ◌∙◌}
use mathlib.Core.List.{List, [], ◌∷◌, ◌++◌}
use lib.ListN.{replicate}
use Rattle.spec.specs.declared.Shape.{Shape}
use Rattle.spec.specs.Bytes.{tabulate, concat, zeros, xor_below, number, digits, big_endian, big_endian_bytes, index_of}
use Rattle.spec.specs.Tree.{parent, is_ancestor_within, is_ancestor, some, covered, expand_tree}
use Rattle.spec.specs.Challenge.{bit_at, bits_at, index_at}
use Rattle.spec.specs.Shapes.{level, node_bytes, deeper, depth_of, entries_of, first_bit, first_entry, hidden_index}
use Rattle.spec.specs.Primitives.{prg}
use Rattle.spec.specs.Leaves.{node_at, vector_commitments, leaf_commitments, vector_hash, commitment_of}
use Rattle.spec.specs.Rows.{u_byte, column_byte, matrix_of}
use Rattle.spec.specs.Signer.{signer_u, signer_column, correction, corrections}
use Rattle.spec.specs.Verifier.{correction_byte, verifier_column}
use Rattle.spec.specs.Version1.{add_to_iv, prg1, vector_root, children1, vector_tree, signer_trees, first_node, leaf_in, leaf_key1, leaf_commitment_bytes1, hashed_leaf, leaf_seed1, leaf_commitment1, signer_leaf_commitment1, row1_byte, sibling_at, siblings, leaf_commitment_at1, decommitment, opening1_of, decommitment_from, slot1, hidden_leaf_commitment1, on_path, given_node1, reconstructed_children1, reconstructed_vector_tree, reconstructed_trees, verifier_leaf_commitment1}
use Rattle.spec.specs.Version1Calls.{committed1, reconstructed1}
use Rattle.spec.proofs.StandIns.{stand_in}

-- ---- the counter

-- SP 800-38A, F.5: block 1 of an IV that ends with fe ff
pub counter-carries : add_to_iv (240 ∷ 241 ∷ 242 ∷ 243 ∷ 244 ∷ 245 ∷ 246 ∷ 247 ∷ 248 ∷ 249 ∷ 250 ∷ 251 ∷ 252 ∷ 253 ∷ 254 ∷ 255 ∷ []) 1 ≡ 240 ∷ 241 ∷ 242 ∷ 243 ∷ 244 ∷ 245 ∷ 246 ∷ 247 ∷ 248 ∷ 249 ∷ 250 ∷ 251 ∷ 252 ∷ 253 ∷ 255 ∷ 0 ∷ []
unfolding tabulate number digits big_endian big_endian_bytes add_to_iv
counter-carries = refl

-- past 32 bits, and past 64
pub counter-carries-far : add_to_iv (1 ∷ 2 ∷ 3 ∷ 4 ∷ 5 ∷ 6 ∷ 255 ∷ 255 ∷ 255 ∷ 255 ∷ 255 ∷ 255 ∷ 255 ∷ 255 ∷ 255 ∷ 254 ∷ []) 3 ≡ 1 ∷ 2 ∷ 3 ∷ 4 ∷ 5 ∷ 7 ∷ 0 ∷ 0 ∷ 0 ∷ 0 ∷ 0 ∷ 0 ∷ 0 ∷ 0 ∷ 0 ∷ 1 ∷ []
unfolding tabulate number digits big_endian big_endian_bytes add_to_iv
counter-carries-far = refl

pub counter-wraps : add_to_iv (replicate 16 255) 1 ≡ replicate 16 0
unfolding tabulate number digits big_endian big_endian_bytes add_to_iv
counter-wraps = refl

-- ---- the buffers

abbrev pub shape : Shape
shape = record { tau = 3; k = 1; w = 123; t = 1; level = 128; kind = 0 }

abbrev pub root : List ℕ
root = 1 ∷ 8 ∷ 15 ∷ 22 ∷ 29 ∷ 36 ∷ 43 ∷ 50 ∷ 57 ∷ 64 ∷ 71 ∷ 78 ∷ 85 ∷ 92 ∷ 99 ∷ 106 ∷ []

abbrev pub iv : List ℕ
iv = 3 ∷ 14 ∷ 25 ∷ 36 ∷ 47 ∷ 58 ∷ 69 ∷ 80 ∷ 91 ∷ 102 ∷ 113 ∷ 124 ∷ 135 ∷ 146 ∷ 157 ∷ 168 ∷ []

-- it hides entries 2, 1 and 1
abbrev pub challenge : List ℕ
challenge = 22 ∷ 0 ∷ 0 ∷ 0 ∷ 0 ∷ 0 ∷ 0 ∷ 0 ∷ 0 ∷ 0 ∷ 0 ∷ 0 ∷ 0 ∷ 0 ∷ 0 ∷ 0 ∷ []

abbrev pub signer-commitment : List ℕ
signer-commitment = 19 ∷ 182 ∷ 89 ∷ 252 ∷ 159 ∷ 66 ∷ 229 ∷ 136 ∷ 43 ∷ 206 ∷ 113 ∷ 20 ∷ 183 ∷ 90 ∷ 253 ∷ 160 ∷ 67 ∷ 230 ∷ 137 ∷ 44 ∷ 207 ∷ 114 ∷ 21 ∷ 184 ∷ 91 ∷ 254 ∷ 161 ∷ 68 ∷ 231 ∷ 138 ∷ 45 ∷ 208 ∷ []

abbrev pub signer-trees : List ℕ
signer-trees = 192 ∷ 46 ∷ 94 ∷ 80 ∷ 4 ∷ 122 ∷ 178 ∷ 172 ∷ 104 ∷ 230 ∷ 38 ∷ 40 ∷ 236 ∷ 114 ∷ 186 ∷ 196 ∷ 48 ∷ 195 ∷ 98 ∷ 13 ∷ 196 ∷ 135 ∷ 86 ∷ 49 ∷ 24 ∷ 11 ∷ 10 ∷ 21 ∷ 44 ∷ 79 ∷ 126 ∷ 185 ∷ 0 ∷ 83 ∷ 178 ∷ 29 ∷ 148 ∷ 23 ∷ 166 ∷ 65 ∷ 232 ∷ 155 ∷ 90 ∷ 37 ∷ 252 ∷ 223 ∷ 206 ∷ 201 ∷ 40 ∷ 155 ∷ 218 ∷ 229 ∷ 188 ∷ 95 ∷ 206 ∷ 9 ∷ 16 ∷ 227 ∷ 130 ∷ 237 ∷ 36 ∷ 39 ∷ 246 ∷ 145 ∷ 248 ∷ 43 ∷ 42 ∷ 245 ∷ 140 ∷ 239 ∷ 30 ∷ 25 ∷ 224 ∷ 115 ∷ 210 ∷ 253 ∷ 244 ∷ 183 ∷ 70 ∷ 161 ∷ 168 ∷ 67 ∷ 250 ∷ 205 ∷ 188 ∷ 199 ∷ 238 ∷ 49 ∷ 144 ∷ 11 ∷ 162 ∷ 85 ∷ 36 ∷ 15 ∷ 22 ∷ 57 ∷ 120 ∷ 211 ∷ 74 ∷ 221 ∷ 140 ∷ 87 ∷ 62 ∷ 65 ∷ 96 ∷ 155 ∷ 242 ∷ 101 ∷ 244 ∷ 159 ∷ 102 ∷ 73 ∷ 144 ∷ 30 ∷ 110 ∷ 128 ∷ 84 ∷ 234 ∷ 66 ∷ 92 ∷ 56 ∷ 214 ∷ 54 ∷ 88 ∷ 60 ∷ 226 ∷ 74 ∷ 116 ∷ 176 ∷ 52 ∷ 166 ∷ 6 ∷ 84 ∷ 144 ∷ 186 ∷ 210 ∷ 216 ∷ 204 ∷ 174 ∷ 126 ∷ 60 ∷ 232 ∷ 130 ∷ 10 ∷ 128 ∷ 228 ∷ 54 ∷ 118 ∷ 164 ∷ 192 ∷ 202 ∷ 194 ∷ 168 ∷ 124 ∷ 62 ∷ 238 ∷ 140 ∷ 24 ∷ 146 ∷ 250 ∷ 192 ∷ 81 ∷ 234 ∷ 139 ∷ 52 ∷ 229 ∷ 158 ∷ 95 ∷ 40 ∷ 249 ∷ 210 ∷ 179 ∷ 156 ∷ 141 ∷ 134 ∷ 135 ∷ 144 ∷ 161 ∷ 186 ∷ 219 ∷ 4 ∷ 53 ∷ 110 ∷ 175 ∷ 248 ∷ 73 ∷ 162 ∷ 3 ∷ 108 ∷ 221 ∷ 86 ∷ 215 ∷ 64 ∷ 218 ∷ 142 ∷ 92 ∷ 68 ∷ 70 ∷ 98 ∷ 152 ∷ 232 ∷ 82 ∷ 214 ∷ 116 ∷ 44 ∷ 254 ∷ 234 ∷ 240 ∷ 16 ∷ 74 ∷ 158 ∷ 12 ∷ 148 ∷ 54 ∷ 242 ∷ 200 ∷ 184 ∷ 194 ∷ 230 ∷ 36 ∷ 124 ∷ 238 ∷ 122 ∷ 32 ∷ 96 ∷ 14 ∷ 126 ∷ 176 ∷ 164 ∷ 90 ∷ 210 ∷ 12 ∷ 8 ∷ 198 ∷ 70 ∷ 136 ∷ 140 ∷ 82 ∷ 218 ∷ 36 ∷ 48 ∷ 181 ∷ 42 ∷ 143 ∷ 228 ∷ 41 ∷ 94 ∷ 131 ∷ 152 ∷ 157 ∷ 146 ∷ 119 ∷ 76 ∷ 17 ∷ 198 ∷ 107 ∷ 0 ∷ 133 ∷ 250 ∷ 95 ∷ 180 ∷ 249 ∷ 46 ∷ 83 ∷ 104 ∷ 109 ∷ 98 ∷ 71 ∷ 28 ∷ 225 ∷ 150 ∷ 59 ∷ []

abbrev pub signer-leaf-commitments : List ℕ
signer-leaf-commitments = 152 ∷ 155 ∷ 158 ∷ 161 ∷ 164 ∷ 167 ∷ 170 ∷ 173 ∷ 176 ∷ 179 ∷ 182 ∷ 185 ∷ 188 ∷ 191 ∷ 194 ∷ 197 ∷ 200 ∷ 203 ∷ 206 ∷ 209 ∷ 212 ∷ 215 ∷ 218 ∷ 221 ∷ 224 ∷ 227 ∷ 230 ∷ 233 ∷ 236 ∷ 239 ∷ 242 ∷ 245 ∷ 24 ∷ 27 ∷ 30 ∷ 33 ∷ 36 ∷ 39 ∷ 42 ∷ 45 ∷ 48 ∷ 51 ∷ 54 ∷ 57 ∷ 60 ∷ 63 ∷ 66 ∷ 69 ∷ 72 ∷ 75 ∷ 78 ∷ 81 ∷ 84 ∷ 87 ∷ 90 ∷ 93 ∷ 96 ∷ 99 ∷ 102 ∷ 105 ∷ 108 ∷ 111 ∷ 114 ∷ 117 ∷ 88 ∷ 91 ∷ 94 ∷ 97 ∷ 100 ∷ 103 ∷ 106 ∷ 109 ∷ 112 ∷ 115 ∷ 118 ∷ 121 ∷ 124 ∷ 127 ∷ 130 ∷ 133 ∷ 136 ∷ 139 ∷ 142 ∷ 145 ∷ 148 ∷ 151 ∷ 154 ∷ 157 ∷ 160 ∷ 163 ∷ 166 ∷ 169 ∷ 172 ∷ 175 ∷ 178 ∷ 181 ∷ 216 ∷ 219 ∷ 222 ∷ 225 ∷ 228 ∷ 231 ∷ 234 ∷ 237 ∷ 240 ∷ 243 ∷ 246 ∷ 249 ∷ 252 ∷ 255 ∷ 2 ∷ 5 ∷ 8 ∷ 11 ∷ 14 ∷ 17 ∷ 20 ∷ 23 ∷ 26 ∷ 29 ∷ 32 ∷ 35 ∷ 38 ∷ 41 ∷ 44 ∷ 47 ∷ 50 ∷ 53 ∷ 40 ∷ 43 ∷ 46 ∷ 49 ∷ 52 ∷ 55 ∷ 58 ∷ 61 ∷ 64 ∷ 67 ∷ 70 ∷ 73 ∷ 76 ∷ 79 ∷ 82 ∷ 85 ∷ 88 ∷ 91 ∷ 94 ∷ 97 ∷ 100 ∷ 103 ∷ 106 ∷ 109 ∷ 112 ∷ 115 ∷ 118 ∷ 121 ∷ 124 ∷ 127 ∷ 130 ∷ 133 ∷ 168 ∷ 171 ∷ 174 ∷ 177 ∷ 180 ∷ 183 ∷ 186 ∷ 189 ∷ 192 ∷ 195 ∷ 198 ∷ 201 ∷ 204 ∷ 207 ∷ 210 ∷ 213 ∷ 216 ∷ 219 ∷ 222 ∷ 225 ∷ 228 ∷ 231 ∷ 234 ∷ 237 ∷ 240 ∷ 243 ∷ 246 ∷ 249 ∷ 252 ∷ 255 ∷ 2 ∷ 5 ∷ 0 ∷ 3 ∷ 6 ∷ 9 ∷ 12 ∷ 15 ∷ 18 ∷ 21 ∷ 24 ∷ 27 ∷ 30 ∷ 33 ∷ 36 ∷ 39 ∷ 42 ∷ 45 ∷ 48 ∷ 51 ∷ 54 ∷ 57 ∷ 60 ∷ 63 ∷ 66 ∷ 69 ∷ 72 ∷ 75 ∷ 78 ∷ 81 ∷ 84 ∷ 87 ∷ 90 ∷ 93 ∷ 128 ∷ 131 ∷ 134 ∷ 137 ∷ 140 ∷ 143 ∷ 146 ∷ 149 ∷ 152 ∷ 155 ∷ 158 ∷ 161 ∷ 164 ∷ 167 ∷ 170 ∷ 173 ∷ 176 ∷ 179 ∷ 182 ∷ 185 ∷ 188 ∷ 191 ∷ 194 ∷ 197 ∷ 200 ∷ 203 ∷ 206 ∷ 209 ∷ 212 ∷ 215 ∷ 218 ∷ 221 ∷ 136 ∷ 139 ∷ 142 ∷ 145 ∷ 148 ∷ 151 ∷ 154 ∷ 157 ∷ 160 ∷ 163 ∷ 166 ∷ 169 ∷ 172 ∷ 175 ∷ 178 ∷ 181 ∷ 184 ∷ 187 ∷ 190 ∷ 193 ∷ 196 ∷ 199 ∷ 202 ∷ 205 ∷ 208 ∷ 211 ∷ 214 ∷ 217 ∷ 220 ∷ 223 ∷ 226 ∷ 229 ∷ 8 ∷ 11 ∷ 14 ∷ 17 ∷ 20 ∷ 23 ∷ 26 ∷ 29 ∷ 32 ∷ 35 ∷ 38 ∷ 41 ∷ 44 ∷ 47 ∷ 50 ∷ 53 ∷ 56 ∷ 59 ∷ 62 ∷ 65 ∷ 68 ∷ 71 ∷ 74 ∷ 77 ∷ 80 ∷ 83 ∷ 86 ∷ 89 ∷ 92 ∷ 95 ∷ 98 ∷ 101 ∷ []

abbrev pub signer-u : List ℕ
signer-u = 0 ∷ 44 ∷ []

abbrev pub signer-v : List ℕ
signer-v = 0 ∷ 66 ∷ 0 ∷ 76 ∷ 192 ∷ 171 ∷ 0 ∷ 196 ∷ 184 ∷ 100 ∷ []

abbrev pub signer-corrections : List ℕ
signer-corrections = 0 ∷ 170 ∷ 0 ∷ 119 ∷ []

abbrev pub opening : List ℕ
opening = 48 ∷ 195 ∷ 98 ∷ 13 ∷ 196 ∷ 135 ∷ 86 ∷ 49 ∷ 24 ∷ 11 ∷ 10 ∷ 21 ∷ 44 ∷ 79 ∷ 126 ∷ 185 ∷ 120 ∷ 211 ∷ 74 ∷ 221 ∷ 140 ∷ 87 ∷ 62 ∷ 65 ∷ 96 ∷ 155 ∷ 242 ∷ 101 ∷ 244 ∷ 159 ∷ 102 ∷ 73 ∷ 88 ∷ 91 ∷ 94 ∷ 97 ∷ 100 ∷ 103 ∷ 106 ∷ 109 ∷ 112 ∷ 115 ∷ 118 ∷ 121 ∷ 124 ∷ 127 ∷ 130 ∷ 133 ∷ 136 ∷ 139 ∷ 142 ∷ 145 ∷ 148 ∷ 151 ∷ 154 ∷ 157 ∷ 160 ∷ 163 ∷ 166 ∷ 169 ∷ 172 ∷ 175 ∷ 178 ∷ 181 ∷ 128 ∷ 228 ∷ 54 ∷ 118 ∷ 164 ∷ 192 ∷ 202 ∷ 194 ∷ 168 ∷ 124 ∷ 62 ∷ 238 ∷ 140 ∷ 24 ∷ 146 ∷ 250 ∷ 192 ∷ 81 ∷ 234 ∷ 139 ∷ 52 ∷ 229 ∷ 158 ∷ 95 ∷ 40 ∷ 249 ∷ 210 ∷ 179 ∷ 156 ∷ 141 ∷ 134 ∷ 135 ∷ 168 ∷ 171 ∷ 174 ∷ 177 ∷ 180 ∷ 183 ∷ 186 ∷ 189 ∷ 192 ∷ 195 ∷ 198 ∷ 201 ∷ 204 ∷ 207 ∷ 210 ∷ 213 ∷ 216 ∷ 219 ∷ 222 ∷ 225 ∷ 228 ∷ 231 ∷ 234 ∷ 237 ∷ 240 ∷ 243 ∷ 246 ∷ 249 ∷ 252 ∷ 255 ∷ 2 ∷ 5 ∷ 48 ∷ 181 ∷ 42 ∷ 143 ∷ 228 ∷ 41 ∷ 94 ∷ 131 ∷ 152 ∷ 157 ∷ 146 ∷ 119 ∷ 76 ∷ 17 ∷ 198 ∷ 107 ∷ 8 ∷ 11 ∷ 14 ∷ 17 ∷ 20 ∷ 23 ∷ 26 ∷ 29 ∷ 32 ∷ 35 ∷ 38 ∷ 41 ∷ 44 ∷ 47 ∷ 50 ∷ 53 ∷ 56 ∷ 59 ∷ 62 ∷ 65 ∷ 68 ∷ 71 ∷ 74 ∷ 77 ∷ 80 ∷ 83 ∷ 86 ∷ 89 ∷ 92 ∷ 95 ∷ 98 ∷ 101 ∷ []

abbrev pub verifier-trees : List ℕ
verifier-trees = 0 ∷ 0 ∷ 0 ∷ 0 ∷ 0 ∷ 0 ∷ 0 ∷ 0 ∷ 0 ∷ 0 ∷ 0 ∷ 0 ∷ 0 ∷ 0 ∷ 0 ∷ 0 ∷ 48 ∷ 195 ∷ 98 ∷ 13 ∷ 196 ∷ 135 ∷ 86 ∷ 49 ∷ 24 ∷ 11 ∷ 10 ∷ 21 ∷ 44 ∷ 79 ∷ 126 ∷ 185 ∷ 0 ∷ 0 ∷ 0 ∷ 0 ∷ 0 ∷ 0 ∷ 0 ∷ 0 ∷ 0 ∷ 0 ∷ 0 ∷ 0 ∷ 0 ∷ 0 ∷ 0 ∷ 0 ∷ 40 ∷ 155 ∷ 218 ∷ 229 ∷ 188 ∷ 95 ∷ 206 ∷ 9 ∷ 16 ∷ 227 ∷ 130 ∷ 237 ∷ 36 ∷ 39 ∷ 246 ∷ 145 ∷ 248 ∷ 43 ∷ 42 ∷ 245 ∷ 140 ∷ 239 ∷ 30 ∷ 25 ∷ 224 ∷ 115 ∷ 210 ∷ 253 ∷ 244 ∷ 183 ∷ 70 ∷ 161 ∷ 0 ∷ 0 ∷ 0 ∷ 0 ∷ 0 ∷ 0 ∷ 0 ∷ 0 ∷ 0 ∷ 0 ∷ 0 ∷ 0 ∷ 0 ∷ 0 ∷ 0 ∷ 0 ∷ 120 ∷ 211 ∷ 74 ∷ 221 ∷ 140 ∷ 87 ∷ 62 ∷ 65 ∷ 96 ∷ 155 ∷ 242 ∷ 101 ∷ 244 ∷ 159 ∷ 102 ∷ 73 ∷ 0 ∷ 0 ∷ 0 ∷ 0 ∷ 0 ∷ 0 ∷ 0 ∷ 0 ∷ 0 ∷ 0 ∷ 0 ∷ 0 ∷ 0 ∷ 0 ∷ 0 ∷ 0 ∷ 0 ∷ 0 ∷ 0 ∷ 0 ∷ 0 ∷ 0 ∷ 0 ∷ 0 ∷ 0 ∷ 0 ∷ 0 ∷ 0 ∷ 0 ∷ 0 ∷ 0 ∷ 0 ∷ 128 ∷ 228 ∷ 54 ∷ 118 ∷ 164 ∷ 192 ∷ 202 ∷ 194 ∷ 168 ∷ 124 ∷ 62 ∷ 238 ∷ 140 ∷ 24 ∷ 146 ∷ 250 ∷ 192 ∷ 81 ∷ 234 ∷ 139 ∷ 52 ∷ 229 ∷ 158 ∷ 95 ∷ 40 ∷ 249 ∷ 210 ∷ 179 ∷ 156 ∷ 141 ∷ 134 ∷ 135 ∷ 0 ∷ 0 ∷ 0 ∷ 0 ∷ 0 ∷ 0 ∷ 0 ∷ 0 ∷ 0 ∷ 0 ∷ 0 ∷ 0 ∷ 0 ∷ 0 ∷ 0 ∷ 0 ∷ 64 ∷ 218 ∷ 142 ∷ 92 ∷ 68 ∷ 70 ∷ 98 ∷ 152 ∷ 232 ∷ 82 ∷ 214 ∷ 116 ∷ 44 ∷ 254 ∷ 234 ∷ 240 ∷ 16 ∷ 74 ∷ 158 ∷ 12 ∷ 148 ∷ 54 ∷ 242 ∷ 200 ∷ 184 ∷ 194 ∷ 230 ∷ 36 ∷ 124 ∷ 238 ∷ 122 ∷ 32 ∷ 0 ∷ 0 ∷ 0 ∷ 0 ∷ 0 ∷ 0 ∷ 0 ∷ 0 ∷ 0 ∷ 0 ∷ 0 ∷ 0 ∷ 0 ∷ 0 ∷ 0 ∷ 0 ∷ 48 ∷ 181 ∷ 42 ∷ 143 ∷ 228 ∷ 41 ∷ 94 ∷ 131 ∷ 152 ∷ 157 ∷ 146 ∷ 119 ∷ 76 ∷ 17 ∷ 198 ∷ 107 ∷ 0 ∷ 0 ∷ 0 ∷ 0 ∷ 0 ∷ 0 ∷ 0 ∷ 0 ∷ 0 ∷ 0 ∷ 0 ∷ 0 ∷ 0 ∷ 0 ∷ 0 ∷ 0 ∷ []

abbrev pub verifier-q : List ℕ
verifier-q = 0 ∷ 66 ∷ 0 ∷ 96 ∷ 192 ∷ 135 ∷ 0 ∷ 196 ∷ 184 ∷ 72 ∷ []

-- ---- commit

trees-of-root : signer_trees stand_in shape root iv ≡ signer-trees
unfolding tabulate concat expand_tree level node_bytes deeper depth_of entries_of prg prg1 vector_root children1 vector_tree signer_trees
trees-of-root = refl

commitments-of-trees : leaf_commitments shape (signer_leaf_commitment1 stand_in shape iv signer-trees) ≡ signer-leaf-commitments
unfolding tabulate concat level node_bytes deeper depth_of entries_of first_entry node_at vector_commitments leaf_commitments first_node leaf_in leaf_key1 leaf_commitment_bytes1 hashed_leaf leaf_commitment1 signer_leaf_commitment1
commitments-of-trees = refl

hash-of-trees : commitment_of stand_in shape (signer_leaf_commitment1 stand_in shape iv signer-trees) ≡ signer-commitment
unfolding tabulate concat level node_bytes deeper depth_of entries_of first_entry node_at vector_commitments vector_hash commitment_of first_node leaf_in leaf_key1 leaf_commitment_bytes1 hashed_leaf leaf_commitment1 signer_leaf_commitment1
hash-of-trees = refl

u-of-trees : signer_u shape 2 (row1_byte stand_in shape iv signer-trees) ≡ signer-u
unfolding tabulate xor_below level node_bytes deeper depth_of entries_of first_entry node_at u_byte signer_u first_node leaf_in leaf_key1 leaf_commitment_bytes1 hashed_leaf leaf_seed1 row1_byte
u-of-trees = refl

v-of-trees : matrix_of shape 2 (signer_column shape 2 (row1_byte stand_in shape iv signer-trees)) ≡ signer-v ++ zeros (2 * 123)
unfolding tabulate concat zeros xor_below level node_bytes deeper depth_of entries_of first_entry node_at column_byte matrix_of signer_column first_node leaf_in leaf_key1 leaf_commitment_bytes1 hashed_leaf leaf_seed1 row1_byte
v-of-trees = refl

corrections-of-trees : corrections shape 2 (row1_byte stand_in shape iv signer-trees) ≡ signer-corrections
unfolding tabulate concat xor_below level node_bytes deeper depth_of entries_of first_entry node_at u_byte correction corrections first_node leaf_in leaf_key1 leaf_commitment_bytes1 hashed_leaf leaf_seed1 row1_byte
corrections-of-trees = refl

pub commits :
    let x = committed1 stand_in shape 2 root iv in
    (x.commitment ≡ signer-commitment)
    × (x.tree ≡ signer-trees)
    × (x.leaf_commitments ≡ signer-leaf-commitments)
    × (x.u ≡ signer-u)
    × (x.v ≡ signer-v ++ zeros (2 * 123))
    × (x.corrections ≡ signer-corrections)
unfolding committed1
commits = (
  ap (λ (trees : List ℕ). commitment_of stand_in shape (signer_leaf_commitment1 stand_in shape iv trees)) trees-of-root ∙ hash-of-trees,
  trees-of-root,
  ap (λ (trees : List ℕ). leaf_commitments shape (signer_leaf_commitment1 stand_in shape iv trees)) trees-of-root ∙ commitments-of-trees,
  ap (λ (trees : List ℕ). signer_u shape 2 (row1_byte stand_in shape iv trees)) trees-of-root ∙ u-of-trees,
  ap (λ (trees : List ℕ). matrix_of shape 2 (signer_column shape 2 (row1_byte stand_in shape iv trees))) trees-of-root ∙ v-of-trees,
  ap (λ (trees : List ℕ). corrections shape 2 (row1_byte stand_in shape iv trees)) trees-of-root ∙ corrections-of-trees,
)

-- ---- open

-- the way to leaf 2 of 4 goes right and then left
pub siblings-of-2 : siblings shape challenge 0 ≡ 1 ∷ 6 ∷ []
unfolding tabulate number bit_at bits_at index_at deeper level depth_of first_bit hidden_index sibling_at siblings
siblings-of-2 = refl

pub opens : opening1_of shape challenge signer-trees signer-leaf-commitments ≡ opening
unfolding tabulate concat number bit_at bits_at index_at level node_bytes deeper depth_of entries_of first_bit first_entry hidden_index node_at first_node leaf_commitment_bytes1 sibling_at siblings leaf_commitment_at1 decommitment opening1_of
opens = refl

-- ---- reconstruct

trees-of-opening : reconstructed_trees stand_in shape iv challenge opening ≡ verifier-trees
unfolding tabulate concat zeros index_of number bit_at bits_at index_at parent is_ancestor_within is_ancestor some covered expand_tree level node_bytes deeper depth_of entries_of first_bit hidden_index prg prg1 children1 leaf_in sibling_at siblings decommitment_from slot1 on_path given_node1 reconstructed_children1 reconstructed_vector_tree reconstructed_trees
trees-of-opening = refl

commitments-again : leaf_commitments shape (verifier_leaf_commitment1 stand_in shape iv challenge opening verifier-trees) ≡ signer-leaf-commitments
unfolding tabulate concat number bit_at bits_at index_at level node_bytes deeper depth_of entries_of first_bit first_entry hidden_index node_at vector_commitments leaf_commitments first_node leaf_in leaf_key1 leaf_commitment_bytes1 hashed_leaf leaf_commitment1 decommitment_from hidden_leaf_commitment1 verifier_leaf_commitment1
commitments-again = refl

hash-again : commitment_of stand_in shape (verifier_leaf_commitment1 stand_in shape iv challenge opening verifier-trees) ≡ signer-commitment
unfolding tabulate concat number bit_at bits_at index_at level node_bytes deeper depth_of entries_of first_bit first_entry hidden_index node_at vector_commitments vector_hash commitment_of first_node leaf_in leaf_key1 leaf_commitment_bytes1 hashed_leaf leaf_commitment1 decommitment_from hidden_leaf_commitment1 verifier_leaf_commitment1
hash-again = refl

q-of-trees : matrix_of shape 2 (verifier_column shape 2 (row1_byte stand_in shape iv verifier-trees) challenge signer-corrections) ≡ verifier-q ++ zeros (2 * 123)
unfolding tabulate concat zeros xor_below number bit_at bits_at index_at level node_bytes deeper depth_of entries_of first_bit first_entry hidden_index node_at column_byte matrix_of correction_byte verifier_column first_node leaf_in leaf_key1 leaf_commitment_bytes1 hashed_leaf leaf_seed1 row1_byte
q-of-trees = refl

pub reconstructs :
    let x = reconstructed1 stand_in shape 2 iv challenge signer-corrections opening in
    (x.commitment ≡ signer-commitment)
    × (x.tree ≡ verifier-trees)
    × (x.leaf_commitments ≡ signer-leaf-commitments)
    × (x.q ≡ verifier-q ++ zeros (2 * 123))
unfolding reconstructed1
reconstructs = (
  ap (λ (trees : List ℕ). commitment_of stand_in shape (verifier_leaf_commitment1 stand_in shape iv challenge opening trees)) trees-of-opening ∙ hash-again,
  trees-of-opening,
  ap (λ (trees : List ℕ). leaf_commitments shape (verifier_leaf_commitment1 stand_in shape iv challenge opening trees)) trees-of-opening ∙ commitments-again,
  ap (λ (trees : List ℕ). matrix_of shape 2 (verifier_column shape 2 (row1_byte stand_in shape iv trees) challenge signer-corrections)) trees-of-opening ∙ q-of-trees,
)
