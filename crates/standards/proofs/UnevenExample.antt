-- Commit, open and reconstruct of three vectors of two depths in a tree of ten leaves, with rows of two bytes, over the stand-in primitives of crates/spec: every byte
-- of every buffer. Vectors 0 and 1 have depth two and vector 2 depth one; the hidden entry of vector 0 is one of those behind the first 2^k. The lists are those that
-- reference/worked_example.py derives. By computing.
use Prim.Native.Nat.{ℕ, ◌*◌}
use mathlib.Core.Path.{◌≡◌, refl}
use mathlib.Core.List.{List, [], ◌∷◌, ◌++◌}
use Rattle.spec.specs.declared.Shape.{Shape}
use Rattle.spec.specs.declared.Stretch.{Stretch}
use Rattle.spec.specs.Bytes.{tabulate, concat, zeros, xor_below, number, index_of}
use Rattle.spec.specs.Tree.{parent, is_ancestor_within, is_ancestor, some, covered, sibling_to_reveal, revealed_from, revealed, node_count, expand_tree}
use Rattle.spec.specs.Challenge.{bit_at, bits_at, index_at}
use Rattle.spec.specs.Shapes.{level, node_bytes, leaf_commitment_bytes, deeper, depth_of, entries_of, first_bit, first_entry, leaves, leaf_of, hidden_index, hidden_leaf, hidden_leaves, planned, planned_count}
use Rattle.spec.specs.Primitives.{prg}
use Rattle.spec.specs.Leaves.{node_at, leaf_key, children, hash_key, stretched, leaf_seed, leaf_commitment, vector_commitments, leaf_commitments, vector_hash, commitment_of}
use Rattle.spec.specs.Rows.{row_byte, stretch_byte, u_byte, column_byte, matrix_of}
use Rattle.spec.specs.Signer.{signer_tree, signer_leaf_commitment, signer_u, signer_column, correction, corrections, leaf_commitment_at, opening_of}
use Rattle.spec.specs.Verifier.{hidden_leaf_commitment, slot, given_node, reconstructed_children, reconstructed_tree, verifier_leaf_commitment, correction_byte, verifier_column}
use Rattle.spec.specs.Calls.{committed, reconstructed}
use Rattle.spec.proofs.StandIns.{stand_in}

abbrev shape : Shape
shape = record { tau = 3; k = 1; w = 123; t = 6; level = 128; kind = 0 }

abbrev whole : Stretch
whole = record { first = 0; width = 2 }

abbrev root : List ℕ
root = 1 ∷ 8 ∷ 15 ∷ 22 ∷ 29 ∷ 36 ∷ 43 ∷ 50 ∷ 57 ∷ 64 ∷ 71 ∷ 78 ∷ 85 ∷ 92 ∷ 99 ∷ 106 ∷ []

abbrev iv : List ℕ
iv = 3 ∷ 14 ∷ 25 ∷ 36 ∷ 47 ∷ 58 ∷ 69 ∷ 80 ∷ 91 ∷ 102 ∷ 113 ∷ 124 ∷ 135 ∷ 146 ∷ 157 ∷ 168 ∷ []

abbrev challenge : List ℕ
challenge = 22 ∷ 0 ∷ 0 ∷ 0 ∷ 0 ∷ 0 ∷ 0 ∷ 0 ∷ 0 ∷ 0 ∷ 0 ∷ 0 ∷ 0 ∷ 0 ∷ 0 ∷ 0 ∷ []

abbrev signer-commitment : List ℕ
signer-commitment = 58 ∷ 100 ∷ 142 ∷ 184 ∷ 226 ∷ 12 ∷ 54 ∷ 96 ∷ 138 ∷ 180 ∷ 222 ∷ 8 ∷ 50 ∷ 92 ∷ 134 ∷ 176 ∷ 218 ∷ 4 ∷ 46 ∷ 88 ∷ 130 ∷ 172 ∷ 214 ∷ 0 ∷ 42 ∷ 84 ∷ 126 ∷ 168 ∷ 210 ∷ 252 ∷ 38 ∷ 80 ∷ []

abbrev signer-tree : List ℕ
signer-tree = 1 ∷ 8 ∷ 15 ∷ 22 ∷ 29 ∷ 36 ∷ 43 ∷ 50 ∷ 57 ∷ 64 ∷ 71 ∷ 78 ∷ 85 ∷ 92 ∷ 99 ∷ 106 ∷ 192 ∷ 46 ∷ 94 ∷ 80 ∷ 4 ∷ 122 ∷ 178 ∷ 172 ∷ 104 ∷ 230 ∷ 38 ∷ 40 ∷ 236 ∷ 114 ∷ 186 ∷ 196 ∷ 144 ∷ 30 ∷ 110 ∷ 128 ∷ 84 ∷ 234 ∷ 66 ∷ 92 ∷ 56 ∷ 214 ∷ 54 ∷ 88 ∷ 60 ∷ 226 ∷ 74 ∷ 116 ∷ 55 ∷ 202 ∷ 105 ∷ 20 ∷ 203 ∷ 142 ∷ 93 ∷ 56 ∷ 31 ∷ 18 ∷ 17 ∷ 28 ∷ 51 ∷ 86 ∷ 133 ∷ 192 ∷ 7 ∷ 90 ∷ 185 ∷ 36 ∷ 155 ∷ 30 ∷ 173 ∷ 72 ∷ 239 ∷ 162 ∷ 97 ∷ 44 ∷ 3 ∷ 230 ∷ 213 ∷ 208 ∷ 190 ∷ 66 ∷ 180 ∷ 20 ∷ 98 ∷ 158 ∷ 200 ∷ 224 ∷ 230 ∷ 218 ∷ 188 ∷ 140 ∷ 74 ∷ 246 ∷ 144 ∷ 24 ∷ 142 ∷ 242 ∷ 68 ∷ 132 ∷ 178 ∷ 206 ∷ 216 ∷ 208 ∷ 182 ∷ 138 ∷ 76 ∷ 252 ∷ 154 ∷ 38 ∷ 160 ∷ 8 ∷ 245 ∷ 107 ∷ 179 ∷ 205 ∷ 185 ∷ 119 ∷ 7 ∷ 105 ∷ 157 ∷ 163 ∷ 123 ∷ 37 ∷ 161 ∷ 239 ∷ 15 ∷ 1 ∷ 197 ∷ 91 ∷ 195 ∷ 253 ∷ 9 ∷ 231 ∷ 151 ∷ 25 ∷ 109 ∷ 147 ∷ 139 ∷ 85 ∷ 241 ∷ 95 ∷ 159 ∷ 177 ∷ 124 ∷ 14 ∷ 170 ∷ 80 ∷ 0 ∷ 186 ∷ 126 ∷ 76 ∷ 36 ∷ 6 ∷ 242 ∷ 232 ∷ 232 ∷ 242 ∷ 6 ∷ 36 ∷ 76 ∷ 126 ∷ 186 ∷ 0 ∷ 80 ∷ 170 ∷ 14 ∷ 124 ∷ 244 ∷ 118 ∷ 2 ∷ 152 ∷ 56 ∷ 226 ∷ 150 ∷ 84 ∷ 83 ∷ 236 ∷ 157 ∷ 102 ∷ 71 ∷ 64 ∷ 81 ∷ 122 ∷ 187 ∷ 20 ∷ 133 ∷ 14 ∷ 175 ∷ 104 ∷ 57 ∷ 34 ∷ 35 ∷ 60 ∷ 109 ∷ 182 ∷ 23 ∷ 144 ∷ 33 ∷ 202 ∷ 139 ∷ 100 ∷ 85 ∷ 94 ∷ 127 ∷ 184 ∷ 9 ∷ 114 ∷ 218 ∷ 107 ∷ 4 ∷ 165 ∷ 78 ∷ 255 ∷ 184 ∷ 121 ∷ 66 ∷ 19 ∷ 236 ∷ 205 ∷ 182 ∷ 167 ∷ 160 ∷ 161 ∷ 170 ∷ 187 ∷ 212 ∷ 245 ∷ 30 ∷ 79 ∷ 136 ∷ 201 ∷ 18 ∷ 99 ∷ 188 ∷ 29 ∷ 134 ∷ 247 ∷ 112 ∷ 241 ∷ 73 ∷ 204 ∷ 59 ∷ 150 ∷ 221 ∷ 16 ∷ 47 ∷ 58 ∷ 49 ∷ 20 ∷ 227 ∷ 158 ∷ 69 ∷ 216 ∷ 87 ∷ 194 ∷ 25 ∷ 92 ∷ 139 ∷ 166 ∷ 173 ∷ 160 ∷ 127 ∷ 74 ∷ 1 ∷ 164 ∷ 51 ∷ 174 ∷ 21 ∷ 104 ∷ 167 ∷ 210 ∷ 208 ∷ 100 ∷ 6 ∷ 182 ∷ 116 ∷ 64 ∷ 26 ∷ 2 ∷ 248 ∷ 252 ∷ 14 ∷ 46 ∷ 92 ∷ 152 ∷ 226 ∷ 58 ∷ 160 ∷ 20 ∷ 150 ∷ 38 ∷ 196 ∷ 112 ∷ 42 ∷ 242 ∷ 200 ∷ 172 ∷ 158 ∷ 158 ∷ 172 ∷ 200 ∷ 242 ∷ 42 ∷ []

abbrev signer-leaf-commitments : List ℕ
signer-leaf-commitments = 200 ∷ 203 ∷ 78 ∷ 193 ∷ 196 ∷ 127 ∷ 186 ∷ 245 ∷ 208 ∷ 51 ∷ 182 ∷ 41 ∷ 236 ∷ 231 ∷ 162 ∷ 29 ∷ 168 ∷ 171 ∷ 174 ∷ 161 ∷ 164 ∷ 255 ∷ 186 ∷ 117 ∷ 208 ∷ 179 ∷ 182 ∷ 73 ∷ 204 ∷ 71 ∷ 66 ∷ 221 ∷ 8 ∷ 139 ∷ 14 ∷ 129 ∷ 4 ∷ 127 ∷ 58 ∷ 245 ∷ 16 ∷ 179 ∷ 54 ∷ 169 ∷ 236 ∷ 231 ∷ 34 ∷ 93 ∷ 200 ∷ 157 ∷ 6 ∷ 103 ∷ 68 ∷ 121 ∷ 138 ∷ 19 ∷ 80 ∷ 85 ∷ 62 ∷ 143 ∷ 108 ∷ 193 ∷ 98 ∷ 11 ∷ 232 ∷ 189 ∷ 38 ∷ 39 ∷ 228 ∷ 153 ∷ 234 ∷ 51 ∷ 80 ∷ 181 ∷ 254 ∷ 15 ∷ 204 ∷ 129 ∷ 194 ∷ 11 ∷ 8 ∷ 29 ∷ 70 ∷ 167 ∷ 132 ∷ 185 ∷ 202 ∷ 19 ∷ 16 ∷ 213 ∷ 190 ∷ 143 ∷ 108 ∷ 65 ∷ 226 ∷ 11 ∷ 200 ∷ 237 ∷ 6 ∷ 167 ∷ 196 ∷ 41 ∷ 138 ∷ 51 ∷ 80 ∷ 245 ∷ 62 ∷ 127 ∷ 44 ∷ 193 ∷ 226 ∷ 251 ∷ 168 ∷ 109 ∷ 38 ∷ 231 ∷ 164 ∷ 105 ∷ 106 ∷ 19 ∷ 80 ∷ 149 ∷ 126 ∷ 31 ∷ 204 ∷ 129 ∷ 66 ∷ 27 ∷ 8 ∷ 45 ∷ 198 ∷ 231 ∷ 132 ∷ 105 ∷ 74 ∷ 243 ∷ 16 ∷ 53 ∷ 190 ∷ 191 ∷ 172 ∷ 193 ∷ 98 ∷ 59 ∷ 200 ∷ 219 ∷ 206 ∷ 65 ∷ 68 ∷ 199 ∷ 186 ∷ 77 ∷ 176 ∷ 179 ∷ 182 ∷ 121 ∷ 172 ∷ 191 ∷ 162 ∷ 101 ∷ 168 ∷ 155 ∷ 174 ∷ 97 ∷ 164 ∷ 167 ∷ 186 ∷ 109 ∷ 176 ∷ 179 ∷ 182 ∷ 121 ∷ 204 ∷ 191 ∷ 194 ∷ 69 ∷ 8 ∷ 27 ∷ 14 ∷ 1 ∷ 4 ∷ 7 ∷ 58 ∷ 13 ∷ 48 ∷ 51 ∷ 54 ∷ 121 ∷ 44 ∷ 63 ∷ 34 ∷ 101 ∷ 200 ∷ 183 ∷ 22 ∷ 241 ∷ 212 ∷ 11 ∷ 154 ∷ 69 ∷ 32 ∷ 143 ∷ 46 ∷ 121 ∷ 236 ∷ 19 ∷ 242 ∷ 93 ∷ 40 ∷ 151 ∷ 86 ∷ 17 ∷ 84 ∷ 139 ∷ 90 ∷ 5 ∷ 192 ∷ 143 ∷ 78 ∷ 25 ∷ 76 ∷ 115 ∷ 50 ∷ 253 ∷ 136 ∷ 247 ∷ 214 ∷ 49 ∷ 20 ∷ 11 ∷ 218 ∷ 69 ∷ 160 ∷ 143 ∷ 174 ∷ 185 ∷ 236 ∷ 19 ∷ 114 ∷ 93 ∷ 120 ∷ 91 ∷ 150 ∷ 17 ∷ 212 ∷ 191 ∷ 26 ∷ 133 ∷ 224 ∷ 67 ∷ 238 ∷ 9 ∷ 252 ∷ 55 ∷ 50 ∷ 109 ∷ 120 ∷ 251 ∷ 86 ∷ 113 ∷ 84 ∷ 31 ∷ 90 ∷ 133 ∷ 192 ∷ 3 ∷ 78 ∷ 137 ∷ 124 ∷ 23 ∷ 114 ∷ 173 ∷ 120 ∷ 91 ∷ 214 ∷ 17 ∷ 20 ∷ 255 ∷ 218 ∷ 133 ∷ 224 ∷ 67 ∷ 110 ∷ 9 ∷ 252 ∷ 119 ∷ 178 ∷ 173 ∷ 200 ∷ 85 ∷ 206 ∷ 83 ∷ 52 ∷ 217 ∷ 90 ∷ 103 ∷ 32 ∷ 173 ∷ 38 ∷ 171 ∷ 44 ∷ 113 ∷ 50 ∷ 255 ∷ 40 ∷ 213 ∷ 238 ∷ 211 ∷ 52 ∷ 89 ∷ 90 ∷ 199 ∷ 64 ∷ 77 ∷ 198 ∷ 75 ∷ 76 ∷ 241 ∷ 178 ∷ 127 ∷ 136 ∷ 21 ∷ 142 ∷ 19 ∷ 180 ∷ 25 ∷ 154 ∷ 103 ∷ 160 ∷ 45 ∷ 166 ∷ 43 ∷ 172 ∷ 113 ∷ 178 ∷ 255 ∷ 72 ∷ 111 ∷ 22 ∷ 113 ∷ 180 ∷ 139 ∷ 154 ∷ 221 ∷ 32 ∷ 7 ∷ 238 ∷ 121 ∷ 172 ∷ 147 ∷ 178 ∷ 85 ∷ 104 ∷ 111 ∷ 86 ∷ 17 ∷ 52 ∷ 139 ∷ 218 ∷ 61 ∷ 192 ∷ 135 ∷ 206 ∷ 25 ∷ 76 ∷ 115 ∷ 114 ∷ 53 ∷ 136 ∷ 47 ∷ 86 ∷ 177 ∷ 52 ∷ 139 ∷ 218 ∷ 93 ∷ 160 ∷ 7 ∷ 110 ∷ 57 ∷ 44 ∷ 147 ∷ 50 ∷ 213 ∷ 168 ∷ 39 ∷ 162 ∷ 33 ∷ 164 ∷ 27 ∷ 190 ∷ 21 ∷ 144 ∷ 15 ∷ 138 ∷ 9 ∷ 140 ∷ 3 ∷ 134 ∷ 61 ∷ 200 ∷ 199 ∷ 194 ∷ 193 ∷ 196 ∷ 219 ∷ 62 ∷ 85 ∷ 208 ∷ 111 ∷ 42 ∷ 105 ∷ 236 ∷ 35 ∷ 38 ∷ 61 ∷ 40 ∷ 167 ∷ 34 ∷ 161 ∷ 36 ∷ 91 ∷ 62 ∷ 213 ∷ 208 ∷ 207 ∷ 74 ∷ 201 ∷ 204 ∷ 195 ∷ 198 ∷ 61 ∷ 216 ∷ 77 ∷ 226 ∷ 3 ∷ 36 ∷ 201 ∷ 214 ∷ 191 ∷ 112 ∷ 245 ∷ 74 ∷ 59 ∷ 28 ∷ 225 ∷ 62 ∷ 103 ∷ 216 ∷ 141 ∷ 194 ∷ 3 ∷ 68 ∷ 137 ∷ 214 ∷ 31 ∷ 112 ∷ 149 ∷ 170 ∷ 27 ∷ 92 ∷ 161 ∷ 254 ∷ 103 ∷ 24 ∷ 77 ∷ 98 ∷ 3 ∷ 164 ∷ 73 ∷ 22 ∷ 255 ∷ 112 ∷ 53 ∷ 138 ∷ 251 ∷ 220 ∷ 161 ∷ 62 ∷ 167 ∷ []

abbrev signer-u : List ℕ
signer-u = 151 ∷ 3 ∷ []

abbrev signer-v : List ℕ
signer-v = 200 ∷ 76 ∷ 8 ∷ 251 ∷ 16 ∷ 98 ∷ 184 ∷ 57 ∷ 65 ∷ 82 ∷ []

abbrev signer-corrections : List ℕ
signer-corrections = 159 ∷ 191 ∷ 108 ∷ 230 ∷ []

abbrev opening : List ℕ
opening = 200 ∷ 237 ∷ 6 ∷ 167 ∷ 196 ∷ 41 ∷ 138 ∷ 51 ∷ 80 ∷ 245 ∷ 62 ∷ 127 ∷ 44 ∷ 193 ∷ 226 ∷ 251 ∷ 168 ∷ 109 ∷ 38 ∷ 231 ∷ 164 ∷ 105 ∷ 106 ∷ 19 ∷ 80 ∷ 149 ∷ 126 ∷ 31 ∷ 204 ∷ 129 ∷ 66 ∷ 27 ∷ 8 ∷ 45 ∷ 198 ∷ 231 ∷ 132 ∷ 105 ∷ 74 ∷ 243 ∷ 16 ∷ 53 ∷ 190 ∷ 191 ∷ 172 ∷ 193 ∷ 98 ∷ 59 ∷ 120 ∷ 91 ∷ 150 ∷ 17 ∷ 212 ∷ 191 ∷ 26 ∷ 133 ∷ 224 ∷ 67 ∷ 238 ∷ 9 ∷ 252 ∷ 55 ∷ 50 ∷ 109 ∷ 120 ∷ 251 ∷ 86 ∷ 113 ∷ 84 ∷ 31 ∷ 90 ∷ 133 ∷ 192 ∷ 3 ∷ 78 ∷ 137 ∷ 124 ∷ 23 ∷ 114 ∷ 173 ∷ 120 ∷ 91 ∷ 214 ∷ 17 ∷ 20 ∷ 255 ∷ 218 ∷ 133 ∷ 224 ∷ 67 ∷ 110 ∷ 9 ∷ 252 ∷ 119 ∷ 178 ∷ 173 ∷ 216 ∷ 77 ∷ 226 ∷ 3 ∷ 36 ∷ 201 ∷ 214 ∷ 191 ∷ 112 ∷ 245 ∷ 74 ∷ 59 ∷ 28 ∷ 225 ∷ 62 ∷ 103 ∷ 216 ∷ 141 ∷ 194 ∷ 3 ∷ 68 ∷ 137 ∷ 214 ∷ 31 ∷ 112 ∷ 149 ∷ 170 ∷ 27 ∷ 92 ∷ 161 ∷ 254 ∷ 103 ∷ 24 ∷ 77 ∷ 98 ∷ 3 ∷ 164 ∷ 73 ∷ 22 ∷ 255 ∷ 112 ∷ 53 ∷ 138 ∷ 251 ∷ 220 ∷ 161 ∷ 62 ∷ 167 ∷ 25 ∷ 92 ∷ 139 ∷ 166 ∷ 173 ∷ 160 ∷ 127 ∷ 74 ∷ 1 ∷ 164 ∷ 51 ∷ 174 ∷ 21 ∷ 104 ∷ 167 ∷ 210 ∷ 197 ∷ 91 ∷ 195 ∷ 253 ∷ 9 ∷ 231 ∷ 151 ∷ 25 ∷ 109 ∷ 147 ∷ 139 ∷ 85 ∷ 241 ∷ 95 ∷ 159 ∷ 177 ∷ 190 ∷ 66 ∷ 180 ∷ 20 ∷ 98 ∷ 158 ∷ 200 ∷ 224 ∷ 230 ∷ 218 ∷ 188 ∷ 140 ∷ 74 ∷ 246 ∷ 144 ∷ 24 ∷ 7 ∷ 90 ∷ 185 ∷ 36 ∷ 155 ∷ 30 ∷ 173 ∷ 72 ∷ 239 ∷ 162 ∷ 97 ∷ 44 ∷ 3 ∷ 230 ∷ 213 ∷ 208 ∷ 0 ∷ 0 ∷ 0 ∷ 0 ∷ 0 ∷ 0 ∷ 0 ∷ 0 ∷ 0 ∷ 0 ∷ 0 ∷ 0 ∷ 0 ∷ 0 ∷ 0 ∷ 0 ∷ 0 ∷ 0 ∷ 0 ∷ 0 ∷ 0 ∷ 0 ∷ 0 ∷ 0 ∷ 0 ∷ 0 ∷ 0 ∷ 0 ∷ 0 ∷ 0 ∷ 0 ∷ 0 ∷ []

abbrev verifier-tree : List ℕ
verifier-tree = 0 ∷ 0 ∷ 0 ∷ 0 ∷ 0 ∷ 0 ∷ 0 ∷ 0 ∷ 0 ∷ 0 ∷ 0 ∷ 0 ∷ 0 ∷ 0 ∷ 0 ∷ 0 ∷ 0 ∷ 0 ∷ 0 ∷ 0 ∷ 0 ∷ 0 ∷ 0 ∷ 0 ∷ 0 ∷ 0 ∷ 0 ∷ 0 ∷ 0 ∷ 0 ∷ 0 ∷ 0 ∷ 0 ∷ 0 ∷ 0 ∷ 0 ∷ 0 ∷ 0 ∷ 0 ∷ 0 ∷ 0 ∷ 0 ∷ 0 ∷ 0 ∷ 0 ∷ 0 ∷ 0 ∷ 0 ∷ 0 ∷ 0 ∷ 0 ∷ 0 ∷ 0 ∷ 0 ∷ 0 ∷ 0 ∷ 0 ∷ 0 ∷ 0 ∷ 0 ∷ 0 ∷ 0 ∷ 0 ∷ 0 ∷ 7 ∷ 90 ∷ 185 ∷ 36 ∷ 155 ∷ 30 ∷ 173 ∷ 72 ∷ 239 ∷ 162 ∷ 97 ∷ 44 ∷ 3 ∷ 230 ∷ 213 ∷ 208 ∷ 190 ∷ 66 ∷ 180 ∷ 20 ∷ 98 ∷ 158 ∷ 200 ∷ 224 ∷ 230 ∷ 218 ∷ 188 ∷ 140 ∷ 74 ∷ 246 ∷ 144 ∷ 24 ∷ 0 ∷ 0 ∷ 0 ∷ 0 ∷ 0 ∷ 0 ∷ 0 ∷ 0 ∷ 0 ∷ 0 ∷ 0 ∷ 0 ∷ 0 ∷ 0 ∷ 0 ∷ 0 ∷ 0 ∷ 0 ∷ 0 ∷ 0 ∷ 0 ∷ 0 ∷ 0 ∷ 0 ∷ 0 ∷ 0 ∷ 0 ∷ 0 ∷ 0 ∷ 0 ∷ 0 ∷ 0 ∷ 197 ∷ 91 ∷ 195 ∷ 253 ∷ 9 ∷ 231 ∷ 151 ∷ 25 ∷ 109 ∷ 147 ∷ 139 ∷ 85 ∷ 241 ∷ 95 ∷ 159 ∷ 177 ∷ 124 ∷ 14 ∷ 170 ∷ 80 ∷ 0 ∷ 186 ∷ 126 ∷ 76 ∷ 36 ∷ 6 ∷ 242 ∷ 232 ∷ 232 ∷ 242 ∷ 6 ∷ 36 ∷ 76 ∷ 126 ∷ 186 ∷ 0 ∷ 80 ∷ 170 ∷ 14 ∷ 124 ∷ 244 ∷ 118 ∷ 2 ∷ 152 ∷ 56 ∷ 226 ∷ 150 ∷ 84 ∷ 83 ∷ 236 ∷ 157 ∷ 102 ∷ 71 ∷ 64 ∷ 81 ∷ 122 ∷ 187 ∷ 20 ∷ 133 ∷ 14 ∷ 175 ∷ 104 ∷ 57 ∷ 34 ∷ 35 ∷ 60 ∷ 109 ∷ 182 ∷ 23 ∷ 144 ∷ 33 ∷ 202 ∷ 139 ∷ 100 ∷ 85 ∷ 94 ∷ 127 ∷ 184 ∷ 9 ∷ 114 ∷ 0 ∷ 0 ∷ 0 ∷ 0 ∷ 0 ∷ 0 ∷ 0 ∷ 0 ∷ 0 ∷ 0 ∷ 0 ∷ 0 ∷ 0 ∷ 0 ∷ 0 ∷ 0 ∷ 0 ∷ 0 ∷ 0 ∷ 0 ∷ 0 ∷ 0 ∷ 0 ∷ 0 ∷ 0 ∷ 0 ∷ 0 ∷ 0 ∷ 0 ∷ 0 ∷ 0 ∷ 0 ∷ 0 ∷ 0 ∷ 0 ∷ 0 ∷ 0 ∷ 0 ∷ 0 ∷ 0 ∷ 0 ∷ 0 ∷ 0 ∷ 0 ∷ 0 ∷ 0 ∷ 0 ∷ 0 ∷ 25 ∷ 92 ∷ 139 ∷ 166 ∷ 173 ∷ 160 ∷ 127 ∷ 74 ∷ 1 ∷ 164 ∷ 51 ∷ 174 ∷ 21 ∷ 104 ∷ 167 ∷ 210 ∷ 208 ∷ 100 ∷ 6 ∷ 182 ∷ 116 ∷ 64 ∷ 26 ∷ 2 ∷ 248 ∷ 252 ∷ 14 ∷ 46 ∷ 92 ∷ 152 ∷ 226 ∷ 58 ∷ 160 ∷ 20 ∷ 150 ∷ 38 ∷ 196 ∷ 112 ∷ 42 ∷ 242 ∷ 200 ∷ 172 ∷ 158 ∷ 158 ∷ 172 ∷ 200 ∷ 242 ∷ 42 ∷ []

abbrev verifier-q : List ℕ
verifier-q = 200 ∷ 76 ∷ 159 ∷ 248 ∷ 135 ∷ 97 ∷ 184 ∷ 57 ∷ 214 ∷ 81 ∷ []

pub commits : committed stand_in shape whole root iv
    ≡ record {
      commitment = signer-commitment;
      tree = signer-tree;
      leaf_commitments = signer-leaf-commitments;
      u = signer-u;
      v = signer-v ++ zeros (2 * 123);
      corrections = signer-corrections;
    }
unfolding tabulate concat zeros level node_bytes leaf_commitment_bytes deeper depth_of entries_of leaves leaf_of prg node_at leaf_key expand_tree children stretched leaf_seed hash_key leaf_commitment vector_commitments leaf_commitments vector_hash commitment_of xor_below row_byte stretch_byte column_byte matrix_of u_byte signer_tree signer_leaf_commitment signer_u signer_column correction corrections committed
commits = refl

pub opens : opening_of shape challenge signer-tree signer-leaf-commitments ≡ opening
unfolding tabulate concat zeros level node_bytes leaf_commitment_bytes deeper depth_of leaves leaf_of first_entry node_at number bit_at bits_at index_at first_bit hidden_index parent is_ancestor_within is_ancestor some covered sibling_to_reveal revealed_from revealed node_count hidden_leaf hidden_leaves planned planned_count leaf_commitment_at opening_of
opens = refl

pub reconstructs : reconstructed stand_in shape whole iv challenge signer-corrections opening
    ≡ record { commitment = signer-commitment; tree = verifier-tree; leaf_commitments = signer-leaf-commitments; q = verifier-q ++ zeros (2 * 123) }
unfolding tabulate concat zeros level node_bytes leaf_commitment_bytes deeper depth_of entries_of leaves leaf_of prg node_at leaf_key expand_tree children stretched leaf_seed hash_key leaf_commitment vector_commitments leaf_commitments vector_hash commitment_of xor_below row_byte stretch_byte column_byte matrix_of number bit_at bits_at index_at first_bit hidden_index parent is_ancestor_within is_ancestor some covered sibling_to_reveal revealed_from revealed node_count hidden_leaf hidden_leaves planned planned_count index_of slot given_node reconstructed_children reconstructed_tree hidden_leaf_commitment verifier_leaf_commitment correction_byte verifier_column reconstructed
reconstructs = refl
