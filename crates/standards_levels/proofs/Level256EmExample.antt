-- Commit, open and reconstruct at level 256 with Even-Mansour leaves, of two vectors of depths two and one, with rows of two bytes, over the stand-in primitives of crates/spec: every byte of
-- every buffer; the hidden entry of vector 0 is the last. A width of another level, or of the other kind, gives other lists. They are those that
-- reference/worked_example.py derives. By computing.
use Prim.Native.Nat.{ℕ, ◌*◌}
use mathlib.Core.Path.{◌≡◌, refl}
use mathlib.Core.List.{List, [], ◌∷◌, ◌++◌}
use Rattle.spec.specs.declared.Shape.{Shape}
use Rattle.spec.specs.declared.Stretch.{Stretch}
use Rattle.spec.specs.Bytes.{tabulate, concat, zeros, xor_below, number, index_of}
use Rattle.spec.specs.Tree.{parent, is_ancestor_within, is_ancestor, some, covered, sibling_to_reveal, revealed_from, revealed, node_count, expand_tree}
use Rattle.spec.specs.Challenge.{bit_at, bits_at, index_at}
use Rattle.spec.specs.Shapes.{level, node_bytes, leaf_commitment_bytes, deeper, depth_of, entries_of, first_bit, first_entry, leaves, leaf_of, hidden_index, hidden_leaf, hidden_leaves, planned, planned_count}
use Rattle.spec.specs.Primitives.{prg}
use Rattle.spec.specs.Leaves.{node_at, leaf_key, children, hash_key, stretched, leaf_seed, leaf_commitment, vector_commitments, leaf_commitments, vector_hash, commitment_of}
use Rattle.spec.specs.Rows.{row_byte, stretch_byte, u_byte, column_byte, matrix_of}
use Rattle.spec.specs.Signer.{signer_tree, signer_leaf_commitment, signer_u, signer_column, correction, corrections, leaf_commitment_at, opening_of}
use Rattle.spec.specs.Verifier.{hidden_leaf_commitment, slot, given_node, reconstructed_children, reconstructed_tree, verifier_leaf_commitment, correction_byte, verifier_column}
use Rattle.spec.specs.Calls.{committed, reconstructed}
use Rattle.spec.proofs.StandIns.{stand_in_of}

abbrev shape : Shape
shape = record { tau = 2; k = 1; w = 253; t = 3; level = 256; kind = 1 }

abbrev whole : Stretch
whole = record { first = 0; width = 2 }

abbrev root : List ℕ
root = 1 ∷ 8 ∷ 15 ∷ 22 ∷ 29 ∷ 36 ∷ 43 ∷ 50 ∷ 57 ∷ 64 ∷ 71 ∷ 78 ∷ 85 ∷ 92 ∷ 99 ∷ 106 ∷ 113 ∷ 120 ∷ 127 ∷ 134 ∷ 141 ∷ 148 ∷ 155 ∷ 162 ∷ 169 ∷ 176 ∷ 183 ∷ 190 ∷ 197 ∷ 204 ∷ 211 ∷ 218 ∷ []

abbrev iv : List ℕ
iv = 3 ∷ 14 ∷ 25 ∷ 36 ∷ 47 ∷ 58 ∷ 69 ∷ 80 ∷ 91 ∷ 102 ∷ 113 ∷ 124 ∷ 135 ∷ 146 ∷ 157 ∷ 168 ∷ []

abbrev challenge : List ℕ
challenge = 3 ∷ 0 ∷ 0 ∷ 0 ∷ 0 ∷ 0 ∷ 0 ∷ 0 ∷ 0 ∷ 0 ∷ 0 ∷ 0 ∷ 0 ∷ 0 ∷ 0 ∷ 0 ∷ 0 ∷ 0 ∷ 0 ∷ 0 ∷ 0 ∷ 0 ∷ 0 ∷ 0 ∷ 0 ∷ 0 ∷ 0 ∷ 0 ∷ 0 ∷ 0 ∷ 0 ∷ 0 ∷ []

abbrev signer-commitment : List ℕ
signer-commitment = 182 ∷ 12 ∷ 98 ∷ 184 ∷ 14 ∷ 100 ∷ 186 ∷ 16 ∷ 102 ∷ 188 ∷ 18 ∷ 104 ∷ 190 ∷ 20 ∷ 106 ∷ 192 ∷ 22 ∷ 108 ∷ 194 ∷ 24 ∷ 110 ∷ 196 ∷ 26 ∷ 112 ∷ 198 ∷ 28 ∷ 114 ∷ 200 ∷ 30 ∷ 116 ∷ 202 ∷ 32 ∷ 118 ∷ 204 ∷ 34 ∷ 120 ∷ 206 ∷ 36 ∷ 122 ∷ 208 ∷ 38 ∷ 124 ∷ 210 ∷ 40 ∷ 126 ∷ 212 ∷ 42 ∷ 128 ∷ 214 ∷ 44 ∷ 130 ∷ 216 ∷ 46 ∷ 132 ∷ 218 ∷ 48 ∷ 134 ∷ 220 ∷ 50 ∷ 136 ∷ 222 ∷ 52 ∷ 138 ∷ 224 ∷ []

abbrev signer-tree : List ℕ
signer-tree = 1 ∷ 8 ∷ 15 ∷ 22 ∷ 29 ∷ 36 ∷ 43 ∷ 50 ∷ 57 ∷ 64 ∷ 71 ∷ 78 ∷ 85 ∷ 92 ∷ 99 ∷ 106 ∷ 113 ∷ 120 ∷ 127 ∷ 134 ∷ 141 ∷ 148 ∷ 155 ∷ 162 ∷ 169 ∷ 176 ∷ 183 ∷ 190 ∷ 197 ∷ 204 ∷ 211 ∷ 218 ∷ 135 ∷ 252 ∷ 65 ∷ 86 ∷ 59 ∷ 240 ∷ 117 ∷ 202 ∷ 239 ∷ 228 ∷ 169 ∷ 62 ∷ 163 ∷ 216 ∷ 221 ∷ 178 ∷ 87 ∷ 204 ∷ 17 ∷ 38 ∷ 11 ∷ 192 ∷ 69 ∷ 154 ∷ 191 ∷ 180 ∷ 121 ∷ 14 ∷ 115 ∷ 168 ∷ 173 ∷ 130 ∷ 39 ∷ 156 ∷ 225 ∷ 246 ∷ 219 ∷ 144 ∷ 21 ∷ 106 ∷ 143 ∷ 132 ∷ 73 ∷ 222 ∷ 67 ∷ 120 ∷ 125 ∷ 82 ∷ 247 ∷ 108 ∷ 177 ∷ 198 ∷ 171 ∷ 96 ∷ 229 ∷ 58 ∷ 95 ∷ 84 ∷ 25 ∷ 174 ∷ 19 ∷ 72 ∷ 77 ∷ 34 ∷ 46 ∷ 139 ∷ 136 ∷ 37 ∷ 98 ∷ 63 ∷ 188 ∷ 217 ∷ 150 ∷ 243 ∷ 240 ∷ 141 ∷ 202 ∷ 167 ∷ 36 ∷ 65 ∷ 254 ∷ 91 ∷ 88 ∷ 245 ∷ 50 ∷ 15 ∷ 140 ∷ 169 ∷ 102 ∷ 195 ∷ 192 ∷ 93 ∷ 154 ∷ 119 ∷ 244 ∷ 17 ∷ 206 ∷ 43 ∷ 40 ∷ 197 ∷ 2 ∷ 223 ∷ 92 ∷ 121 ∷ 54 ∷ 147 ∷ 144 ∷ 45 ∷ 106 ∷ 71 ∷ 196 ∷ 225 ∷ 158 ∷ 251 ∷ 248 ∷ 149 ∷ 210 ∷ 175 ∷ 44 ∷ 73 ∷ 6 ∷ 99 ∷ 96 ∷ 253 ∷ 58 ∷ 23 ∷ 148 ∷ 177 ∷ 53 ∷ 100 ∷ 215 ∷ 142 ∷ 137 ∷ 200 ∷ 75 ∷ 18 ∷ 29 ∷ 108 ∷ 255 ∷ 214 ∷ 241 ∷ 80 ∷ 243 ∷ 218 ∷ 5 ∷ 116 ∷ 39 ∷ 30 ∷ 89 ∷ 216 ∷ 155 ∷ 162 ∷ 237 ∷ 124 ∷ 79 ∷ 102 ∷ 193 ∷ 96 ∷ 67 ∷ 106 ∷ 213 ∷ 132 ∷ 119 ∷ 174 ∷ 41 ∷ 232 ∷ 235 ∷ 50 ∷ 189 ∷ 140 ∷ 159 ∷ 246 ∷ 145 ∷ 112 ∷ 147 ∷ 250 ∷ 165 ∷ 148 ∷ 199 ∷ 62 ∷ 249 ∷ 248 ∷ 59 ∷ 194 ∷ 141 ∷ 156 ∷ 239 ∷ 134 ∷ 97 ∷ 128 ∷ 227 ∷ 138 ∷ 44 ∷ 143 ∷ 158 ∷ 89 ∷ 192 ∷ 211 ∷ 146 ∷ 253 ∷ 20 ∷ 215 ∷ 70 ∷ 97 ∷ 40 ∷ 155 ∷ 186 ∷ 133 ∷ 252 ∷ 31 ∷ 238 ∷ 105 ∷ 144 ∷ 99 ∷ 226 ∷ 13 ∷ 228 ∷ 103 ∷ 150 ∷ 113 ∷ 248 ∷ 43 ∷ 10 ∷ 149 ∷ 204 ∷ 175 ∷ 62 ∷ 121 ∷ 96 ∷ 243 ∷ 50 ∷ 29 ∷ 180 ∷ 247 ∷ 230 ∷ 129 ∷ 200 ∷ 187 ∷ 90 ∷ 165 ∷ 156 ∷ 63 ∷ 142 ∷ 137 ∷ 48 ∷ 131 ∷ 130 ∷ 45 ∷ 132 ∷ 135 ∷ 54 ∷ 145 ∷ 152 ∷ 75 ∷ 170 ∷ 181 ∷ 51 ∷ 134 ∷ 101 ∷ 208 ∷ 199 ∷ 74 ∷ 89 ∷ 244 ∷ 27 ∷ 206 ∷ 13 ∷ 216 ∷ 47 ∷ 18 ∷ 129 ∷ 124 ∷ 3 ∷ 22 ∷ 181 ∷ 224 ∷ 151 ∷ 218 ∷ 169 ∷ 4 ∷ 235 ∷ 94 ∷ 93 ∷ 232 ∷ 255 ∷ 162 ∷ 209 ∷ 140 ∷ 211 ∷ 166 ∷ 5 ∷ 240 ∷ 103 ∷ 106 ∷ 249 ∷ 20 ∷ 187 ∷ 238 ∷ 173 ∷ 248 ∷ 207 ∷ 50 ∷ 33 ∷ 156 ∷ 163 ∷ 54 ∷ 85 ∷ 0 ∷ 55 ∷ 250 ∷ 73 ∷ 36 ∷ 139 ∷ 126 ∷ 253 ∷ 8 ∷ 159 ∷ 194 ∷ 113 ∷ 172 ∷ []

abbrev signer-leaf-commitments : List ℕ
signer-leaf-commitments = 10 ∷ 92 ∷ 56 ∷ 158 ∷ 142 ∷ 8 ∷ 12 ∷ 154 ∷ 178 ∷ 84 ∷ 128 ∷ 54 ∷ 118 ∷ 64 ∷ 148 ∷ 114 ∷ 218 ∷ 204 ∷ 72 ∷ 78 ∷ 222 ∷ 248 ∷ 156 ∷ 202 ∷ 130 ∷ 196 ∷ 144 ∷ 230 ∷ 198 ∷ 48 ∷ 36 ∷ 162 ∷ 170 ∷ 60 ∷ 88 ∷ 254 ∷ 46 ∷ 232 ∷ 44 ∷ 250 ∷ 82 ∷ 52 ∷ 160 ∷ 150 ∷ 22 ∷ 32 ∷ 180 ∷ 210 ∷ 122 ∷ 172 ∷ 104 ∷ 174 ∷ 126 ∷ 216 ∷ 188 ∷ 42 ∷ 34 ∷ 164 ∷ 176 ∷ 70 ∷ 102 ∷ 16 ∷ 68 ∷ 2 ∷ 58 ∷ 147 ∷ 132 ∷ 13 ∷ 46 ∷ 231 ∷ 56 ∷ 33 ∷ 162 ∷ 187 ∷ 108 ∷ 181 ∷ 150 ∷ 15 ∷ 32 ∷ 201 ∷ 10 ∷ 227 ∷ 84 ∷ 93 ∷ 254 ∷ 55 ∷ 8 ∷ 113 ∷ 114 ∷ 11 ∷ 60 ∷ 5 ∷ 102 ∷ 95 ∷ 240 ∷ 25 ∷ 218 ∷ 51 ∷ 36 ∷ 173 ∷ 206 ∷ 135 ∷ 216 ∷ 193 ∷ 66 ∷ 91 ∷ 12 ∷ 85 ∷ 54 ∷ 175 ∷ 192 ∷ 105 ∷ 170 ∷ 131 ∷ 244 ∷ 253 ∷ 158 ∷ 215 ∷ 168 ∷ 17 ∷ 18 ∷ 171 ∷ 220 ∷ 165 ∷ 6 ∷ 255 ∷ 144 ∷ 185 ∷ 170 ∷ 28 ∷ 88 ∷ 94 ∷ 46 ∷ 200 ∷ 44 ∷ 90 ∷ 82 ∷ 20 ∷ 160 ∷ 246 ∷ 22 ∷ 0 ∷ 180 ∷ 50 ∷ 122 ∷ 140 ∷ 104 ∷ 14 ∷ 126 ∷ 184 ∷ 188 ∷ 138 ∷ 34 ∷ 132 ∷ 176 ∷ 166 ∷ 102 ∷ 240 ∷ 68 ∷ 98 ∷ 74 ∷ 252 ∷ 120 ∷ 190 ∷ 206 ∷ 168 ∷ 76 ∷ 186 ∷ 242 ∷ 244 ∷ 192 ∷ 86 ∷ 182 ∷ 224 ∷ 212 ∷ 146 ∷ 26 ∷ 108 ∷ 136 ∷ 110 ∷ 30 ∷ 152 ∷ 220 ∷ 234 ∷ 194 ∷ 100 ∷ 208 ∷ 6 ∷ 6 ∷ 208 ∷ 100 ∷ 194 ∷ 170 ∷ 251 ∷ 212 ∷ 53 ∷ 30 ∷ 143 ∷ 136 ∷ 9 ∷ 18 ∷ 163 ∷ 188 ∷ 93 ∷ 134 ∷ 55 ∷ 112 ∷ 49 ∷ 122 ∷ 75 ∷ 164 ∷ 133 ∷ 238 ∷ 223 ∷ 88 ∷ 89 ∷ 226 ∷ 243 ∷ 140 ∷ 173 ∷ 86 ∷ 135 ∷ 64 ∷ 129 ∷ 74 ∷ 155 ∷ 116 ∷ 213 ∷ 190 ∷ 47 ∷ 40 ∷ 169 ∷ 178 ∷ 67 ∷ 92 ∷ 253 ∷ 38 ∷ 215 ∷ 16 ∷ 209 ∷ 26 ∷ 235 ∷ 68 ∷ 37 ∷ 142 ∷ 127 ∷ 248 ∷ 249 ∷ 130 ∷ 147 ∷ 44 ∷ 77 ∷ 246 ∷ 39 ∷ 224 ∷ 33 ∷ 17 ∷ 169 ∷ 87 ∷ 27 ∷ 245 ∷ 229 ∷ 235 ∷ 7 ∷ 57 ∷ 129 ∷ 223 ∷ 83 ∷ 221 ∷ 125 ∷ 51 ∷ 255 ∷ 225 ∷ 217 ∷ 231 ∷ 11 ∷ 69 ∷ 149 ∷ 251 ∷ 119 ∷ 9 ∷ 177 ∷ 111 ∷ 67 ∷ 45 ∷ 45 ∷ 67 ∷ 111 ∷ 177 ∷ 9 ∷ 119 ∷ 251 ∷ 149 ∷ 69 ∷ 11 ∷ 231 ∷ 217 ∷ 225 ∷ 255 ∷ 51 ∷ 125 ∷ 221 ∷ 83 ∷ 223 ∷ 129 ∷ 57 ∷ 7 ∷ 235 ∷ 229 ∷ 245 ∷ 27 ∷ 87 ∷ 169 ∷ 17 ∷ 143 ∷ 35 ∷ 205 ∷ 141 ∷ 99 ∷ 79 ∷ 65 ∷ 149 ∷ 119 ∷ 231 ∷ 229 ∷ 113 ∷ 139 ∷ 51 ∷ 105 ∷ 45 ∷ 127 ∷ 95 ∷ 205 ∷ 201 ∷ 83 ∷ 107 ∷ 17 ∷ 69 ∷ 7 ∷ 87 ∷ 53 ∷ 161 ∷ 155 ∷ 35 ∷ 57 ∷ 221 ∷ 15 ∷ 207 ∷ 29 ∷ 249 ∷ 99 ∷ 91 ∷ 225 ∷ 245 ∷ 151 ∷ 199 ∷ 133 ∷ 209 ∷ 171 ∷ 19 ∷ 9 ∷ 141 ∷ 159 ∷ 63 ∷ 109 ∷ 41 ∷ 115 ∷ 75 ∷ 177 ∷ 165 ∷ 39 ∷ 55 ∷ 213 ∷ 1 ∷ 187 ∷ 3 ∷ 217 ∷ 61 ∷ 47 ∷ 175 ∷ 189 ∷ 89 ∷ 131 ∷ 59 ∷ []

abbrev signer-u : List ℕ
signer-u = 208 ∷ 215 ∷ []

abbrev signer-v : List ℕ
signer-v = 176 ∷ 152 ∷ 0 ∷ 239 ∷ 42 ∷ 1 ∷ []

abbrev signer-corrections : List ℕ
signer-corrections = 243 ∷ 242 ∷ []

abbrev opening : List ℕ
opening = 170 ∷ 251 ∷ 212 ∷ 53 ∷ 30 ∷ 143 ∷ 136 ∷ 9 ∷ 18 ∷ 163 ∷ 188 ∷ 93 ∷ 134 ∷ 55 ∷ 112 ∷ 49 ∷ 122 ∷ 75 ∷ 164 ∷ 133 ∷ 238 ∷ 223 ∷ 88 ∷ 89 ∷ 226 ∷ 243 ∷ 140 ∷ 173 ∷ 86 ∷ 135 ∷ 64 ∷ 129 ∷ 74 ∷ 155 ∷ 116 ∷ 213 ∷ 190 ∷ 47 ∷ 40 ∷ 169 ∷ 178 ∷ 67 ∷ 92 ∷ 253 ∷ 38 ∷ 215 ∷ 16 ∷ 209 ∷ 26 ∷ 235 ∷ 68 ∷ 37 ∷ 142 ∷ 127 ∷ 248 ∷ 249 ∷ 130 ∷ 147 ∷ 44 ∷ 77 ∷ 246 ∷ 39 ∷ 224 ∷ 33 ∷ 17 ∷ 169 ∷ 87 ∷ 27 ∷ 245 ∷ 229 ∷ 235 ∷ 7 ∷ 57 ∷ 129 ∷ 223 ∷ 83 ∷ 221 ∷ 125 ∷ 51 ∷ 255 ∷ 225 ∷ 217 ∷ 231 ∷ 11 ∷ 69 ∷ 149 ∷ 251 ∷ 119 ∷ 9 ∷ 177 ∷ 111 ∷ 67 ∷ 45 ∷ 45 ∷ 67 ∷ 111 ∷ 177 ∷ 9 ∷ 119 ∷ 251 ∷ 149 ∷ 69 ∷ 11 ∷ 231 ∷ 217 ∷ 225 ∷ 255 ∷ 51 ∷ 125 ∷ 221 ∷ 83 ∷ 223 ∷ 129 ∷ 57 ∷ 7 ∷ 235 ∷ 229 ∷ 245 ∷ 27 ∷ 87 ∷ 169 ∷ 17 ∷ 143 ∷ 35 ∷ 205 ∷ 141 ∷ 99 ∷ 79 ∷ 51 ∷ 134 ∷ 101 ∷ 208 ∷ 199 ∷ 74 ∷ 89 ∷ 244 ∷ 27 ∷ 206 ∷ 13 ∷ 216 ∷ 47 ∷ 18 ∷ 129 ∷ 124 ∷ 3 ∷ 22 ∷ 181 ∷ 224 ∷ 151 ∷ 218 ∷ 169 ∷ 4 ∷ 235 ∷ 94 ∷ 93 ∷ 232 ∷ 255 ∷ 162 ∷ 209 ∷ 140 ∷ 53 ∷ 100 ∷ 215 ∷ 142 ∷ 137 ∷ 200 ∷ 75 ∷ 18 ∷ 29 ∷ 108 ∷ 255 ∷ 214 ∷ 241 ∷ 80 ∷ 243 ∷ 218 ∷ 5 ∷ 116 ∷ 39 ∷ 30 ∷ 89 ∷ 216 ∷ 155 ∷ 162 ∷ 237 ∷ 124 ∷ 79 ∷ 102 ∷ 193 ∷ 96 ∷ 67 ∷ 106 ∷ 46 ∷ 139 ∷ 136 ∷ 37 ∷ 98 ∷ 63 ∷ 188 ∷ 217 ∷ 150 ∷ 243 ∷ 240 ∷ 141 ∷ 202 ∷ 167 ∷ 36 ∷ 65 ∷ 254 ∷ 91 ∷ 88 ∷ 245 ∷ 50 ∷ 15 ∷ 140 ∷ 169 ∷ 102 ∷ 195 ∷ 192 ∷ 93 ∷ 154 ∷ 119 ∷ 244 ∷ 17 ∷ []

abbrev verifier-tree : List ℕ
verifier-tree = 0 ∷ 0 ∷ 0 ∷ 0 ∷ 0 ∷ 0 ∷ 0 ∷ 0 ∷ 0 ∷ 0 ∷ 0 ∷ 0 ∷ 0 ∷ 0 ∷ 0 ∷ 0 ∷ 0 ∷ 0 ∷ 0 ∷ 0 ∷ 0 ∷ 0 ∷ 0 ∷ 0 ∷ 0 ∷ 0 ∷ 0 ∷ 0 ∷ 0 ∷ 0 ∷ 0 ∷ 0 ∷ 0 ∷ 0 ∷ 0 ∷ 0 ∷ 0 ∷ 0 ∷ 0 ∷ 0 ∷ 0 ∷ 0 ∷ 0 ∷ 0 ∷ 0 ∷ 0 ∷ 0 ∷ 0 ∷ 0 ∷ 0 ∷ 0 ∷ 0 ∷ 0 ∷ 0 ∷ 0 ∷ 0 ∷ 0 ∷ 0 ∷ 0 ∷ 0 ∷ 0 ∷ 0 ∷ 0 ∷ 0 ∷ 0 ∷ 0 ∷ 0 ∷ 0 ∷ 0 ∷ 0 ∷ 0 ∷ 0 ∷ 0 ∷ 0 ∷ 0 ∷ 0 ∷ 0 ∷ 0 ∷ 0 ∷ 0 ∷ 0 ∷ 0 ∷ 0 ∷ 0 ∷ 0 ∷ 0 ∷ 0 ∷ 0 ∷ 0 ∷ 0 ∷ 0 ∷ 0 ∷ 0 ∷ 0 ∷ 0 ∷ 0 ∷ 46 ∷ 139 ∷ 136 ∷ 37 ∷ 98 ∷ 63 ∷ 188 ∷ 217 ∷ 150 ∷ 243 ∷ 240 ∷ 141 ∷ 202 ∷ 167 ∷ 36 ∷ 65 ∷ 254 ∷ 91 ∷ 88 ∷ 245 ∷ 50 ∷ 15 ∷ 140 ∷ 169 ∷ 102 ∷ 195 ∷ 192 ∷ 93 ∷ 154 ∷ 119 ∷ 244 ∷ 17 ∷ 0 ∷ 0 ∷ 0 ∷ 0 ∷ 0 ∷ 0 ∷ 0 ∷ 0 ∷ 0 ∷ 0 ∷ 0 ∷ 0 ∷ 0 ∷ 0 ∷ 0 ∷ 0 ∷ 0 ∷ 0 ∷ 0 ∷ 0 ∷ 0 ∷ 0 ∷ 0 ∷ 0 ∷ 0 ∷ 0 ∷ 0 ∷ 0 ∷ 0 ∷ 0 ∷ 0 ∷ 0 ∷ 53 ∷ 100 ∷ 215 ∷ 142 ∷ 137 ∷ 200 ∷ 75 ∷ 18 ∷ 29 ∷ 108 ∷ 255 ∷ 214 ∷ 241 ∷ 80 ∷ 243 ∷ 218 ∷ 5 ∷ 116 ∷ 39 ∷ 30 ∷ 89 ∷ 216 ∷ 155 ∷ 162 ∷ 237 ∷ 124 ∷ 79 ∷ 102 ∷ 193 ∷ 96 ∷ 67 ∷ 106 ∷ 0 ∷ 0 ∷ 0 ∷ 0 ∷ 0 ∷ 0 ∷ 0 ∷ 0 ∷ 0 ∷ 0 ∷ 0 ∷ 0 ∷ 0 ∷ 0 ∷ 0 ∷ 0 ∷ 0 ∷ 0 ∷ 0 ∷ 0 ∷ 0 ∷ 0 ∷ 0 ∷ 0 ∷ 0 ∷ 0 ∷ 0 ∷ 0 ∷ 0 ∷ 0 ∷ 0 ∷ 0 ∷ 44 ∷ 143 ∷ 158 ∷ 89 ∷ 192 ∷ 211 ∷ 146 ∷ 253 ∷ 20 ∷ 215 ∷ 70 ∷ 97 ∷ 40 ∷ 155 ∷ 186 ∷ 133 ∷ 252 ∷ 31 ∷ 238 ∷ 105 ∷ 144 ∷ 99 ∷ 226 ∷ 13 ∷ 228 ∷ 103 ∷ 150 ∷ 113 ∷ 248 ∷ 43 ∷ 10 ∷ 149 ∷ 204 ∷ 175 ∷ 62 ∷ 121 ∷ 96 ∷ 243 ∷ 50 ∷ 29 ∷ 180 ∷ 247 ∷ 230 ∷ 129 ∷ 200 ∷ 187 ∷ 90 ∷ 165 ∷ 156 ∷ 63 ∷ 142 ∷ 137 ∷ 48 ∷ 131 ∷ 130 ∷ 45 ∷ 132 ∷ 135 ∷ 54 ∷ 145 ∷ 152 ∷ 75 ∷ 170 ∷ 181 ∷ 51 ∷ 134 ∷ 101 ∷ 208 ∷ 199 ∷ 74 ∷ 89 ∷ 244 ∷ 27 ∷ 206 ∷ 13 ∷ 216 ∷ 47 ∷ 18 ∷ 129 ∷ 124 ∷ 3 ∷ 22 ∷ 181 ∷ 224 ∷ 151 ∷ 218 ∷ 169 ∷ 4 ∷ 235 ∷ 94 ∷ 93 ∷ 232 ∷ 255 ∷ 162 ∷ 209 ∷ 140 ∷ 0 ∷ 0 ∷ 0 ∷ 0 ∷ 0 ∷ 0 ∷ 0 ∷ 0 ∷ 0 ∷ 0 ∷ 0 ∷ 0 ∷ 0 ∷ 0 ∷ 0 ∷ 0 ∷ 0 ∷ 0 ∷ 0 ∷ 0 ∷ 0 ∷ 0 ∷ 0 ∷ 0 ∷ 0 ∷ 0 ∷ 0 ∷ 0 ∷ 0 ∷ 0 ∷ 0 ∷ 0 ∷ []

abbrev verifier-q : List ℕ
verifier-q = 96 ∷ 79 ∷ 208 ∷ 56 ∷ 42 ∷ 1 ∷ []

pub commits : committed (stand_in_of 32) shape whole root iv
    ≡ record {
      commitment = signer-commitment;
      tree = signer-tree;
      leaf_commitments = signer-leaf-commitments;
      u = signer-u;
      v = signer-v ++ zeros (2 * 253);
      corrections = signer-corrections;
    }
unfolding tabulate concat zeros level node_bytes leaf_commitment_bytes deeper depth_of entries_of leaves leaf_of prg node_at leaf_key expand_tree children stretched leaf_seed hash_key leaf_commitment vector_commitments leaf_commitments vector_hash commitment_of xor_below row_byte stretch_byte column_byte matrix_of u_byte signer_tree signer_leaf_commitment signer_u signer_column correction corrections committed
commits = refl

pub opens : opening_of shape challenge signer-tree signer-leaf-commitments ≡ opening
unfolding tabulate concat zeros level node_bytes leaf_commitment_bytes deeper depth_of leaves leaf_of first_entry node_at number bit_at bits_at index_at first_bit hidden_index parent is_ancestor_within is_ancestor some covered sibling_to_reveal revealed_from revealed node_count hidden_leaf hidden_leaves planned planned_count leaf_commitment_at opening_of
opens = refl

pub reconstructs : reconstructed (stand_in_of 32) shape whole iv challenge signer-corrections opening
    ≡ record { commitment = signer-commitment; tree = verifier-tree; leaf_commitments = signer-leaf-commitments; q = verifier-q ++ zeros (2 * 253) }
unfolding tabulate concat zeros level node_bytes leaf_commitment_bytes deeper depth_of entries_of leaves leaf_of prg node_at leaf_key expand_tree children stretched leaf_seed hash_key leaf_commitment vector_commitments leaf_commitments vector_hash commitment_of xor_below row_byte stretch_byte column_byte matrix_of number bit_at bits_at index_at first_bit hidden_index parent is_ancestor_within is_ancestor some covered sibling_to_reveal revealed_from revealed node_count hidden_leaf hidden_leaves planned planned_count index_of slot given_node reconstructed_children reconstructed_tree hidden_leaf_commitment verifier_leaf_commitment correction_byte verifier_column reconstructed
reconstructs = refl
