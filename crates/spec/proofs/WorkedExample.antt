-- Commit, open and reconstruct of three vectors in a tree of four levels, with rows of two bytes and two slots unused, over the stand-in primitives: every
-- byte of every buffer; and of the calls with the last byte of each row what differs. The lists are those that reference/worked_example.py derives. By computing, each buffer from the tree as it is listed.
use Prim.Native.Nat.{ℕ, ◌*◌}
use mathlib.Core.Path.{◌≡◌, refl, ap, ◌∙◌}
use mathlib.Core.List.{List, [], ◌∷◌, ◌++◌}
use Rattle.spec.specs.declared.Shape.{Shape}
use Rattle.spec.specs.declared.Stretch.{Stretch}
use Rattle.spec.specs.Bytes.{tabulate, concat, zeros, xor_below, number, index_of}
use Rattle.spec.specs.Tree.{parent, is_ancestor_within, is_ancestor, some, covered, sibling_to_reveal, revealed_from, revealed, node_count, expand_tree}
use Rattle.spec.specs.Challenge.{bit_at, bits_at, index_at}
use Rattle.spec.specs.Shapes.{level, node_bytes, leaf_commitment_bytes, deeper, depth_of, entries_of, first_bit, first_entry, leaves, leaf_of, hidden_index, hidden_leaf, hidden_leaves, planned, planned_count}
use Rattle.spec.specs.Primitives.{prg}
use Rattle.spec.specs.Leaves.{node_at, leaf_key, children, hash_key, stretched, leaf_seed, leaf_commitment, vector_commitments, leaf_commitments, vector_hash, commitment_of}
use Rattle.spec.specs.Rows.{row_byte, stretch_byte, u_byte, column_byte, matrix_of}
use Rattle.spec.specs.Signer.{signer_tree, signer_leaf_commitment, signer_u, signer_column, correction, corrections, leaf_commitment_at, opening_of}
use Rattle.spec.specs.Verifier.{hidden_leaf_commitment, slot, given_node, reconstructed_children, reconstructed_tree, verifier_leaf_commitment, correction_byte, verifier_column}
use Rattle.spec.specs.Calls.{committed, reconstructed}
use Rattle.spec.proofs.StandIns.{stand_in}

abbrev pub shape : Shape
shape = record { tau = 3; k = 2; w = 122; t = 7; level = 128; kind = 0 }

abbrev pub whole : Stretch
whole = record { first = 0; width = 2 }

-- the last byte of each row
abbrev pub last_byte : Stretch
last_byte = record { first = 1; width = 1 }

abbrev pub root : List ℕ
root = 1 ∷ 8 ∷ 15 ∷ 22 ∷ 29 ∷ 36 ∷ 43 ∷ 50 ∷ 57 ∷ 64 ∷ 71 ∷ 78 ∷ 85 ∷ 92 ∷ 99 ∷ 106 ∷ []

abbrev pub iv : List ℕ
iv = 3 ∷ 14 ∷ 25 ∷ 36 ∷ 47 ∷ 58 ∷ 69 ∷ 80 ∷ 91 ∷ 102 ∷ 113 ∷ 124 ∷ 135 ∷ 146 ∷ 157 ∷ 168 ∷ []

abbrev pub challenge : List ℕ
challenge = 30 ∷ 0 ∷ 0 ∷ 0 ∷ 0 ∷ 0 ∷ 0 ∷ 0 ∷ 0 ∷ 0 ∷ 0 ∷ 0 ∷ 0 ∷ 0 ∷ 0 ∷ 0 ∷ []

abbrev pub signer-commitment : List ℕ
signer-commitment = 231 ∷ 78 ∷ 181 ∷ 28 ∷ 131 ∷ 234 ∷ 81 ∷ 184 ∷ 31 ∷ 134 ∷ 237 ∷ 84 ∷ 187 ∷ 34 ∷ 137 ∷ 240 ∷ 87 ∷ 190 ∷ 37 ∷ 140 ∷ 243 ∷ 90 ∷ 193 ∷ 40 ∷ 143 ∷ 246 ∷ 93 ∷ 196 ∷ 43 ∷ 146 ∷ 249 ∷ 96 ∷ []

abbrev pub signer-tree : List ℕ
signer-tree = 1 ∷ 8 ∷ 15 ∷ 22 ∷ 29 ∷ 36 ∷ 43 ∷ 50 ∷ 57 ∷ 64 ∷ 71 ∷ 78 ∷ 85 ∷ 92 ∷ 99 ∷ 106 ∷ 192 ∷ 46 ∷ 94 ∷ 80 ∷ 4 ∷ 122 ∷ 178 ∷ 172 ∷ 104 ∷ 230 ∷ 38 ∷ 40 ∷ 236 ∷ 114 ∷ 186 ∷ 196 ∷ 144 ∷ 30 ∷ 110 ∷ 128 ∷ 84 ∷ 234 ∷ 66 ∷ 92 ∷ 56 ∷ 214 ∷ 54 ∷ 88 ∷ 60 ∷ 226 ∷ 74 ∷ 116 ∷ 55 ∷ 202 ∷ 105 ∷ 20 ∷ 203 ∷ 142 ∷ 93 ∷ 56 ∷ 31 ∷ 18 ∷ 17 ∷ 28 ∷ 51 ∷ 86 ∷ 133 ∷ 192 ∷ 7 ∷ 90 ∷ 185 ∷ 36 ∷ 155 ∷ 30 ∷ 173 ∷ 72 ∷ 239 ∷ 162 ∷ 97 ∷ 44 ∷ 3 ∷ 230 ∷ 213 ∷ 208 ∷ 190 ∷ 66 ∷ 180 ∷ 20 ∷ 98 ∷ 158 ∷ 200 ∷ 224 ∷ 230 ∷ 218 ∷ 188 ∷ 140 ∷ 74 ∷ 246 ∷ 144 ∷ 24 ∷ 142 ∷ 242 ∷ 68 ∷ 132 ∷ 178 ∷ 206 ∷ 216 ∷ 208 ∷ 182 ∷ 138 ∷ 76 ∷ 252 ∷ 154 ∷ 38 ∷ 160 ∷ 8 ∷ 245 ∷ 107 ∷ 179 ∷ 205 ∷ 185 ∷ 119 ∷ 7 ∷ 105 ∷ 157 ∷ 163 ∷ 123 ∷ 37 ∷ 161 ∷ 239 ∷ 15 ∷ 1 ∷ 197 ∷ 91 ∷ 195 ∷ 253 ∷ 9 ∷ 231 ∷ 151 ∷ 25 ∷ 109 ∷ 147 ∷ 139 ∷ 85 ∷ 241 ∷ 95 ∷ 159 ∷ 177 ∷ 124 ∷ 14 ∷ 170 ∷ 80 ∷ 0 ∷ 186 ∷ 126 ∷ 76 ∷ 36 ∷ 6 ∷ 242 ∷ 232 ∷ 232 ∷ 242 ∷ 6 ∷ 36 ∷ 76 ∷ 126 ∷ 186 ∷ 0 ∷ 80 ∷ 170 ∷ 14 ∷ 124 ∷ 244 ∷ 118 ∷ 2 ∷ 152 ∷ 56 ∷ 226 ∷ 150 ∷ 84 ∷ 83 ∷ 236 ∷ 157 ∷ 102 ∷ 71 ∷ 64 ∷ 81 ∷ 122 ∷ 187 ∷ 20 ∷ 133 ∷ 14 ∷ 175 ∷ 104 ∷ 57 ∷ 34 ∷ 35 ∷ 60 ∷ 109 ∷ 182 ∷ 23 ∷ 144 ∷ 33 ∷ 202 ∷ 139 ∷ 100 ∷ 85 ∷ 94 ∷ 127 ∷ 184 ∷ 9 ∷ 114 ∷ 218 ∷ 107 ∷ 4 ∷ 165 ∷ 78 ∷ 255 ∷ 184 ∷ 121 ∷ 66 ∷ 19 ∷ 236 ∷ 205 ∷ 182 ∷ 167 ∷ 160 ∷ 161 ∷ 170 ∷ 187 ∷ 212 ∷ 245 ∷ 30 ∷ 79 ∷ 136 ∷ 201 ∷ 18 ∷ 99 ∷ 188 ∷ 29 ∷ 134 ∷ 247 ∷ 112 ∷ 241 ∷ 73 ∷ 204 ∷ 59 ∷ 150 ∷ 221 ∷ 16 ∷ 47 ∷ 58 ∷ 49 ∷ 20 ∷ 227 ∷ 158 ∷ 69 ∷ 216 ∷ 87 ∷ 194 ∷ 25 ∷ 92 ∷ 139 ∷ 166 ∷ 173 ∷ 160 ∷ 127 ∷ 74 ∷ 1 ∷ 164 ∷ 51 ∷ 174 ∷ 21 ∷ 104 ∷ 167 ∷ 210 ∷ 208 ∷ 100 ∷ 6 ∷ 182 ∷ 116 ∷ 64 ∷ 26 ∷ 2 ∷ 248 ∷ 252 ∷ 14 ∷ 46 ∷ 92 ∷ 152 ∷ 226 ∷ 58 ∷ 160 ∷ 20 ∷ 150 ∷ 38 ∷ 196 ∷ 112 ∷ 42 ∷ 242 ∷ 200 ∷ 172 ∷ 158 ∷ 158 ∷ 172 ∷ 200 ∷ 242 ∷ 42 ∷ 175 ∷ 56 ∷ 185 ∷ 50 ∷ 163 ∷ 12 ∷ 109 ∷ 198 ∷ 23 ∷ 96 ∷ 161 ∷ 218 ∷ 11 ∷ 52 ∷ 85 ∷ 110 ∷ 127 ∷ 136 ∷ 137 ∷ 130 ∷ 115 ∷ 92 ∷ 61 ∷ 22 ∷ 231 ∷ 176 ∷ 113 ∷ 42 ∷ 219 ∷ 132 ∷ 37 ∷ 190 ∷ 54 ∷ 190 ∷ 60 ∷ 176 ∷ 26 ∷ 122 ∷ 208 ∷ 28 ∷ 94 ∷ 150 ∷ 196 ∷ 232 ∷ 2 ∷ 18 ∷ 24 ∷ 20 ∷ 6 ∷ 238 ∷ 204 ∷ 160 ∷ 106 ∷ 42 ∷ 224 ∷ 140 ∷ 46 ∷ 198 ∷ 84 ∷ 216 ∷ 82 ∷ 194 ∷ 40 ∷ 132 ∷ []

abbrev pub signer-leaf-commitments : List ℕ
signer-leaf-commitments = 200 ∷ 71 ∷ 66 ∷ 65 ∷ 196 ∷ 59 ∷ 222 ∷ 53 ∷ 240 ∷ 239 ∷ 106 ∷ 233 ∷ 236 ∷ 35 ∷ 230 ∷ 29 ∷ 232 ∷ 231 ∷ 162 ∷ 225 ∷ 228 ∷ 187 ∷ 222 ∷ 181 ∷ 240 ∷ 79 ∷ 74 ∷ 73 ∷ 204 ∷ 195 ∷ 198 ∷ 93 ∷ 8 ∷ 135 ∷ 2 ∷ 129 ∷ 4 ∷ 187 ∷ 30 ∷ 181 ∷ 240 ∷ 239 ∷ 106 ∷ 233 ∷ 236 ∷ 163 ∷ 230 ∷ 221 ∷ 248 ∷ 45 ∷ 2 ∷ 35 ∷ 196 ∷ 233 ∷ 246 ∷ 159 ∷ 80 ∷ 213 ∷ 106 ∷ 27 ∷ 252 ∷ 193 ∷ 222 ∷ 135 ∷ 248 ∷ 109 ∷ 226 ∷ 35 ∷ 100 ∷ 105 ∷ 54 ∷ 255 ∷ 80 ∷ 245 ∷ 74 ∷ 123 ∷ 124 ∷ 129 ∷ 222 ∷ 7 ∷ 248 ∷ 109 ∷ 66 ∷ 227 ∷ 132 ∷ 41 ∷ 118 ∷ 159 ∷ 16 ∷ 213 ∷ 234 ∷ 27 ∷ 252 ∷ 193 ∷ 30 ∷ 135 ∷ 200 ∷ 255 ∷ 194 ∷ 65 ∷ 68 ∷ 203 ∷ 94 ∷ 77 ∷ 208 ∷ 215 ∷ 170 ∷ 89 ∷ 172 ∷ 163 ∷ 166 ∷ 101 ∷ 232 ∷ 255 ∷ 226 ∷ 161 ∷ 100 ∷ 235 ∷ 94 ∷ 173 ∷ 208 ∷ 215 ∷ 202 ∷ 89 ∷ 76 ∷ 195 ∷ 70 ∷ 69 ∷ 8 ∷ 255 ∷ 2 ∷ 1 ∷ 4 ∷ 11 ∷ 30 ∷ 13 ∷ 16 ∷ 23 ∷ 42 ∷ 25 ∷ 44 ∷ 35 ∷ 38 ∷ 101 ∷ 200 ∷ 139 ∷ 66 ∷ 1 ∷ 196 ∷ 191 ∷ 78 ∷ 21 ∷ 176 ∷ 147 ∷ 218 ∷ 105 ∷ 236 ∷ 103 ∷ 38 ∷ 61 ∷ 168 ∷ 107 ∷ 226 ∷ 97 ∷ 228 ∷ 127 ∷ 238 ∷ 85 ∷ 176 ∷ 211 ∷ 90 ∷ 73 ∷ 204 ∷ 199 ∷ 70 ∷ 125 ∷ 8 ∷ 203 ∷ 130 ∷ 193 ∷ 4 ∷ 63 ∷ 142 ∷ 85 ∷ 48 ∷ 211 ∷ 154 ∷ 233 ∷ 236 ∷ 231 ∷ 166 ∷ 189 ∷ 72 ∷ 87 ∷ 146 ∷ 17 ∷ 180 ∷ 187 ∷ 230 ∷ 133 ∷ 224 ∷ 95 ∷ 122 ∷ 9 ∷ 172 ∷ 51 ∷ 206 ∷ 109 ∷ 40 ∷ 247 ∷ 210 ∷ 241 ∷ 52 ∷ 27 ∷ 198 ∷ 133 ∷ 192 ∷ 255 ∷ 58 ∷ 137 ∷ 76 ∷ 19 ∷ 238 ∷ 173 ∷ 136 ∷ 87 ∷ 82 ∷ 17 ∷ 52 ∷ 123 ∷ 102 ∷ 133 ∷ 224 ∷ 95 ∷ 250 ∷ 9 ∷ 44 ∷ 243 ∷ 142 ∷ 173 ∷ 200 ∷ 87 ∷ 146 ∷ 241 ∷ 116 ∷ 203 ∷ 102 ∷ 133 ∷ 32 ∷ 79 ∷ 250 ∷ 57 ∷ 108 ∷ 83 ∷ 78 ∷ 189 ∷ 232 ∷ 55 ∷ 82 ∷ 145 ∷ 244 ∷ 11 ∷ 70 ∷ 133 ∷ 64 ∷ 15 ∷ 58 ∷ 153 ∷ 204 ∷ 51 ∷ 110 ∷ 157 ∷ 136 ∷ 215 ∷ 210 ∷ 49 ∷ 116 ∷ 75 ∷ 230 ∷ 133 ∷ 160 ∷ 207 ∷ 122 ∷ 249 ∷ 108 ∷ 211 ∷ 142 ∷ 125 ∷ 72 ∷ 43 ∷ 242 ∷ 81 ∷ 84 ∷ 143 ∷ 166 ∷ 197 ∷ 224 ∷ 3 ∷ 42 ∷ 89 ∷ 172 ∷ 183 ∷ 94 ∷ 61 ∷ 104 ∷ 107 ∷ 178 ∷ 49 ∷ 212 ∷ 143 ∷ 198 ∷ 5 ∷ 192 ∷ 131 ∷ 202 ∷ 57 ∷ 204 ∷ 151 ∷ 94 ∷ 29 ∷ 136 ∷ 107 ∷ 114 ∷ 209 ∷ 20 ∷ 143 ∷ 38 ∷ 69 ∷ 224 ∷ 3 ∷ 170 ∷ 217 ∷ 44 ∷ 247 ∷ 30 ∷ 253 ∷ 72 ∷ 251 ∷ 242 ∷ 81 ∷ 244 ∷ 247 ∷ 166 ∷ 205 ∷ 224 ∷ 131 ∷ 42 ∷ 201 ∷ 236 ∷ 15 ∷ 94 ∷ 213 ∷ 40 ∷ 155 ∷ 178 ∷ 49 ∷ 116 ∷ 151 ∷ 198 ∷ 13 ∷ 192 ∷ 131 ∷ 202 ∷ 9 ∷ 76 ∷ 143 ∷ 94 ∷ 53 ∷ 136 ∷ 187 ∷ 114 ∷ 209 ∷ 244 ∷ 55 ∷ 38 ∷ 77 ∷ 224 ∷ 131 ∷ 170 ∷ 73 ∷ 236 ∷ 15 ∷ 30 ∷ 85 ∷ 184 ∷ 197 ∷ 30 ∷ 159 ∷ 44 ∷ 121 ∷ 170 ∷ 19 ∷ 144 ∷ 221 ∷ 54 ∷ 167 ∷ 4 ∷ 225 ∷ 66 ∷ 43 ∷ 184 ∷ 133 ∷ 94 ∷ 63 ∷ 76 ∷ 153 ∷ 202 ∷ 51 ∷ 80 ∷ 189 ∷ 246 ∷ 103 ∷ 36 ∷ 161 ∷ 162 ∷ 107 ∷ 56 ∷ 69 ∷ 94 ∷ 159 ∷ 172 ∷ 57 ∷ 42 ∷ 19 ∷ 80 ∷ 93 ∷ 182 ∷ 103 ∷ 68 ∷ 33 ∷ 2 ∷ 235 ∷ 104 ∷ 219 ∷ 166 ∷ 225 ∷ 124 ∷ 39 ∷ 154 ∷ 45 ∷ 112 ∷ 115 ∷ 142 ∷ 121 ∷ 132 ∷ 63 ∷ 130 ∷ 5 ∷ 72 ∷ 91 ∷ 70 ∷ 65 ∷ 124 ∷ 71 ∷ 218 ∷ 205 ∷ 112 ∷ 243 ∷ 110 ∷ 249 ∷ 100 ∷ 63 ∷ 226 ∷ 37 ∷ 104 ∷ 155 ∷ 38 ∷ 225 ∷ 124 ∷ 167 ∷ 218 ∷ 173 ∷ 112 ∷ 115 ∷ 78 ∷ 121 ∷ 68 ∷ 191 ∷ 194 ∷ 69 ∷ 232 ∷ 47 ∷ 38 ∷ 161 ∷ 188 ∷ 219 ∷ 42 ∷ 189 ∷ 240 ∷ 119 ∷ 62 ∷ 201 ∷ 132 ∷ 67 ∷ 2 ∷ 197 ∷ 200 ∷ 79 ∷ 198 ∷ 193 ∷ 60 ∷ 91 ∷ 202 ∷ 253 ∷ 240 ∷ 183 ∷ 62 ∷ 105 ∷ 36 ∷ 99 ∷ 34 ∷ 165 ∷ 232 ∷ 175 ∷ 166 ∷ 33 ∷ 60 ∷ 155 ∷ 170 ∷ 61 ∷ 240 ∷ 247 ∷ 190 ∷ 9 ∷ 68 ∷ 131 ∷ 66 ∷ 5 ∷ 168 ∷ 77 ∷ 46 ∷ 7 ∷ 28 ∷ 73 ∷ 250 ∷ 147 ∷ 176 ∷ 213 ∷ 118 ∷ 31 ∷ 4 ∷ 33 ∷ 194 ∷ 91 ∷ 72 ∷ 141 ∷ 206 ∷ 7 ∷ 220 ∷ 137 ∷ 186 ∷ 51 ∷ 48 ∷ 181 ∷ 182 ∷ 63 ∷ 36 ∷ 161 ∷ 226 ∷ 123 ∷ 40 ∷ 205 ∷ 174 ∷ 7 ∷ 92 ∷ 201 ∷ 122 ∷ 147 ∷ 48 ∷ 85 ∷ 246 ∷ 31 ∷ 68 ∷ 225 ∷ 2 ∷ 91 ∷ []

abbrev pub signer-u : List ℕ
signer-u = 175 ∷ 228 ∷ []

abbrev pub signer-v : List ℕ
signer-v = 88 ∷ 204 ∷ 48 ∷ 9 ∷ 112 ∷ 169 ∷ 81 ∷ 181 ∷ 136 ∷ 136 ∷ 139 ∷ 129 ∷ []

abbrev pub signer-corrections : List ℕ
signer-corrections = 190 ∷ 30 ∷ 140 ∷ 137 ∷ []

abbrev pub opening : List ℕ
opening = 200 ∷ 255 ∷ 194 ∷ 65 ∷ 68 ∷ 203 ∷ 94 ∷ 77 ∷ 208 ∷ 215 ∷ 170 ∷ 89 ∷ 172 ∷ 163 ∷ 166 ∷ 101 ∷ 232 ∷ 255 ∷ 226 ∷ 161 ∷ 100 ∷ 235 ∷ 94 ∷ 173 ∷ 208 ∷ 215 ∷ 202 ∷ 89 ∷ 76 ∷ 195 ∷ 70 ∷ 69 ∷ 8 ∷ 255 ∷ 2 ∷ 1 ∷ 4 ∷ 11 ∷ 30 ∷ 13 ∷ 16 ∷ 23 ∷ 42 ∷ 25 ∷ 44 ∷ 35 ∷ 38 ∷ 101 ∷ 72 ∷ 251 ∷ 242 ∷ 81 ∷ 244 ∷ 247 ∷ 166 ∷ 205 ∷ 224 ∷ 131 ∷ 42 ∷ 201 ∷ 236 ∷ 15 ∷ 94 ∷ 213 ∷ 40 ∷ 155 ∷ 178 ∷ 49 ∷ 116 ∷ 151 ∷ 198 ∷ 13 ∷ 192 ∷ 131 ∷ 202 ∷ 9 ∷ 76 ∷ 143 ∷ 94 ∷ 53 ∷ 136 ∷ 187 ∷ 114 ∷ 209 ∷ 244 ∷ 55 ∷ 38 ∷ 77 ∷ 224 ∷ 131 ∷ 170 ∷ 73 ∷ 236 ∷ 15 ∷ 30 ∷ 85 ∷ 104 ∷ 219 ∷ 166 ∷ 225 ∷ 124 ∷ 39 ∷ 154 ∷ 45 ∷ 112 ∷ 115 ∷ 142 ∷ 121 ∷ 132 ∷ 63 ∷ 130 ∷ 5 ∷ 72 ∷ 91 ∷ 70 ∷ 65 ∷ 124 ∷ 71 ∷ 218 ∷ 205 ∷ 112 ∷ 243 ∷ 110 ∷ 249 ∷ 100 ∷ 63 ∷ 226 ∷ 37 ∷ 104 ∷ 155 ∷ 38 ∷ 225 ∷ 124 ∷ 167 ∷ 218 ∷ 173 ∷ 112 ∷ 115 ∷ 78 ∷ 121 ∷ 68 ∷ 191 ∷ 194 ∷ 69 ∷ 6 ∷ 238 ∷ 204 ∷ 160 ∷ 106 ∷ 42 ∷ 224 ∷ 140 ∷ 46 ∷ 198 ∷ 84 ∷ 216 ∷ 82 ∷ 194 ∷ 40 ∷ 132 ∷ 160 ∷ 20 ∷ 150 ∷ 38 ∷ 196 ∷ 112 ∷ 42 ∷ 242 ∷ 200 ∷ 172 ∷ 158 ∷ 158 ∷ 172 ∷ 200 ∷ 242 ∷ 42 ∷ 73 ∷ 204 ∷ 59 ∷ 150 ∷ 221 ∷ 16 ∷ 47 ∷ 58 ∷ 49 ∷ 20 ∷ 227 ∷ 158 ∷ 69 ∷ 216 ∷ 87 ∷ 194 ∷ 124 ∷ 14 ∷ 170 ∷ 80 ∷ 0 ∷ 186 ∷ 126 ∷ 76 ∷ 36 ∷ 6 ∷ 242 ∷ 232 ∷ 232 ∷ 242 ∷ 6 ∷ 36 ∷ 144 ∷ 30 ∷ 110 ∷ 128 ∷ 84 ∷ 234 ∷ 66 ∷ 92 ∷ 56 ∷ 214 ∷ 54 ∷ 88 ∷ 60 ∷ 226 ∷ 74 ∷ 116 ∷ 0 ∷ 0 ∷ 0 ∷ 0 ∷ 0 ∷ 0 ∷ 0 ∷ 0 ∷ 0 ∷ 0 ∷ 0 ∷ 0 ∷ 0 ∷ 0 ∷ 0 ∷ 0 ∷ 0 ∷ 0 ∷ 0 ∷ 0 ∷ 0 ∷ 0 ∷ 0 ∷ 0 ∷ 0 ∷ 0 ∷ 0 ∷ 0 ∷ 0 ∷ 0 ∷ 0 ∷ 0 ∷ []

abbrev pub verifier-tree : List ℕ
verifier-tree = 0 ∷ 0 ∷ 0 ∷ 0 ∷ 0 ∷ 0 ∷ 0 ∷ 0 ∷ 0 ∷ 0 ∷ 0 ∷ 0 ∷ 0 ∷ 0 ∷ 0 ∷ 0 ∷ 0 ∷ 0 ∷ 0 ∷ 0 ∷ 0 ∷ 0 ∷ 0 ∷ 0 ∷ 0 ∷ 0 ∷ 0 ∷ 0 ∷ 0 ∷ 0 ∷ 0 ∷ 0 ∷ 144 ∷ 30 ∷ 110 ∷ 128 ∷ 84 ∷ 234 ∷ 66 ∷ 92 ∷ 56 ∷ 214 ∷ 54 ∷ 88 ∷ 60 ∷ 226 ∷ 74 ∷ 116 ∷ 0 ∷ 0 ∷ 0 ∷ 0 ∷ 0 ∷ 0 ∷ 0 ∷ 0 ∷ 0 ∷ 0 ∷ 0 ∷ 0 ∷ 0 ∷ 0 ∷ 0 ∷ 0 ∷ 0 ∷ 0 ∷ 0 ∷ 0 ∷ 0 ∷ 0 ∷ 0 ∷ 0 ∷ 0 ∷ 0 ∷ 0 ∷ 0 ∷ 0 ∷ 0 ∷ 0 ∷ 0 ∷ 190 ∷ 66 ∷ 180 ∷ 20 ∷ 98 ∷ 158 ∷ 200 ∷ 224 ∷ 230 ∷ 218 ∷ 188 ∷ 140 ∷ 74 ∷ 246 ∷ 144 ∷ 24 ∷ 142 ∷ 242 ∷ 68 ∷ 132 ∷ 178 ∷ 206 ∷ 216 ∷ 208 ∷ 182 ∷ 138 ∷ 76 ∷ 252 ∷ 154 ∷ 38 ∷ 160 ∷ 8 ∷ 0 ∷ 0 ∷ 0 ∷ 0 ∷ 0 ∷ 0 ∷ 0 ∷ 0 ∷ 0 ∷ 0 ∷ 0 ∷ 0 ∷ 0 ∷ 0 ∷ 0 ∷ 0 ∷ 0 ∷ 0 ∷ 0 ∷ 0 ∷ 0 ∷ 0 ∷ 0 ∷ 0 ∷ 0 ∷ 0 ∷ 0 ∷ 0 ∷ 0 ∷ 0 ∷ 0 ∷ 0 ∷ 124 ∷ 14 ∷ 170 ∷ 80 ∷ 0 ∷ 186 ∷ 126 ∷ 76 ∷ 36 ∷ 6 ∷ 242 ∷ 232 ∷ 232 ∷ 242 ∷ 6 ∷ 36 ∷ 0 ∷ 0 ∷ 0 ∷ 0 ∷ 0 ∷ 0 ∷ 0 ∷ 0 ∷ 0 ∷ 0 ∷ 0 ∷ 0 ∷ 0 ∷ 0 ∷ 0 ∷ 0 ∷ 83 ∷ 236 ∷ 157 ∷ 102 ∷ 71 ∷ 64 ∷ 81 ∷ 122 ∷ 187 ∷ 20 ∷ 133 ∷ 14 ∷ 175 ∷ 104 ∷ 57 ∷ 34 ∷ 35 ∷ 60 ∷ 109 ∷ 182 ∷ 23 ∷ 144 ∷ 33 ∷ 202 ∷ 139 ∷ 100 ∷ 85 ∷ 94 ∷ 127 ∷ 184 ∷ 9 ∷ 114 ∷ 218 ∷ 107 ∷ 4 ∷ 165 ∷ 78 ∷ 255 ∷ 184 ∷ 121 ∷ 66 ∷ 19 ∷ 236 ∷ 205 ∷ 182 ∷ 167 ∷ 160 ∷ 161 ∷ 170 ∷ 187 ∷ 212 ∷ 245 ∷ 30 ∷ 79 ∷ 136 ∷ 201 ∷ 18 ∷ 99 ∷ 188 ∷ 29 ∷ 134 ∷ 247 ∷ 112 ∷ 241 ∷ 73 ∷ 204 ∷ 59 ∷ 150 ∷ 221 ∷ 16 ∷ 47 ∷ 58 ∷ 49 ∷ 20 ∷ 227 ∷ 158 ∷ 69 ∷ 216 ∷ 87 ∷ 194 ∷ 0 ∷ 0 ∷ 0 ∷ 0 ∷ 0 ∷ 0 ∷ 0 ∷ 0 ∷ 0 ∷ 0 ∷ 0 ∷ 0 ∷ 0 ∷ 0 ∷ 0 ∷ 0 ∷ 0 ∷ 0 ∷ 0 ∷ 0 ∷ 0 ∷ 0 ∷ 0 ∷ 0 ∷ 0 ∷ 0 ∷ 0 ∷ 0 ∷ 0 ∷ 0 ∷ 0 ∷ 0 ∷ 160 ∷ 20 ∷ 150 ∷ 38 ∷ 196 ∷ 112 ∷ 42 ∷ 242 ∷ 200 ∷ 172 ∷ 158 ∷ 158 ∷ 172 ∷ 200 ∷ 242 ∷ 42 ∷ 175 ∷ 56 ∷ 185 ∷ 50 ∷ 163 ∷ 12 ∷ 109 ∷ 198 ∷ 23 ∷ 96 ∷ 161 ∷ 218 ∷ 11 ∷ 52 ∷ 85 ∷ 110 ∷ 127 ∷ 136 ∷ 137 ∷ 130 ∷ 115 ∷ 92 ∷ 61 ∷ 22 ∷ 231 ∷ 176 ∷ 113 ∷ 42 ∷ 219 ∷ 132 ∷ 37 ∷ 190 ∷ 0 ∷ 0 ∷ 0 ∷ 0 ∷ 0 ∷ 0 ∷ 0 ∷ 0 ∷ 0 ∷ 0 ∷ 0 ∷ 0 ∷ 0 ∷ 0 ∷ 0 ∷ 0 ∷ 6 ∷ 238 ∷ 204 ∷ 160 ∷ 106 ∷ 42 ∷ 224 ∷ 140 ∷ 46 ∷ 198 ∷ 84 ∷ 216 ∷ 82 ∷ 194 ∷ 40 ∷ 132 ∷ []

abbrev pub verifier-q : List ℕ
verifier-q = 88 ∷ 204 ∷ 159 ∷ 237 ∷ 223 ∷ 77 ∷ 254 ∷ 81 ∷ 39 ∷ 108 ∷ 139 ∷ 129 ∷ []

-- of u, V, the corrections and Q the last byte of each string of two
abbrev pub last-u : List ℕ
last-u = 228 ∷ []

abbrev pub last-v : List ℕ
last-v = 204 ∷ 9 ∷ 169 ∷ 181 ∷ 136 ∷ 129 ∷ []

abbrev pub last-corrections : List ℕ
last-corrections = 30 ∷ 137 ∷ []

abbrev pub last-q : List ℕ
last-q = 204 ∷ 237 ∷ 77 ∷ 81 ∷ 108 ∷ 129 ∷ []

-- the stretch z of the rows of a tree
abbrev pub rows : Stretch → List ℕ → ℕ → ℕ → ℕ → ℕ
rows z tree = stretch_byte stand_in shape z iv tree

-- ---- commit

tree-of-root : signer_tree stand_in shape root iv ≡ signer-tree
unfolding tabulate expand_tree level node_bytes leaves prg children signer_tree deeper
tree-of-root = refl

commitments-of-tree : leaf_commitments shape (signer_leaf_commitment stand_in shape iv signer-tree) ≡ signer-leaf-commitments
unfolding tabulate level node_bytes leaf_commitment_bytes leaves leaf_of prg node_at leaf_key stretched leaf_seed concat depth_of entries_of hash_key leaf_commitment vector_commitments leaf_commitments signer_leaf_commitment deeper
commitments-of-tree = refl

hash-of-tree : commitment_of stand_in shape (signer_leaf_commitment stand_in shape iv signer-tree) ≡ signer-commitment
unfolding tabulate level node_bytes leaf_commitment_bytes leaves leaf_of prg node_at leaf_key stretched leaf_seed concat depth_of entries_of hash_key leaf_commitment vector_commitments vector_hash commitment_of signer_leaf_commitment deeper
hash-of-tree = refl

u-of-tree : signer_u shape 2 (rows whole signer-tree) ≡ signer-u
unfolding tabulate level node_bytes leaf_commitment_bytes leaves leaf_of prg node_at leaf_key stretched leaf_seed xor_below depth_of entries_of row_byte stretch_byte u_byte signer_u deeper
u-of-tree = refl

v-of-tree : matrix_of shape 2 (signer_column shape 2 (rows whole signer-tree)) ≡ signer-v ++ zeros (2 * 122)
unfolding tabulate level node_bytes leaf_commitment_bytes leaves leaf_of prg node_at leaf_key stretched leaf_seed xor_below depth_of entries_of row_byte stretch_byte concat zeros column_byte matrix_of signer_column deeper
v-of-tree = refl

corrections-of-tree : corrections shape 2 (rows whole signer-tree) ≡ signer-corrections
unfolding tabulate level node_bytes leaf_commitment_bytes leaves leaf_of prg node_at leaf_key stretched leaf_seed xor_below depth_of entries_of row_byte stretch_byte concat u_byte correction corrections deeper
corrections-of-tree = refl

pub commits :
    let x = committed stand_in shape whole root iv in
    (x.commitment ≡ signer-commitment)
    × (x.tree ≡ signer-tree)
    × (x.leaf_commitments ≡ signer-leaf-commitments)
    × (x.u ≡ signer-u)
    × (x.v ≡ signer-v ++ zeros (2 * 122))
    × (x.corrections ≡ signer-corrections)
unfolding committed
commits = (
  ap (λ (tree : List ℕ). commitment_of stand_in shape (signer_leaf_commitment stand_in shape iv tree)) tree-of-root ∙ hash-of-tree,
  tree-of-root,
  ap (λ (tree : List ℕ). leaf_commitments shape (signer_leaf_commitment stand_in shape iv tree)) tree-of-root ∙ commitments-of-tree,
  ap (λ (tree : List ℕ). signer_u shape 2 (rows whole tree)) tree-of-root ∙ u-of-tree,
  ap (λ (tree : List ℕ). matrix_of shape 2 (signer_column shape 2 (rows whole tree))) tree-of-root ∙ v-of-tree,
  ap (λ (tree : List ℕ). corrections shape 2 (rows whole tree)) tree-of-root ∙ corrections-of-tree,
)

-- ---- open

pub opens : opening_of shape challenge signer-tree signer-leaf-commitments ≡ opening
unfolding tabulate number bit_at bits_at index_at depth_of first_bit leaves leaf_of hidden_index parent is_ancestor_within is_ancestor some covered sibling_to_reveal revealed_from revealed node_count hidden_leaf hidden_leaves planned planned_count concat zeros level node_bytes leaf_commitment_bytes first_entry node_at leaf_commitment_at opening_of deeper
opens = refl

-- ---- reconstruct

tree-of-opening : reconstructed_tree stand_in shape iv challenge opening ≡ verifier-tree
unfolding tabulate number bit_at bits_at index_at depth_of first_bit leaves leaf_of hidden_index parent is_ancestor_within is_ancestor some covered sibling_to_reveal revealed_from revealed node_count hidden_leaf hidden_leaves planned planned_count zeros index_of expand_tree level node_bytes leaf_commitment_bytes prg children slot given_node reconstructed_children reconstructed_tree deeper
tree-of-opening = refl

commitments-again : leaf_commitments shape (verifier_leaf_commitment stand_in shape iv challenge opening verifier-tree) ≡ signer-leaf-commitments
unfolding tabulate level node_bytes leaf_commitment_bytes leaves leaf_of prg node_at leaf_key stretched leaf_seed concat depth_of entries_of hash_key leaf_commitment number bit_at bits_at index_at first_bit hidden_index hidden_leaf_commitment verifier_leaf_commitment vector_commitments leaf_commitments deeper
commitments-again = refl

hash-again : commitment_of stand_in shape (verifier_leaf_commitment stand_in shape iv challenge opening verifier-tree) ≡ signer-commitment
unfolding tabulate level node_bytes leaf_commitment_bytes leaves leaf_of prg node_at leaf_key stretched leaf_seed concat depth_of entries_of hash_key leaf_commitment number bit_at bits_at index_at first_bit hidden_index hidden_leaf_commitment verifier_leaf_commitment vector_commitments vector_hash commitment_of deeper
hash-again = refl

q-of-tree : matrix_of shape 2 (verifier_column shape 2 (rows whole verifier-tree) challenge signer-corrections) ≡ verifier-q ++ zeros (2 * 122)
unfolding tabulate level node_bytes leaf_commitment_bytes leaves leaf_of prg node_at leaf_key stretched leaf_seed xor_below depth_of entries_of row_byte stretch_byte number bit_at bits_at index_at first_bit hidden_index concat zeros column_byte matrix_of correction_byte verifier_column deeper
q-of-tree = refl

pub reconstructs :
    let x = reconstructed stand_in shape whole iv challenge signer-corrections opening in
    (x.commitment ≡ signer-commitment)
    × (x.tree ≡ verifier-tree)
    × (x.leaf_commitments ≡ signer-leaf-commitments)
    × (x.q ≡ verifier-q ++ zeros (2 * 122))
unfolding reconstructed
reconstructs = (
  ap (λ (tree : List ℕ). commitment_of stand_in shape (verifier_leaf_commitment stand_in shape iv challenge opening tree)) tree-of-opening ∙ hash-again,
  tree-of-opening,
  ap (λ (tree : List ℕ). leaf_commitments shape (verifier_leaf_commitment stand_in shape iv challenge opening tree)) tree-of-opening ∙ commitments-again,
  ap (λ (tree : List ℕ). matrix_of shape 2 (verifier_column shape 2 (rows whole tree) challenge signer-corrections)) tree-of-opening ∙ q-of-tree,
)

-- ---- of a stretch: the last byte of each row

last-u-of-tree : signer_u shape 1 (rows last_byte signer-tree) ≡ last-u
unfolding tabulate level node_bytes leaf_commitment_bytes leaves leaf_of prg node_at leaf_key stretched leaf_seed xor_below depth_of entries_of row_byte stretch_byte u_byte signer_u deeper
last-u-of-tree = refl

last-v-of-tree : matrix_of shape 1 (signer_column shape 1 (rows last_byte signer-tree)) ≡ last-v ++ zeros (1 * 122)
unfolding tabulate level node_bytes leaf_commitment_bytes leaves leaf_of prg node_at leaf_key stretched leaf_seed xor_below depth_of entries_of row_byte stretch_byte concat zeros column_byte matrix_of signer_column deeper
last-v-of-tree = refl

last-corrections-of-tree : corrections shape 1 (rows last_byte signer-tree) ≡ last-corrections
unfolding tabulate level node_bytes leaf_commitment_bytes leaves leaf_of prg node_at leaf_key stretched leaf_seed xor_below depth_of entries_of row_byte stretch_byte concat u_byte correction corrections deeper
last-corrections-of-tree = refl

last-q-of-tree : matrix_of shape 1 (verifier_column shape 1 (rows last_byte verifier-tree) challenge last-corrections) ≡ last-q ++ zeros (1 * 122)
unfolding tabulate level node_bytes leaf_commitment_bytes leaves leaf_of prg node_at leaf_key stretched leaf_seed xor_below depth_of entries_of row_byte stretch_byte number bit_at bits_at index_at first_bit hidden_index concat zeros column_byte matrix_of correction_byte verifier_column deeper
last-q-of-tree = refl

pub last-byte-of-rows :
    let x = committed stand_in shape last_byte root iv in
    let y = reconstructed stand_in shape last_byte iv challenge last-corrections opening in
    (x.u ≡ last-u)
    × (x.v ≡ last-v ++ zeros (1 * 122))
    × (x.corrections ≡ last-corrections)
    × (y.q ≡ last-q ++ zeros (1 * 122))
unfolding committed reconstructed
last-byte-of-rows = (
  ap (λ (tree : List ℕ). signer_u shape 1 (rows last_byte tree)) tree-of-root ∙ last-u-of-tree,
  ap (λ (tree : List ℕ). matrix_of shape 1 (signer_column shape 1 (rows last_byte tree))) tree-of-root ∙ last-v-of-tree,
  ap (λ (tree : List ℕ). corrections shape 1 (rows last_byte tree)) tree-of-root ∙ last-corrections-of-tree,
  ap (λ (tree : List ℕ). matrix_of shape 1 (verifier_column shape 1 (rows last_byte tree) challenge last-corrections)) tree-of-opening ∙ last-q-of-tree,
)
