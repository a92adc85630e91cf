-- Commit, open and reconstruct at level 192 with ordinary leaves, of two vectors of depths two and one, with rows of two bytes, over the stand-in primitives of crates/spec: every byte of
-- every buffer; the hidden entry of vector 0 is one of those behind the first 2^k. A width of another level, or of the other kind, gives other lists. They are those that
-- reference/worked_example.py derives. By computing.
use Prim.Native.Nat.{ℕ, ◌*◌}
use mathlib.Core.Path.{◌≡◌, refl}
use mathlib.Core.List.{List, [], ◌∷◌, ◌++◌}
use Rattle.spec.specs.declared.Shape.{Shape}
use Rattle.spec.specs.declared.Stretch.{Stretch}
use Rattle.spec.specs.Bytes.{tabulate, concat, zeros, xor_below, number, index_of}
use Rattle.spec.specs.Tree.{parent, is_ancestor_within, is_ancestor, some, covered, sibling_to_reveal, revealed_from, revealed, node_count, expand_tree}
use Rattle.spec.specs.Challenge.{bit_at, bits_at, index_at}
use Rattle.spec.specs.Shapes.{level, node_bytes, leaf_commitment_bytes, deeper, depth_of, entries_of, first_bit, first_entry, leaves, leaf_of, hidden_index, hidden_leaf, hidden_leaves, planned, planned_count}
use Rattle.spec.specs.Primitives.{prg}
use Rattle.spec.specs.Leaves.{node_at, leaf_key, children, hash_key, stretched, leaf_seed, leaf_commitment, vector_commitments, leaf_commitments, vector_hash, commitment_of}
use Rattle.spec.specs.Rows.{row_byte, stretch_byte, u_byte, column_byte, matrix_of}
use Rattle.spec.specs.Signer.{signer_tree, signer_leaf_commitment, signer_u, signer_column, correction, corrections, leaf_commitment_at, opening_of}
use Rattle.spec.specs.Verifier.{hidden_leaf_commitment, slot, given_node, reconstructed_children, reconstructed_tree, verifier_leaf_commitment, correction_byte, verifier_column}
use Rattle.spec.specs.Calls.{committed, reconstructed}
use Rattle.spec.proofs.StandIns.{stand_in_of}

abbrev shape : Shape
shape = record { tau = 2; k = 1; w = 189; t = 3; level = 192; kind = 0 }

abbrev whole : Stretch
whole = record { first = 0; width = 2 }

abbrev root : List ℕ
root = 1 ∷ 8 ∷ 15 ∷ 22 ∷ 29 ∷ 36 ∷ 43 ∷ 50 ∷ 57 ∷ 64 ∷ 71 ∷ 78 ∷ 85 ∷ 92 ∷ 99 ∷ 106 ∷ 113 ∷ 120 ∷ 127 ∷ 134 ∷ 141 ∷ 148 ∷ 155 ∷ 162 ∷ []

abbrev iv : List ℕ
iv = 3 ∷ 14 ∷ 25 ∷ 36 ∷ 47 ∷ 58 ∷ 69 ∷ 80 ∷ 91 ∷ 102 ∷ 113 ∷ 124 ∷ 135 ∷ 146 ∷ 157 ∷ 168 ∷ []

abbrev challenge : List ℕ
challenge = 6 ∷ 0 ∷ 0 ∷ 0 ∷ 0 ∷ 0 ∷ 0 ∷ 0 ∷ 0 ∷ 0 ∷ 0 ∷ 0 ∷ 0 ∷ 0 ∷ 0 ∷ 0 ∷ 0 ∷ 0 ∷ 0 ∷ 0 ∷ 0 ∷ 0 ∷ 0 ∷ 0 ∷ []

abbrev signer-commitment : List ℕ
signer-commitment = 187 ∷ 206 ∷ 225 ∷ 244 ∷ 7 ∷ 26 ∷ 45 ∷ 64 ∷ 83 ∷ 102 ∷ 121 ∷ 140 ∷ 159 ∷ 178 ∷ 197 ∷ 216 ∷ 235 ∷ 254 ∷ 17 ∷ 36 ∷ 55 ∷ 74 ∷ 93 ∷ 112 ∷ 131 ∷ 150 ∷ 169 ∷ 188 ∷ 207 ∷ 226 ∷ 245 ∷ 8 ∷ 27 ∷ 46 ∷ 65 ∷ 84 ∷ 103 ∷ 122 ∷ 141 ∷ 160 ∷ 179 ∷ 198 ∷ 217 ∷ 236 ∷ 255 ∷ 18 ∷ 37 ∷ 56 ∷ []

abbrev signer-tree : List ℕ
signer-tree = 1 ∷ 8 ∷ 15 ∷ 22 ∷ 29 ∷ 36 ∷ 43 ∷ 50 ∷ 57 ∷ 64 ∷ 71 ∷ 78 ∷ 85 ∷ 92 ∷ 99 ∷ 106 ∷ 113 ∷ 120 ∷ 127 ∷ 134 ∷ 141 ∷ 148 ∷ 155 ∷ 162 ∷ 252 ∷ 195 ∷ 254 ∷ 173 ∷ 208 ∷ 103 ∷ 114 ∷ 241 ∷ 228 ∷ 75 ∷ 38 ∷ 117 ∷ 56 ∷ 111 ∷ 26 ∷ 57 ∷ 204 ∷ 211 ∷ 78 ∷ 61 ∷ 160 ∷ 119 ∷ 194 ∷ 129 ∷ 180 ∷ 91 ∷ 118 ∷ 5 ∷ 8 ∷ 127 ∷ 106 ∷ 201 ∷ 156 ∷ 227 ∷ 158 ∷ 205 ∷ 112 ∷ 135 ∷ 18 ∷ 17 ∷ 132 ∷ 107 ∷ 198 ∷ 149 ∷ 216 ∷ 143 ∷ 186 ∷ 89 ∷ 63 ∷ 29 ∷ 157 ∷ 191 ∷ 131 ∷ 233 ∷ 241 ∷ 155 ∷ 231 ∷ 213 ∷ 101 ∷ 151 ∷ 107 ∷ 225 ∷ 249 ∷ 179 ∷ 15 ∷ 13 ∷ 173 ∷ 239 ∷ 211 ∷ 89 ∷ 129 ∷ 75 ∷ 183 ∷ 197 ∷ 117 ∷ 199 ∷ 187 ∷ 81 ∷ 137 ∷ 99 ∷ 223 ∷ 253 ∷ 189 ∷ 31 ∷ 35 ∷ 201 ∷ 17 ∷ 251 ∷ 135 ∷ 181 ∷ 133 ∷ 247 ∷ 11 ∷ 193 ∷ 25 ∷ 19 ∷ 230 ∷ 205 ∷ 104 ∷ 183 ∷ 186 ∷ 113 ∷ 220 ∷ 251 ∷ 206 ∷ 85 ∷ 144 ∷ 127 ∷ 34 ∷ 121 ∷ 132 ∷ 67 ∷ 182 ∷ 221 ∷ 184 ∷ 71 ∷ 138 ∷ 129 ∷ 44 ∷ 139 ∷ 158 ∷ 101 ∷ 224 ∷ 15 ∷ 242 ∷ 137 ∷ 212 ∷ 211 ∷ 134 ∷ 237 ∷ 8 ∷ 215 ∷ 90 ∷ 145 ∷ 124 ∷ 27 ∷ 110 ∷ 117 ∷ 48 ∷ 159 ∷ 194 ∷ 153 ∷ 36 ∷ 99 ∷ 61 ∷ 51 ∷ 251 ∷ 149 ∷ 1 ∷ 63 ∷ 79 ∷ 49 ∷ 229 ∷ 107 ∷ 195 ∷ 237 ∷ 233 ∷ 183 ∷ 87 ∷ 201 ∷ 13 ∷ 35 ∷ 11 ∷ 197 ∷ 81 ∷ 175 ∷ 223 ∷ 225 ∷ 181 ∷ 91 ∷ 211 ∷ 29 ∷ 57 ∷ 39 ∷ 231 ∷ 121 ∷ 221 ∷ 19 ∷ 27 ∷ 245 ∷ 161 ∷ 31 ∷ 111 ∷ 145 ∷ 133 ∷ 75 ∷ 227 ∷ 77 ∷ 137 ∷ 151 ∷ 119 ∷ 41 ∷ 100 ∷ 65 ∷ 190 ∷ 219 ∷ 152 ∷ 245 ∷ 242 ∷ 143 ∷ 204 ∷ 169 ∷ 38 ∷ 67 ∷ 0 ∷ 93 ∷ 90 ∷ 247 ∷ 52 ∷ 17 ∷ 142 ∷ 171 ∷ 104 ∷ 197 ∷ 194 ∷ 95 ∷ 156 ∷ 121 ∷ 246 ∷ 19 ∷ 208 ∷ 45 ∷ 42 ∷ 199 ∷ 4 ∷ 225 ∷ 94 ∷ 123 ∷ 56 ∷ 149 ∷ 146 ∷ 47 ∷ 108 ∷ 73 ∷ 198 ∷ 227 ∷ 160 ∷ 253 ∷ 250 ∷ 151 ∷ []

abbrev signer-leaf-commitments : List ℕ
signer-leaf-commitments = 80 ∷ 179 ∷ 94 ∷ 105 ∷ 36 ∷ 167 ∷ 34 ∷ 157 ∷ 40 ∷ 155 ∷ 54 ∷ 145 ∷ 60 ∷ 143 ∷ 58 ∷ 133 ∷ 0 ∷ 131 ∷ 14 ∷ 185 ∷ 20 ∷ 119 ∷ 18 ∷ 173 ∷ 224 ∷ 35 ∷ 30 ∷ 105 ∷ 20 ∷ 23 ∷ 18 ∷ 29 ∷ 8 ∷ 27 ∷ 6 ∷ 1 ∷ 60 ∷ 15 ∷ 58 ∷ 53 ∷ 48 ∷ 115 ∷ 46 ∷ 57 ∷ 36 ∷ 103 ∷ 34 ∷ 45 ∷ 16 ∷ 179 ∷ 30 ∷ 137 ∷ 4 ∷ 135 ∷ 2 ∷ 157 ∷ 8 ∷ 155 ∷ 54 ∷ 145 ∷ 60 ∷ 111 ∷ 58 ∷ 165 ∷ 32 ∷ 99 ∷ 46 ∷ 185 ∷ 84 ∷ 119 ∷ 82 ∷ 205 ∷ 208 ∷ 51 ∷ 222 ∷ 249 ∷ 36 ∷ 39 ∷ 98 ∷ 109 ∷ 40 ∷ 43 ∷ 246 ∷ 17 ∷ 60 ∷ 31 ∷ 122 ∷ 5 ∷ 0 ∷ 3 ∷ 14 ∷ 9 ∷ 20 ∷ 247 ∷ 18 ∷ 61 ∷ 96 ∷ 35 ∷ 30 ∷ 121 ∷ 20 ∷ 55 ∷ 18 ∷ 13 ∷ 8 ∷ 11 ∷ 6 ∷ 1 ∷ 60 ∷ 31 ∷ 250 ∷ 21 ∷ 48 ∷ 19 ∷ 110 ∷ 41 ∷ 36 ∷ 103 ∷ 226 ∷ 61 ∷ 16 ∷ 51 ∷ 30 ∷ 249 ∷ 4 ∷ 7 ∷ 2 ∷ 13 ∷ 8 ∷ 11 ∷ 246 ∷ 17 ∷ 60 ∷ 31 ∷ 122 ∷ 37 ∷ 32 ∷ 99 ∷ 238 ∷ 41 ∷ 212 ∷ 247 ∷ 82 ∷ 61 ∷ 16 ∷ 133 ∷ 22 ∷ 187 ∷ 100 ∷ 241 ∷ 194 ∷ 215 ∷ 168 ∷ 253 ∷ 254 ∷ 3 ∷ 156 ∷ 57 ∷ 234 ∷ 79 ∷ 192 ∷ 181 ∷ 38 ∷ 171 ∷ 52 ∷ 129 ∷ 18 ∷ 231 ∷ 32 ∷ 197 ∷ 166 ∷ 139 ∷ 116 ∷ 113 ∷ 210 ∷ 23 ∷ 8 ∷ 45 ∷ 94 ∷ 163 ∷ 156 ∷ 169 ∷ 74 ∷ 95 ∷ 240 ∷ 21 ∷ 118 ∷ 187 ∷ 164 ∷ 129 ∷ 162 ∷ 71 ∷ 80 ∷ 133 ∷ 86 ∷ 91 ∷ 132 ∷ 81 ∷ 98 ∷ 183 ∷ 72 ∷ 29 ∷ 190 ∷ 67 ∷ 28 ∷ 153 ∷ 74 ∷ 15 ∷ 160 ∷ 85 ∷ 6 ∷ 171 ∷ 180 ∷ 1 ∷ 210 ∷ 167 ∷ 80 ∷ 183 ∷ 174 ∷ 201 ∷ 100 ∷ 3 ∷ 34 ∷ 197 ∷ 168 ∷ 159 ∷ 214 ∷ 113 ∷ 124 ∷ 43 ∷ 74 ∷ 109 ∷ 128 ∷ 103 ∷ 126 ∷ 25 ∷ 20 ∷ 83 ∷ 242 ∷ 181 ∷ 96 ∷ 231 ∷ 110 ∷ 105 ∷ 20 ∷ 83 ∷ 146 ∷ 245 ∷ 8 ∷ 63 ∷ 134 ∷ 193 ∷ 252 ∷ 75 ∷ 138 ∷ 77 ∷ 48 ∷ 87 ∷ 190 ∷ 57 ∷ 228 ∷ 163 ∷ 162 ∷ 37 ∷ 144 ∷ 247 ∷ 206 ∷ 233 ∷ 4 ∷ 163 ∷ 66 ∷ 37 ∷ 136 ∷ 31 ∷ 86 ∷ 177 ∷ 124 ∷ 139 ∷ 234 ∷ 205 ∷ 160 ∷ 7 ∷ 254 ∷ 89 ∷ 84 ∷ 147 ∷ 114 ∷ 117 ∷ 40 ∷ 239 ∷ 254 ∷ 193 ∷ 92 ∷ 171 ∷ 106 ∷ 189 ∷ 128 ∷ 151 ∷ 166 ∷ 217 ∷ 180 ∷ 67 ∷ 82 ∷ 37 ∷ 24 ∷ 31 ∷ 14 ∷ 17 ∷ 44 ∷ 91 ∷ 58 ∷ 77 ∷ 200 ∷ 159 ∷ 158 ∷ 225 ∷ 92 ∷ 219 ∷ 10 ∷ 109 ∷ 112 ∷ 87 ∷ 246 ∷ 137 ∷ 164 ∷ 195 ∷ 34 ∷ 5 ∷ 24 ∷ 79 ∷ 174 ∷ 145 ∷ 140 ∷ 107 ∷ 218 ∷ 125 ∷ 8 ∷ 47 ∷ 190 ∷ 129 ∷ 220 ∷ 107 ∷ 10 ∷ 221 ∷ 160 ∷ 119 ∷ 198 ∷ 121 ∷ 52 ∷ 195 ∷ 146 ∷ 165 ∷ 216 ∷ 63 ∷ 110 ∷ 113 ∷ 140 ∷ 251 ∷ 122 ∷ 13 ∷ 104 ∷ 21 ∷ 54 ∷ 47 ∷ 188 ∷ 105 ∷ 138 ∷ 227 ∷ 64 ∷ 253 ∷ 30 ∷ 23 ∷ 212 ∷ 209 ∷ 146 ∷ 139 ∷ 88 ∷ 69 ∷ 230 ∷ 127 ∷ 236 ∷ 57 ∷ 122 ∷ 147 ∷ 72 ∷ 133 ∷ 70 ∷ 15 ∷ 60 ∷ 137 ∷ 74 ∷ 19 ∷ 112 ∷ 157 ∷ 222 ∷ 39 ∷ 36 ∷ 161 ∷ 162 ∷ 235 ∷ 24 ∷ 181 ∷ 182 ∷ 223 ∷ 12 ∷ 89 ∷ 186 ∷ 195 ∷ 72 ∷ 21 ∷ 182 ∷ 207 ∷ 60 ∷ 137 ∷ 42 ∷ 195 ∷ 96 ∷ 61 ∷ 222 ∷ 215 ∷ 20 ∷ 145 ∷ 82 ∷ 235 ∷ 152 ∷ 229 ∷ 70 ∷ 191 ∷ 12 ∷ 249 ∷ 250 ∷ 19 ∷ []

abbrev signer-u : List ℕ
signer-u = 188 ∷ 69 ∷ []

abbrev signer-v : List ℕ
signer-v = 120 ∷ 117 ∷ 28 ∷ 247 ∷ 114 ∷ 187 ∷ []

abbrev signer-corrections : List ℕ
signer-corrections = 120 ∷ 192 ∷ []

abbrev opening : List ℕ
opening = 16 ∷ 133 ∷ 22 ∷ 187 ∷ 100 ∷ 241 ∷ 194 ∷ 215 ∷ 168 ∷ 253 ∷ 254 ∷ 3 ∷ 156 ∷ 57 ∷ 234 ∷ 79 ∷ 192 ∷ 181 ∷ 38 ∷ 171 ∷ 52 ∷ 129 ∷ 18 ∷ 231 ∷ 32 ∷ 197 ∷ 166 ∷ 139 ∷ 116 ∷ 113 ∷ 210 ∷ 23 ∷ 8 ∷ 45 ∷ 94 ∷ 163 ∷ 156 ∷ 169 ∷ 74 ∷ 95 ∷ 240 ∷ 21 ∷ 118 ∷ 187 ∷ 164 ∷ 129 ∷ 162 ∷ 71 ∷ 80 ∷ 133 ∷ 86 ∷ 91 ∷ 132 ∷ 81 ∷ 98 ∷ 183 ∷ 72 ∷ 29 ∷ 190 ∷ 67 ∷ 28 ∷ 153 ∷ 74 ∷ 15 ∷ 160 ∷ 85 ∷ 6 ∷ 171 ∷ 180 ∷ 1 ∷ 210 ∷ 167 ∷ 104 ∷ 21 ∷ 54 ∷ 47 ∷ 188 ∷ 105 ∷ 138 ∷ 227 ∷ 64 ∷ 253 ∷ 30 ∷ 23 ∷ 212 ∷ 209 ∷ 146 ∷ 139 ∷ 88 ∷ 69 ∷ 230 ∷ 127 ∷ 236 ∷ 57 ∷ 122 ∷ 147 ∷ 72 ∷ 133 ∷ 70 ∷ 15 ∷ 60 ∷ 137 ∷ 74 ∷ 19 ∷ 112 ∷ 157 ∷ 222 ∷ 39 ∷ 36 ∷ 161 ∷ 162 ∷ 235 ∷ 24 ∷ 181 ∷ 182 ∷ 223 ∷ 12 ∷ 89 ∷ 186 ∷ 195 ∷ 72 ∷ 21 ∷ 182 ∷ 207 ∷ 60 ∷ 137 ∷ 42 ∷ 195 ∷ 96 ∷ 61 ∷ 222 ∷ 215 ∷ 20 ∷ 145 ∷ 82 ∷ 235 ∷ 152 ∷ 229 ∷ 70 ∷ 191 ∷ 12 ∷ 249 ∷ 250 ∷ 19 ∷ 156 ∷ 121 ∷ 246 ∷ 19 ∷ 208 ∷ 45 ∷ 42 ∷ 199 ∷ 4 ∷ 225 ∷ 94 ∷ 123 ∷ 56 ∷ 149 ∷ 146 ∷ 47 ∷ 108 ∷ 73 ∷ 198 ∷ 227 ∷ 160 ∷ 253 ∷ 250 ∷ 151 ∷ 61 ∷ 51 ∷ 251 ∷ 149 ∷ 1 ∷ 63 ∷ 79 ∷ 49 ∷ 229 ∷ 107 ∷ 195 ∷ 237 ∷ 233 ∷ 183 ∷ 87 ∷ 201 ∷ 13 ∷ 35 ∷ 11 ∷ 197 ∷ 81 ∷ 175 ∷ 223 ∷ 225 ∷ 180 ∷ 91 ∷ 118 ∷ 5 ∷ 8 ∷ 127 ∷ 106 ∷ 201 ∷ 156 ∷ 227 ∷ 158 ∷ 205 ∷ 112 ∷ 135 ∷ 18 ∷ 17 ∷ 132 ∷ 107 ∷ 198 ∷ 149 ∷ 216 ∷ 143 ∷ 186 ∷ 89 ∷ []

abbrev verifier-tree : List ℕ
verifier-tree = 0 ∷ 0 ∷ 0 ∷ 0 ∷ 0 ∷ 0 ∷ 0 ∷ 0 ∷ 0 ∷ 0 ∷ 0 ∷ 0 ∷ 0 ∷ 0 ∷ 0 ∷ 0 ∷ 0 ∷ 0 ∷ 0 ∷ 0 ∷ 0 ∷ 0 ∷ 0 ∷ 0 ∷ 0 ∷ 0 ∷ 0 ∷ 0 ∷ 0 ∷ 0 ∷ 0 ∷ 0 ∷ 0 ∷ 0 ∷ 0 ∷ 0 ∷ 0 ∷ 0 ∷ 0 ∷ 0 ∷ 0 ∷ 0 ∷ 0 ∷ 0 ∷ 0 ∷ 0 ∷ 0 ∷ 0 ∷ 180 ∷ 91 ∷ 118 ∷ 5 ∷ 8 ∷ 127 ∷ 106 ∷ 201 ∷ 156 ∷ 227 ∷ 158 ∷ 205 ∷ 112 ∷ 135 ∷ 18 ∷ 17 ∷ 132 ∷ 107 ∷ 198 ∷ 149 ∷ 216 ∷ 143 ∷ 186 ∷ 89 ∷ 0 ∷ 0 ∷ 0 ∷ 0 ∷ 0 ∷ 0 ∷ 0 ∷ 0 ∷ 0 ∷ 0 ∷ 0 ∷ 0 ∷ 0 ∷ 0 ∷ 0 ∷ 0 ∷ 0 ∷ 0 ∷ 0 ∷ 0 ∷ 0 ∷ 0 ∷ 0 ∷ 0 ∷ 0 ∷ 0 ∷ 0 ∷ 0 ∷ 0 ∷ 0 ∷ 0 ∷ 0 ∷ 0 ∷ 0 ∷ 0 ∷ 0 ∷ 0 ∷ 0 ∷ 0 ∷ 0 ∷ 0 ∷ 0 ∷ 0 ∷ 0 ∷ 0 ∷ 0 ∷ 0 ∷ 0 ∷ 230 ∷ 205 ∷ 104 ∷ 183 ∷ 186 ∷ 113 ∷ 220 ∷ 251 ∷ 206 ∷ 85 ∷ 144 ∷ 127 ∷ 34 ∷ 121 ∷ 132 ∷ 67 ∷ 182 ∷ 221 ∷ 184 ∷ 71 ∷ 138 ∷ 129 ∷ 44 ∷ 139 ∷ 158 ∷ 101 ∷ 224 ∷ 15 ∷ 242 ∷ 137 ∷ 212 ∷ 211 ∷ 134 ∷ 237 ∷ 8 ∷ 215 ∷ 90 ∷ 145 ∷ 124 ∷ 27 ∷ 110 ∷ 117 ∷ 48 ∷ 159 ∷ 194 ∷ 153 ∷ 36 ∷ 99 ∷ 61 ∷ 51 ∷ 251 ∷ 149 ∷ 1 ∷ 63 ∷ 79 ∷ 49 ∷ 229 ∷ 107 ∷ 195 ∷ 237 ∷ 233 ∷ 183 ∷ 87 ∷ 201 ∷ 13 ∷ 35 ∷ 11 ∷ 197 ∷ 81 ∷ 175 ∷ 223 ∷ 225 ∷ 0 ∷ 0 ∷ 0 ∷ 0 ∷ 0 ∷ 0 ∷ 0 ∷ 0 ∷ 0 ∷ 0 ∷ 0 ∷ 0 ∷ 0 ∷ 0 ∷ 0 ∷ 0 ∷ 0 ∷ 0 ∷ 0 ∷ 0 ∷ 0 ∷ 0 ∷ 0 ∷ 0 ∷ 0 ∷ 0 ∷ 0 ∷ 0 ∷ 0 ∷ 0 ∷ 0 ∷ 0 ∷ 0 ∷ 0 ∷ 0 ∷ 0 ∷ 0 ∷ 0 ∷ 0 ∷ 0 ∷ 0 ∷ 0 ∷ 0 ∷ 0 ∷ 0 ∷ 0 ∷ 0 ∷ 0 ∷ 156 ∷ 121 ∷ 246 ∷ 19 ∷ 208 ∷ 45 ∷ 42 ∷ 199 ∷ 4 ∷ 225 ∷ 94 ∷ 123 ∷ 56 ∷ 149 ∷ 146 ∷ 47 ∷ 108 ∷ 73 ∷ 198 ∷ 227 ∷ 160 ∷ 253 ∷ 250 ∷ 151 ∷ []

abbrev verifier-q : List ℕ
verifier-q = 120 ∷ 117 ∷ 160 ∷ 178 ∷ 206 ∷ 254 ∷ []

pub commits : committed (stand_in_of 24) shape whole root iv
    ≡ record {
      commitment = signer-commitment;
      tree = signer-tree;
      leaf_commitments = signer-leaf-commitments;
      u = signer-u;
      v = signer-v ++ zeros (2 * 189);
      corrections = signer-corrections;
    }
unfolding tabulate concat zeros level node_bytes leaf_commitment_bytes deeper depth_of entries_of leaves leaf_of prg node_at leaf_key expand_tree children stretched leaf_seed hash_key leaf_commitment vector_commitments leaf_commitments vector_hash commitment_of xor_below row_byte stretch_byte column_byte matrix_of u_byte signer_tree signer_leaf_commitment signer_u signer_column correction corrections committed
commits = refl

pub opens : opening_of shape challenge signer-tree signer-leaf-commitments ≡ opening
unfolding tabulate concat zeros level node_bytes leaf_commitment_bytes deeper depth_of leaves leaf_of first_entry node_at number bit_at bits_at index_at first_bit hidden_index parent is_ancestor_within is_ancestor some covered sibling_to_reveal revealed_from revealed node_count hidden_leaf hidden_leaves planned planned_count leaf_commitment_at opening_of
opens = refl

pub reconstructs : reconstructed (stand_in_of 24) shape whole iv challenge signer-corrections opening
    ≡ record { commitment = signer-commitment; tree = verifier-tree; leaf_commitments = signer-leaf-commitments; q = verifier-q ++ zeros (2 * 189) }
unfolding tabulate concat zeros level node_bytes leaf_commitment_bytes deeper depth_of entries_of leaves leaf_of prg node_at leaf_key expand_tree children stretched leaf_seed hash_key leaf_commitment vector_commitments leaf_commitments vector_hash commitment_of xor_below row_byte stretch_byte column_byte matrix_of number bit_at bits_at index_at first_bit hidden_index parent is_ancestor_within is_ancestor some covered sibling_to_reveal revealed_from revealed node_count hidden_leaf hidden_leaves planned planned_count index_of slot given_node reconstructed_children reconstructed_tree hidden_leaf_commitment verifier_leaf_commitment correction_byte verifier_column reconstructed
reconstructs = refl
