-- Document 000, section 3.3: the hashes H0 and H1, SHAKE at the rate r of the message followed by one byte that names the hash.
use Rattle.std.specs.Prelude.{List, [], ◌∷◌, ◌++◌, ℕ}
use Rattle.spec.specs.Sponge.{shake}

-- n bytes of H0, the hash for commitment keys
unfoldable pub hash0 : ℕ → List ℕ → ℕ → List ℕ
hash0 r m n = shake r (m ++ (0 ∷ [])) n

-- n bytes of H1, the hash for vector commitments
unfoldable pub hash1 : ℕ → List ℕ → ℕ → List ℕ
hash1 r m n = shake r (m ++ (1 ∷ [])) n
