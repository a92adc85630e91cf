-- Document 02, E6: a field is a length of four bytes, most significant first, and that many bytes.
use Rattle.std.specs.Prelude.{ℕ, ◌+◌, Bool, ◌&&◌, List, ◌++◌, leb, eqb, length}
use Rattle.spec.specs.Bytes.{part, big_endian, big_endian_bytes}

-- a field that begins at place `at`: it has n bytes and they are there; its bytes; the place behind it
unfoldable pub field_ok : List ℕ → ℕ → ℕ → Bool
field_ok rec at n = leb (at + 4 + n) (length rec) && eqb (big_endian (part rec at 4)) n

abbrev pub field_at : List ℕ → ℕ → ℕ → List ℕ
field_at rec at n = part rec (at + 4) n

abbrev pub behind : ℕ → ℕ → ℕ
behind at n = at + 4 + n

-- the field that has these bytes
unfoldable pub field_of : List ℕ → List ℕ
field_of bytes = big_endian_bytes 4 (length bytes) ++ bytes
