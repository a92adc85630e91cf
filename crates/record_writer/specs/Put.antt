-- What the functions that write parts of a record promise.
use Rattle.std.specs.Prelude.{ℕ, ◌+◌, ◌≡◌, List, ◌++◌, length, take}

-- a string is put at a place of a buffer, behind what stands before the place
pub record Put (bytes : List ℕ) (at : ℕ) (before after : List ℕ) : Type 0 where
  pub front : take (at + length bytes) after ≡ take at before ++ bytes
