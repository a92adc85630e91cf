-- What storing a block in a buffer leaves behind.
use Rattle.std.specs.Prelude.{◌≡◌, ℕ, ◌+◌, ◌<◌, ◌≤◌, List, length, slice_index}
use Rattle.laws.specs.Front.{Front}

-- where the buffer followed a rule up to place p, and the block's bytes from byte `from` on go on with it, the buffer now follows it up to `end`
abbrev pub Continued : List ℕ → ℕ → ℕ → ℕ → List ℕ → List ℕ → Type 0
Continued block from p end before after =
    (f : ℕ → ℕ) (long : ℕ) → ((i : ℕ) → from + i < 16 → p + i < long → slice_index block (from + i) ≡ f (p + i)) → Front f long p before → Front f long end after

-- the block's bytes from byte `from` on stand at place p, up to `end`, the place of the block's end or of the buffer's
pub record Stored (block : List ℕ) (from p end : ℕ) (before after : List ℕ) : Type 0 where
  pub forward : p ≤ end
  pub inside : end ≤ length before
  pub some : p < length before → p < end
  pub whole : end < length before → end + from ≡ p + 16
  pub written : Continued block from p end before after
