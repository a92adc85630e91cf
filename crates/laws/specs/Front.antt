-- A buffer that is written from the front on: the invariant of the loops that fill one.
use Rattle.std.specs.Prelude.{ℕ, ◌<◌, ◌≡◌, List, length, get_or}

-- of a list of `long` elements the first n are f 0, f 1, .., f (n - 1)
pub record Front (f : ℕ → ℕ) (long n : ℕ) (l : List ℕ) : Type 0 where
  pub size : length l ≡ long
  pub known : (i : ℕ) → i < n → get_or l i 0 ≡ f i
