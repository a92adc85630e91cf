-- Document 02, E12, as a C host makes the calls: shape, row length and the answer's number go as numbers, the count as four bytes, least byte first (E4).
-- The record with the call's name is the exported call's contract, as in `Version1Calls`; the count slice is among the lengths that 3 compares. The count is always 0.
use Rattle.std.specs.Prelude.{ℕ, ◌/◌, ◌≡◌, List}
use Rattle.spec.specs.declared.Shape.{Shape}
use Rattle.spec.specs.Primitives.{Primitives}
use Rattle.spec.specs.Calls.{written, Committed, Reconstructed}
use Rattle.spec.specs.Version1.{opening1_of}
use Rattle.spec.specs.Version1Calls.{row1_number, open1_number, committed1, commit1_lengths, open1_lengths, reconstructed1, reconstruct1_lengths}
use Rattle.spec.specs.HostCalls.{count_slice, with_count}

-- ---- commit, n the row length in bits

pub record HostCommit1 (P : Primitives) (s : Shape) (n : ℕ) (root iv : List ℕ) (before after : Committed) (count count' : List ℕ) (r : ℕ) : Type 0 where
  pub number : r ≡ row1_number s n (with_count count (commit1_lengths s (n / 8) root iv before))
  pub buffers : after ≡ written r (committed1 P s (n / 8) root iv) before
  pub counted : count' ≡ count_slice r 0 count

-- ---- open

pub record HostOpen1 (s : Shape) (ch trees lcs before after count count' : List ℕ) (r : ℕ) : Type 0 where
  pub number : r ≡ open1_number s (with_count count (open1_lengths s ch trees lcs before))
  pub opening : after ≡ written r (opening1_of s ch trees lcs) before
  pub counted : count' ≡ count_slice r 0 count

-- ---- reconstruct

pub record HostReconstruct1 (P : Primitives) (s : Shape) (n : ℕ) (iv ch corrections opening : List ℕ) (before after : Reconstructed) (count count' : List ℕ) (r : ℕ) : Type 0 where
  pub number : r ≡ row1_number s n (with_count count (reconstruct1_lengths s (n / 8) iv ch corrections opening before))
  pub buffers : after ≡ written r (reconstructed1 P s (n / 8) iv ch corrections opening) before
  pub counted : count' ≡ count_slice r 0 count
