-- Document 02, E4: the calls as a C host makes them. Shape, row length, stretch and the answer's number go as numbers, lists of numbers and the count as bytes.
-- The record with the call's name is the exported call's contract, as in `Calls`; the count slice is among the lengths that 3 compares.
use Rattle.std.specs.Prelude.{ℕ, ◌*◌, ◌/◌, ◌≡◌, cond, List, [], ◌∷◌, ◌++◌, length, drop}
use Rattle.spec.specs.declared.Shape.{Shape}
use Rattle.spec.specs.declared.Stretch.{Stretch}
use Rattle.spec.specs.Bytes.{digits}
use Rattle.spec.specs.Shapes.{resolved, challenge_bytes, hidden_indices, planned, planned_count}
use Rattle.spec.specs.Primitives.{Primitives}
use Rattle.spec.specs.Signer.{opening_of}
use Rattle.spec.specs.Calls.{whole_row, count_given, written, decode_number, plan_number, Committed, committed, commit_lengths, commit_number, commit_stretch_number, open_lengths, Reconstructed, reconstructed, reconstruct_lengths, reconstruct_number, reconstruct_stretch_number}

-- a list of numbers: four bytes each, least byte first
unfoldable pub word_bytes : List ℕ → List ℕ
word_bytes [] = []
word_bytes (x ∷ xs) = digits 8 4 x ++ word_bytes xs

-- the count slice after a call that answers `number`: written with 0, 5 and 6, and else as found
unfoldable pub count_slice : ℕ → ℕ → List ℕ → List ℕ
count_slice number n before = cond (count_given number) (digits 8 4 n) before

-- the lengths of a call whose count slice is `count`
abbrev pub with_count : List ℕ → List (ℕ × ℕ) → List (ℕ × ℕ)
with_count count lengths = (length count, 4) ∷ lengths

-- ---- decode and plan: the list's slice is of n numbers

abbrev pub host_list_lengths : Shape → ℕ → List ℕ → List ℕ → List (ℕ × ℕ)
host_list_lengths s n ch list = (length ch, challenge_bytes s) ∷ (length list, 4 * n) ∷ []

pub record HostDecode (s : Shape) (ch before after count count' : List ℕ) (r : ℕ) : Type 0 where
  pub number : r ≡ decode_number (resolved s) ch (with_count count (host_list_lengths (resolved s) (resolved s).tau ch before))
  pub indices : after ≡ written r (word_bytes (hidden_indices (resolved s) ch)) before
  pub counted : count' ≡ count_slice r 0 count

pub record HostPlan (s : Shape) (ch before after count count' : List ℕ) (r : ℕ) : Type 0 where
  pub number : r ≡ plan_number (resolved s) ch (with_count count (host_list_lengths (resolved s) (resolved s).t ch before))
  pub nodes : after ≡ written r (word_bytes (planned (resolved s) ch) ++ drop (4 * planned_count (resolved s) ch) before) before
  pub counted : count' ≡ count_slice r (planned_count (resolved s) ch) count

-- ---- commit, of the rows and of a stretch of them

pub record HostCommit (P : Primitives) (s : Shape) (n : ℕ) (root iv : List ℕ) (before after : Committed) (count count' : List ℕ) (r : ℕ) : Type 0 where
  pub number : r ≡ commit_number (resolved s) n (with_count count (commit_lengths (resolved s) (n / 8) root iv before))
  pub buffers : after ≡ written r (committed P (resolved s) (whole_row n) root iv) before
  pub counted : count' ≡ count_slice r 0 count

pub record HostCommitStretch (P : Primitives) (s : Shape) (n : ℕ) (z : Stretch) (root iv : List ℕ) (before after : Committed) (count count' : List ℕ) (r : ℕ) : Type 0 where
  pub number : r ≡ commit_stretch_number (resolved s) n z (with_count count (commit_lengths (resolved s) z.width root iv before))
  pub buffers : after ≡ written r (committed P (resolved s) z root iv) before
  pub counted : count' ≡ count_slice r 0 count

-- ---- open

pub record HostOpen (s : Shape) (ch tree lcs before after count count' : List ℕ) (r : ℕ) : Type 0 where
  pub number : r ≡ plan_number (resolved s) ch (with_count count (open_lengths (resolved s) ch tree lcs before))
  pub opening : after ≡ written r (opening_of (resolved s) ch tree lcs) before
  pub counted : count' ≡ count_slice r (planned_count (resolved s) ch) count

-- ---- reconstruct, of the rows and of a stretch of them

pub record HostReconstruct (P : Primitives) (s : Shape) (n : ℕ) (iv ch corrections opening : List ℕ) (before after : Reconstructed) (count count' : List ℕ) (r : ℕ) : Type 0 where
  pub number : r ≡ reconstruct_number (resolved s) n ch opening (with_count count (reconstruct_lengths (resolved s) (n / 8) iv ch corrections opening before))
  pub buffers : after ≡ written r (reconstructed P (resolved s) (whole_row n) iv ch corrections opening) before
  pub counted : count' ≡ count_slice r (planned_count (resolved s) ch) count

pub record HostReconstructStretch (P : Primitives) (s : Shape) (n : ℕ) (z : Stretch) (iv ch corrections opening : List ℕ) (before after : Reconstructed) (count count' : List ℕ) (r : ℕ) : Type 0 where
  pub number : r ≡ reconstruct_stretch_number (resolved s) n z ch opening (with_count count (reconstruct_lengths (resolved s) z.width iv ch corrections opening before))
  pub buffers : after ≡ written r (reconstructed P (resolved s) z iv ch corrections opening) before
  pub counted : count' ≡ count_slice r (planned_count (resolved s) ch) count
