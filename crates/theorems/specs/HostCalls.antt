-- Document 02, E4: where its lists and its count slice have the right lengths, an exported call gives the number and bytes of the call beneath it, and, where the slice is written, its count in
-- the count slice; and what a host reads there. ../proofs/HostCalls.antt proves it.
use Rattle.std.specs.Prelude.{ℕ, ◌*◌, ◌<◌, ◌≡◌, true, List, length, get_or}
use Rattle.spec.specs.declared.Shape.{Shape}
use Rattle.spec.specs.declared.Stretch.{Stretch}
use Rattle.spec.specs.declared.Answer.{Answer}
use Rattle.spec.specs.Bytes.{part, number, digits}
use Rattle.spec.specs.Shapes.{resolved, shape_ok, hidden_index, hidden_indices, planned, planned_count}
use Rattle.spec.specs.Primitives.{Primitives}
use Rattle.spec.specs.Calls.{Decode, Plan, Committed, Commit, CommitStretch, Open, Reconstructed, Reconstruct, ReconstructStretch}
use Rattle.spec.specs.Version1Calls.{Commit1, Open1, Reconstruct1}
use Rattle.spec.specs.Version1HostCalls.{HostCommit1, HostOpen1, HostReconstruct1}
use Rattle.spec.specs.HostCalls.{word_bytes, count_slice, HostDecode, HostPlan, HostCommit, HostCommitStretch, HostOpen, HostReconstruct, HostReconstructStretch}

-- the exported call returns n and leaves `buffers` and count'; the call beneath answers r and leaves `beneath`
pub record SameAnswer {A : Type 0} (r : Answer) (beneath : A) (n : ℕ) (buffers : A) (count count' : List ℕ) : Type 0 where
  pub number : n ≡ r.number
  pub bytes : buffers ≡ beneath
  pub counted : count' ≡ count_slice r.number r.count count

-- xs are the numbers of the list's slice
pub record ExportedCalls (P : Primitives) : Type 0 where
  pub decode :
      (s : Shape) (ch xs xs' after count count' : List ℕ) (r : Answer) (n : ℕ)
      → Decode s ch xs xs' r
      → HostDecode s ch (word_bytes xs) after count count' n
      → length count ≡ 4
      → SameAnswer r (word_bytes xs') n after count count'
  pub plan :
      (s : Shape) (ch xs xs' after count count' : List ℕ) (r : Answer) (n : ℕ)
      → Plan s ch xs xs' r
      → HostPlan s ch (word_bytes xs) after count count' n
      → length count ≡ 4
      → SameAnswer r (word_bytes xs') n after count count'
  pub commit :
      (s : Shape) (bits : ℕ) (root iv : List ℕ) (x x' after : Committed) (count count' : List ℕ) (r : Answer) (n : ℕ)
      → Commit P s bits root iv x x' r
      → HostCommit P s bits root iv x after count count' n
      → length count ≡ 4
      → SameAnswer r x' n after count count'
  pub commit-stretch :
      (s : Shape) (bits : ℕ) (z : Stretch) (root iv : List ℕ) (x x' after : Committed) (count count' : List ℕ) (r : Answer) (n : ℕ)
      → CommitStretch P s bits z root iv x x' r
      → HostCommitStretch P s bits z root iv x after count count' n
      → length count ≡ 4
      → SameAnswer r x' n after count count'
  pub opened :
      (s : Shape) (ch tree lcs opening opening' after count count' : List ℕ) (r : Answer) (n : ℕ)
      → Open s ch tree lcs opening opening' r
      → HostOpen s ch tree lcs opening after count count' n
      → length count ≡ 4
      → SameAnswer r opening' n after count count'
  pub reconstruct :
      (s : Shape) (bits : ℕ) (iv ch corrections opening : List ℕ) (x x' after : Reconstructed) (count count' : List ℕ) (r : Answer) (n : ℕ)
      → Reconstruct P s bits iv ch corrections opening x x' r
      → HostReconstruct P s bits iv ch corrections opening x after count count' n
      → length count ≡ 4
      → SameAnswer r x' n after count count'
  pub reconstruct-stretch :
      (s : Shape) (bits : ℕ) (z : Stretch) (iv ch corrections opening : List ℕ) (x x' after : Reconstructed) (count count' : List ℕ) (r : Answer) (n : ℕ)
      → ReconstructStretch P s bits z iv ch corrections opening x x' r
      → HostReconstructStretch P s bits z iv ch corrections opening x after count count' n
      → length count ≡ 4
      → SameAnswer r x' n after count count'

-- the same of version 1's calls
pub record Version1ExportedCalls (P : Primitives) : Type 0 where
  pub commit :
      (s : Shape) (bits : ℕ) (root iv : List ℕ) (x x' after : Committed) (count count' : List ℕ) (r : Answer) (n : ℕ)
      → Commit1 P s bits root iv x x' r
      → HostCommit1 P s bits root iv x after count count' n
      → length count ≡ 4
      → SameAnswer r x' n after count count'
  pub opened :
      (s : Shape) (ch trees lcs opening opening' after count count' : List ℕ) (r : Answer) (n : ℕ)
      → Open1 s ch trees lcs opening opening' r
      → HostOpen1 s ch trees lcs opening after count count' n
      → length count ≡ 4
      → SameAnswer r opening' n after count count'
  pub reconstruct :
      (s : Shape) (bits : ℕ) (iv ch corrections opening : List ℕ) (x x' after : Reconstructed) (count count' : List ℕ) (r : Answer) (n : ℕ)
      → Reconstruct1 P s bits iv ch corrections opening x x' r
      → HostReconstruct1 P s bits iv ch corrections opening x after count count' n
      → length count ≡ 4
      → SameAnswer r x' n after count count'

-- a slice as long as m numbers holds m numbers, whatever its bytes
abbrev pub EveryList : Type 0
EveryList = (bytes : List ℕ) (m : ℕ) → ((i : ℕ) → get_or bytes i 0 < 256) → length bytes ≡ 4 * m → (xs : List ℕ) × ((length xs ≡ m) × (word_bytes xs ≡ bytes))

-- the four bytes of an index, of a node and of a count, read as a number: nothing of them is cut off
pub record Readable (s : Shape) (ch : List ℕ) : Type 0 where
  pub indices : (i : ℕ) → i < (resolved s).tau → number 8 (part (word_bytes (hidden_indices (resolved s) ch)) (4 * i) 4) ≡ hidden_index (resolved s) ch i
  pub nodes : (i : ℕ) → i < planned_count (resolved s) ch → number 8 (part (word_bytes (planned (resolved s) ch)) (4 * i) 4) ≡ get_or (planned (resolved s) ch) i 0
  pub count : number 8 (digits 8 4 (planned_count (resolved s) ch)) ≡ planned_count (resolved s) ch

abbrev pub EveryReadable : Type 0
EveryReadable = (s : Shape) (ch : List ℕ) → shape_ok (resolved s) ≡ true → Readable s ch
