-- The claim of one run, from the contracts of its three calls: demand 3 of version 1 of `theorems`, at version 1's primitives, whose H0 gives as many bytes as it is asked for.
use Prim.Native.Nat.{ℕ}
use mathlib.Core.List.{List}
use Rattle.spec.specs.declared.Shape.{Shape}
use Rattle.spec.specs.declared.Answer.{Answer}
use Rattle.spec.specs.Calls.{Committed, Reconstructed}
use Rattle.spec.specs.Version1.{faest1}
use Rattle.spec.specs.Version1Calls.{Commit1, Open1, Reconstruct1}
use Rattle.theorems.proofs.Version1.{version1-demand3, whole-hash}
use Rattle.v1_round_trip.specs.RoundTrip.{RoundTrip1}

pub claim : (s : Shape) (n : ℕ) (root iv ch opening opening' : List ℕ) (signer signer' : Committed) (verifier verifier' : Reconstructed) (made opened checked : Answer)
    → Commit1 faest1 s n root iv signer signer' made → Open1 s ch signer'.tree signer'.leaf_commitments opening opening' opened
    → Reconstruct1 faest1 s n iv ch signer'.corrections opening' verifier verifier' checked
    → RoundTrip1 s n root iv ch signer signer' opening opening' verifier verifier' made opened checked
claim s n root iv ch opening opening' signer signer' verifier verifier' made opened checked c o r =
    record {
      commits = c;
      opens = o;
      checks = r;
      accepted = λ m l. (version1-demand3 faest1).accepted whole-hash s n root iv ch opening opening' signer signer' verifier verifier' made opened checked c m o r l;
    }
