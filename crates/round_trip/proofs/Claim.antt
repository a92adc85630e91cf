-- The claim of one run, from the contracts of its three calls: demand 3 of `theorems`, at FAEST's primitives.
use Prim.Native.Nat.{ℕ}
use mathlib.Core.List.{List}
use Rattle.spec.specs.declared.Shape.{Shape}
use Rattle.spec.specs.declared.Stretch.{Stretch}
use Rattle.spec.specs.declared.Answer.{Answer}
use Rattle.spec.specs.Primitives.{faest}
use Rattle.spec.specs.Calls.{Committed, Commit, CommitStretch, Open, Reconstructed, Reconstruct, ReconstructStretch}
use Rattle.theorems.proofs.Demand3.{demand3}
use Rattle.round_trip.specs.RoundTrip.{RoundTrip, RoundTripStretch}

pub claim : (s : Shape) (n : ℕ) (root iv ch opening opening' : List ℕ) (signer signer' : Committed) (verifier verifier' : Reconstructed) (made opened checked : Answer)
    → Commit faest s n root iv signer signer' made → Open s ch signer'.tree signer'.leaf_commitments opening opening' opened
    → Reconstruct faest s n iv ch signer'.corrections opening' verifier verifier' checked
    → RoundTrip s n root iv ch signer signer' opening opening' verifier verifier' made opened checked
claim s n root iv ch opening opening' signer signer' verifier verifier' made opened checked c o r =
    let d = demand3 faest in
    record {
      commits = c;
      opens = o;
      checks = r;
      together =
          record {
            accepted = λ m l g t. d.accepted s n root iv ch opening opening' signer signer' verifier verifier' made opened checked c m o r l g t;
            open-five = λ h l. d.open-five s ch signer'.tree signer'.leaf_commitments opening opening' opened o h l;
            check-five = λ h w l. d.check-five s n iv ch signer'.corrections opening' verifier verifier' checked r h w l;
          };
    }

pub claim-stretch : (s : Shape) (n : ℕ) (z : Stretch) (root iv ch opening opening' : List ℕ) (signer signer' : Committed) (verifier verifier' : Reconstructed) (made opened checked : Answer)
    → CommitStretch faest s n z root iv signer signer' made → Open s ch signer'.tree signer'.leaf_commitments opening opening' opened
    → ReconstructStretch faest s n z iv ch signer'.corrections opening' verifier verifier' checked
    → RoundTripStretch s n z root iv ch signer signer' opening opening' verifier verifier' made opened checked
claim-stretch s n z root iv ch opening opening' signer signer' verifier verifier' made opened checked c o r =
    let d = demand3 faest in
    record {
      commits = c;
      opens = o;
      checks = r;
      together =
          record {
            accepted = λ m l g t. d.accepted-stretch s n z root iv ch opening opening' signer signer' verifier verifier' made opened checked c m o r l g t;
            open-five = λ h l. d.open-five s ch signer'.tree signer'.leaf_commitments opening opening' opened o h l;
            check-five = λ h w l. d.check-five-stretch s n z iv ch signer'.corrections opening' verifier verifier' checked r h w.0 w.1 l;
          };
    }
