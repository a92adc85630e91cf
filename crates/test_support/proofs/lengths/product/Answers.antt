-- A product of two bounded numbers is at most the product of the bounds.
use Rattle.std.proofs.Common.{arith}
use Rattle.std.proofs.lemmas.Nat.{mul-le}
use Rattle.test_support.proofs.lengths.product.Goals as goal

pub returns : goal.returns
returns c = mul-le c.min.result c.min-2.result 256 172032 (omega arith) (omega arith)
