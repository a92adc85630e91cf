-- The output of the state that `finish` gives.
use mathlib.Core.Path.{ap₂, ◌∙◌}
use mathlib.Core.List.{List}
use Prim.Native.Nat.{ℕ}
use lib.ListN.{length}
use Rattle.spec.specs.Bytes.{tabulate}
use Rattle.spec.specs.Sponge.{output_byte, sponge, shake}
use Rattle.shake.proofs.Sponge.squeeze.Goals as goal

pub returns : goal.returns
unfolding sponge shake
returns c m h =
    c.squeeze_blocks.ensures
    ∙ ap₂ (λ (r : ℕ) (z : List ℕ). tabulate (length c.args.out.now) (output_byte r z)) c.finish-padded.ensures.0 (c.finish-padded.ensures.1 m h)
