-- `sub_word`, column by column.
use Rattle.spec.specs.Aes.{sub_bytes}
use Rattle.aes_steps.proofs.sub_bytes.Goals as goal

pub returns : goal.returns
unfolding sub_bytes
returns c = cc
