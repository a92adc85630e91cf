-- `mix_column`, column by column.
use Rattle.spec.specs.Aes.{mix_columns}
use Rattle.aes_steps.proofs.mix_columns.Goals as goal

pub returns : goal.returns
unfolding mix_columns
returns c = cc
