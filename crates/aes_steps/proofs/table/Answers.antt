-- One computed test compares all 256 entries with the definition (`SboxEntries`).
use Rattle.aes_steps.proofs.SboxEntries.{entry-is}
use Rattle.aes_steps.proofs.table.Goals as goal

pub returns : goal.returns
returns c = entry-is
