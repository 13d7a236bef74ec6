use Rattle.edits.proofs.Output.{output_clear}
use Rattle.edits.proofs.output_clear.Goals as goal

pub returns : goal.returns
returns c = output_clear
