use Rattle.store.proofs.Stored.{rewritten_reads}
use Rattle.store.proofs.rewritten_reads.Goals as goal

pub returns : goal.returns
returns c = rewritten_reads
