use Rattle.std.proofs.Common.{rules}
use Rattle.segment.specs.Chains.{next_of}
use Rattle.slots.proofs.bytes.header_at.Goals as goal

pub returns : goal.returns
unfolding next_of
returns c = search rules
