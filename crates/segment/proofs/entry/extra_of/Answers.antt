use Rattle.std.proofs.Common.{◌∙◌}
use Rattle.codec.proofs.Written.{written_zeros}
use Rattle.segment.specs.Entries.{extra_of}
use Rattle.segment.proofs.entry.extra_of.Goals as goal

pub returns : goal.returns
unfolding extra_of
returns c = c.put.ensures ∙ written_zeros 64 c.args.bytes.now
