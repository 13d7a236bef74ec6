use Rattle.segment.proofs.RoundTrip.{entry_back, header_back, segment_back, read_lawful, rewritten_back}
use Rattle.segment.proofs.walk.segment_reads_back.Goals as goal

pub returns : goal.returns
returns c =
    record { entry = entry_back; header = header_back; segment = segment_back; lawful = read_lawful; again = rewritten_back }
