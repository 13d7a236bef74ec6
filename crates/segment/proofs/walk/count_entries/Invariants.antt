use Rattle.std.proofs.Common.{◌≤◌}
use Rattle.volume.specs.Segments.{capacity_of}
use Rattle.segment.proofs.Counts.{Counted}
use Rattle.segment.proofs.walk.count_entries.Given as goal

abbrev pub invariant-loop-count : goal.invariant-loop-count
invariant-loop-count l = (l.count ≤ l.most) × Counted l.segment l.extra (capacity_of l.extra) l.count
