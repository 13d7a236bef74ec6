use Rattle.std.proofs.Common.{◌≡◌, length}
use Rattle.directory.specs.Finds.{all_apart}
use Rattle.directory.specs.Entries.{entries_left}
use Rattle.directory.proofs.walk.Entries.all_apart.Given as goal

-- what is left answers for all
abbrev pub invariant-loop-entry : goal.invariant-loop-entry
invariant-loop-entry l = all_apart (entries_left l.self) ≡ all_apart (entries_left l.initial.self)

abbrev pub decreases-loop-entry : goal.decreases-loop-entry
decreases-loop-entry l = length (entries_left l.self)
