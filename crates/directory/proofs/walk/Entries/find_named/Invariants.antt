use Rattle.std.proofs.Common.{◌≡◌}
use Rattle.directory.specs.Finds.{first_named}
use Rattle.directory.specs.Entries.{entries_left}
use Rattle.directory.proofs.walk.Entries.find_named.Given as goal

-- what is left answers for all
abbrev pub invariant-loop-entry : goal.invariant-loop-entry
invariant-loop-entry l = first_named l.name (entries_left l.entry-iterator) ≡ first_named l.name (entries_left l.self)
