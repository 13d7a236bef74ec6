use Rattle.directory.specs.Entries.{entries_left}
use Rattle.listing.proofs.Counted.{Adds}
use Rattle.listing.proofs.totals.totals_of.Given as goal

-- what is left adds up to all
abbrev pub invariant-loop-entry : goal.invariant-loop-entry
invariant-loop-entry l =
    (goal.iterator-loop-entry).can_next l.entry-iterator
    × (goal.iterator-loop-entry).is_finite l.entry-iterator
    × Adds l.totals (entries_left l.entry-iterator) (entries_left l.fn.entries)
