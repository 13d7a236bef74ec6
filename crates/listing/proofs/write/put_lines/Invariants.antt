use Rattle.std.proofs.Common.{◌≡◌, ◌+◌, ◌≤◌, length}
use Rattle.codec.specs.Words.{written}
use Rattle.directory.specs.Entries.{entries_left}
use Rattle.listing.specs.Listings.{file_lines}
use Rattle.listing.proofs.write.put_lines.Given as goal

-- the lines that are left, written behind those so far, make all
abbrev pub invariant-loop-entry : goal.invariant-loop-entry
invariant-loop-entry l =
    (goal.iterator-loop-entry).can_next l.entry-iterator
    × (goal.iterator-loop-entry).is_finite l.entry-iterator
    × (written l.out l.at (file_lines (entries_left l.entry-iterator))
    ≡ written l.initial.out 0 (file_lines (entries_left l.fn.entries)))
    × (l.at + length (file_lines (entries_left l.entry-iterator)) ≤ length l.initial.out)
