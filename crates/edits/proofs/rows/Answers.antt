use Rattle.std.proofs.Common.{refl}
use Rattle.edits.specs.Entries.{count, blocks_of, same_name}
use Rattle.edits.specs.Directories.{flat, place_entries}
use Rattle.edits.specs.Asks.{places_in, places_from, first_of, largest, others}
use Rattle.edits.specs.Edits.{spliced, altered, run_start, run_end, emptied, parted, enter, empty_first, change_first, closed, close, purge}
use Rattle.edits.proofs.rows.Goals as goal

pub returns : goal.returns
unfolding count blocks_of same_name flat place_entries places_in places_from first_of largest others spliced altered run_start run_end emptied parted enter empty_first change_first closed close purge
returns c = ((refl, refl, refl, refl), (refl, refl), (refl, refl, refl))
