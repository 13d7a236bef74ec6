-- Entries that are looked for along the chain.
use Rattle.std.specs.Prelude.{ℕ, ◌+◌, ◌*◌, Bool, List, filter, Option}
use Rattle.codec.specs.Words.{word_at}
use Rattle.segment.specs.Directories.{chain_of}
use Rattle.directory.specs.declared.placed.Placed.{Placed}
use Rattle.directory.specs.Walks.{spot, chained}
use Rattle.edits.specs.Entries.{empty_status, protected_status}
use Rattle.places.specs.declared.place.EntryPlace.{EntryPlace}
use Rattle.places.specs.declared.place.FilePlace.{FilePlace}
use Rattle.places.specs.Places.{first}

abbrev pub is_empty : Placed → Bool
is_empty p = empty_status p.status

-- what is told of an entry with its segment's place
abbrev pub entry_told : ℕ × Placed → EntryPlace
entry_told e =
    record { place = e.0; segment = e.1.segment; index = e.1.index; start = e.1.start; length = e.1.length }

-- and of a file
abbrev pub file_told : ℕ × Placed → FilePlace
file_told e = record { entry = entry_told e; date = e.1.date; protected = protected_status e.1.status }

-- the entries of a directory, each with its segment's place in the chain
unfoldable pub chained_of : List ℕ → List (ℕ × Placed)
chained_of dir = chained (word_at dir 6) dir (chain_of dir) (spot 0 0 (6 + 2 * word_at dir 0))

-- those that pass a test
unfoldable pub passing : (Placed → Bool) → List (ℕ × Placed) → List (ℕ × Placed)
passing q es = filter (λ e. q e.1) es

-- the first that passes a test
unfoldable pub first_passing : (Placed → Bool) → List (ℕ × Placed) → Option (ℕ × Placed)
first_passing q es = first (passing q es)
