-- Where entries of a directory stand: their places, their segments' numbers, and the blocks at which they start.
use Rattle.std.specs.Prelude.{ℕ, ◌+◌, List, [], ◌∷◌, ◌++◌, take, Some, None, Option, slice_index}
use Rattle.std.specs.Option.{option_map}
use Rattle.codec.specs.declared.name.Name.{Name}
use Rattle.runfile.specs.declared.field.Ask.{Ask}
use Rattle.segment.specs.Directories.{Segment, Directory, flat, chain_of}
use Rattle.edits.specs.Entries.{is_named, is_tentative, is_protected, blocks_of}
use Rattle.edits.specs.Directories.{place_entries, first_block}
use Rattle.edits.specs.Asks.{Place, size, places, Choice, choice}
use Rattle.edits.specs.Values.{value_of}
use Rattle.places.specs.declared.place.FilePlace.{FilePlace}
use Rattle.places.specs.declared.place.EntryPlace.{EntryPlace}
use Rattle.places.specs.declared.place.EmptyPlace.{EmptyPlace}

-- the block at which entry i of the segment at place k starts, in a chain whose first entry starts at a block
unfoldable pub start_in : ℕ → List Segment → ℕ → ℕ → ℕ
start_in at ss k i = at + blocks_of (flat (take k ss) ++ take i (place_entries ss k))

-- the block at which the entry at a place starts
abbrev pub place_start : Directory → Place → ℕ
place_start d a = start_in (first_block d) d.segments a.segment a.index

-- the number of its segment
abbrev pub number_of : List ℕ → Place → ℕ
number_of dir a = slice_index (chain_of dir) a.segment

abbrev pub first : {X : Type 0} → List X → Option X
first [] = None
first (x ∷ xs) = Some x

abbrev pub entry_at : List ℕ → Place → EntryPlace
entry_at dir a =
    record {
      place = a.segment;
      segment = number_of dir a;
      index = a.index;
      start = place_start (value_of dir) a;
      length = size a;
    }

abbrev pub file_at : List ℕ → Place → FilePlace
file_at dir a =
    record { entry = entry_at dir a; date = a.entry.date; protected = is_protected a.entry }

-- where the file of a name stands
unfoldable pub file_place : List ℕ → Name → Option FilePlace
file_place dir name = option_map (file_at dir) (first (places (is_named name) (value_of dir).segments))

-- where the first tentative entry stands
unfoldable pub tentative_place : List ℕ → Option EntryPlace
tentative_place dir = option_map (entry_at dir) (first (places is_tentative (value_of dir).segments))

abbrev pub empty_at : List ℕ → Choice → EmptyPlace
empty_at dir c =
    record { entry = entry_at dir c.place; given = c.given }

-- where the empty that an ask gets stands
unfoldable pub empty_place : List ℕ → Ask → Option EmptyPlace
empty_place dir ask = option_map (empty_at dir) (choice ask (value_of dir))
