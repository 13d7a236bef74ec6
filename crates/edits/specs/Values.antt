-- The directory that some bytes stand for, as a value. Of an empty its length alone counts.
use Rattle.std.specs.Prelude.{ℕ, cond, List, [], ◌∷◌, map}
use Rattle.codec.specs.Words.{word_at}
use Rattle.volume.specs.declared.entry.Entry.{Entry}
use Rattle.volume.specs.Entries.{empty_of}
use Rattle.segment.specs.Directories.{Segment, Directory, entries_at, chain_of}
use Rattle.edits.specs.Entries.{is_empty}

-- an entry as it is written again: an empty is zero but for status and length
abbrev pub cleaned : Entry → Entry
cleaned e = cond (is_empty e) (empty_of e.length) e

-- the entries of segment k
abbrev pub value_at : ℕ → List ℕ → ℕ → List Entry
value_at x dir k = map cleaned (entries_at x dir k)

-- the segments of a chain
unfoldable pub values_of : ℕ → List ℕ → List ℕ → List Segment
values_of x dir [] = []
values_of x dir (k ∷ ks) = record { number = k; entries = value_at x dir k } ∷ values_of x dir ks

-- the directory, by the words of segment 1
unfoldable pub value_of : List ℕ → Directory
value_of dir =
    record { total = word_at dir 0; extra = word_at dir 6; segments = values_of (word_at dir 6) dir (chain_of dir) }
