-- One segment of a directory in the workspace, with its entries changed.
use Rattle.std.specs.Prelude.{ℕ, ◌-◌, ◌*◌, ◌<◌, ◌≤◌, List, [], length, slice_index_or}
use Rattle.codec.specs.Words.{word_at, written}
use Rattle.volume.specs.declared.entry.Entry.{Entry}
use Rattle.volume.specs.declared.entry.Status.TheVariants.{Tentative}
use Rattle.volume.specs.Segments.{segment_bytes}
use Rattle.directory.specs.Walks.{blocks_of, Readable}
use Rattle.edits.specs.Values.{value_at}
use Rattle.slots.specs.Slots.{header_at}

-- the entries of segment k
abbrev pub entries_in : List ℕ → ℕ → List Entry
entries_in dir k = value_at (word_at dir 6) dir k

-- entry i of segment k; past the last one a record of zeros
abbrev pub entry_in : List ℕ → ℕ → ℕ → Entry
entry_in dir k i =
    slice_index_or (entries_in dir k) i
    (record { status = Tentative; name = record { first = 0; second = 0; kind = 0 }; length = 0; job = 0; date = 0; extra = [] })

-- entry i of segment k of a sound directory
pub record EntryIn (dir : List ℕ) (k i : ℕ) : Type 0 where
  pub readable : Readable (word_at dir 6) dir k
  pub small : word_at dir 6 ≤ 64
  pub inside : i < length (entries_in dir k)
  pub blocks : blocks_of (entries_in dir k) < 65536

-- the directory with segment k written again, under its header and with its entries changed
unfoldable pub with_entries : List ℕ → ℕ → (List Entry → List Entry) → List ℕ
with_entries dir k f = written dir (1024 * (k - 1)) (segment_bytes (header_at dir k) (f (entries_in dir k)))
