-- The entries of a chain, which rules 6, 8 and 9 speak of: what they are, and their order.
use Rattle.std.specs.Prelude.{◌≡◌, ℕ, ◌+◌, ◌*◌, ◌/◌, ◌<◌, ◌≤◌, List, length, take, Some, slice_index_or}
use Rattle.codec.specs.Words.{word_at}
use Rattle.volume.specs.declared.entry.Entry.{Entry}
use Rattle.segment.specs.Entries.{status_of}
use Rattle.segment.specs.Segments.{segment_entries}
use Rattle.segment.specs.Directories.{flat, segments_of}
use Rattle.directory.specs.declared.placed.Placed.{Placed}
use Rattle.directory.specs.Walks.{blocks_of}
use Rattle.directory.specs.Rules.{all_placed}
use Rattle.rulebook.specs.Entries.{EntriesAt}

-- the words of an entry from a place on: status, three of the name, length, and behind the job word the date
pub record HasWords (bytes : List ℕ) (at : ℕ) (e : Entry) : Type 0 where
  pub status : status_of (word_at bytes at) ≡ Some e.status
  pub first : word_at bytes (at + 2) ≡ e.name.first
  pub second : word_at bytes (at + 4) ≡ e.name.second
  pub kind : word_at bytes (at + 6) ≡ e.name.kind
  pub length : word_at bytes (at + 8) ≡ e.length
  pub date : word_at bytes (at + 12) ≡ e.date

-- the entries of a segment: as many as stand before its end word, each with its words
pub record AreEntries (x : ℕ) (bytes : List ℕ) (es : List Entry) : Type 0 where
  pub few : length es ≤ 1012 / (14 + x)
  pub stand : EntriesAt x bytes 10 (length es)
  pub each : (i : ℕ) (d : Entry) → i < length es → HasWords bytes (10 + i * (14 + x)) (slice_index_or es i d)

abbrev pub EntriesRead : Type 0
EntriesRead = (x : ℕ) (bytes : List ℕ) (es : List Entry) → segment_entries x bytes ≡ Some es → AreEntries x bytes es

-- an entry in its place, starting at a block
pub record IsPlaced (p : Placed) (e : Entry) (at : ℕ) : Type 0 where
  pub status : p.status ≡ e.status
  pub name : p.name ≡ e.name
  pub length : p.length ≡ e.length
  pub date : p.date ≡ e.date
  pub start : p.start ≡ at

-- the entries es, in their order, each starting at a block plus the blocks of those before it
pub record InOrder (at : ℕ) (ps : List Placed) (es : List Entry) : Type 0 where
  pub many : length ps ≡ length es
  pub each : (i : ℕ) (d : Placed) (c : Entry) → i < length es → IsPlaced (slice_index_or ps i d) (slice_index_or es i c) (at + blocks_of (take i es))

abbrev pub EntriesInOrder : Type 0
EntriesInOrder =
    (x : ℕ) (dir ks : List ℕ) (at : ℕ) → InOrder at (all_placed x dir ks at) (flat (segments_of x dir ks))
