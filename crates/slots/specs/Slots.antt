-- One segment of the directory as a list of entries.
use Rattle.std.specs.Prelude.{ℕ, List, take}
use Rattle.codec.specs.Words.{word_at}
use Rattle.volume.specs.declared.entry.Entry.{Entry}
use Rattle.volume.specs.declared.segment.Header.{Header}
use Rattle.segment.specs.Chains.{segment_at, next_of}
use Rattle.slots.specs.declared.entries.Slots.{Slots}

-- the entries that count
abbrev pub slot_entries : Slots → List Entry
slot_entries s = take s.count s.entries

-- the header of segment k: total, highest and extra are those of segment 1
abbrev pub header_at : List ℕ → ℕ → Header
header_at dir k =
    record {
      total = word_at dir 0;
      next = next_of dir k;
      highest = word_at dir 4;
      extra = word_at dir 6;
      start = word_at (segment_at dir k) 8;
    }
