-- Segments of the directory: a header, entries, the word that ends it, zeros.
use Rattle.std.specs.Prelude.{ℕ, ◌+◌, ◌-◌, ◌/◌, List, ◌++◌, length, replicate}
use Rattle.std.specs.List.{flat_map}
use Rattle.codec.specs.Words.{word_bytes}
use Rattle.volume.specs.declared.entry.Entry.{Entry}
use Rattle.volume.specs.declared.segment.Header.{Header}
use Rattle.volume.specs.Entries.{entry_bytes}

-- how many entries with x extra bytes a segment can hold
abbrev pub capacity_of : ℕ → ℕ
capacity_of x = 1012 / (14 + x)

-- the five words of a header
unfoldable pub header_bytes : Header → List ℕ
header_bytes h =
    word_bytes h.total
    ++ (word_bytes h.next ++ (word_bytes h.highest ++ (word_bytes h.extra ++ word_bytes h.start)))

-- a segment up to and with the word that ends it
unfoldable pub used_bytes : Header → List Entry → List ℕ
used_bytes h es = header_bytes h ++ flat_map (entry_bytes h.extra) es ++ word_bytes 2048

-- the 1,024 bytes of a segment
unfoldable pub segment_bytes : Header → List Entry → List ℕ
segment_bytes h es = used_bytes h es ++ replicate (1024 - length (used_bytes h es)) 0
