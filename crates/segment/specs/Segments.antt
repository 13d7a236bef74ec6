-- Segments of the directory, read from their bytes.
use Rattle.std.specs.Prelude.{ℕ, zero, suc, ◌+◌, ◌*◌, cond, List, [], ◌∷◌, drop, Some, None, Option, ◌==◌}
use Rattle.std.specs.Option.{option_map}
use Rattle.codec.specs.Words.{word_at}
use Rattle.volume.specs.declared.entry.Entry.{Entry}
use Rattle.volume.specs.Segments.{capacity_of}
use Rattle.segment.specs.Entries.{entry_of}

-- where entry i of a segment begins, counted from 0
abbrev pub entry_start : ℕ → ℕ → ℕ
entry_start x i = 10 + i * (14 + x)

-- an entry, if there is one, before others, if there are such
abbrev pub before : Option Entry → Option (List Entry) → Option (List Entry)
before None r = None
before (Some e) r = option_map (λ es. e ∷ es) r

-- the entries at the front of some bytes, up to the word that ends a segment: at most n, each of one of the four statuses
unfoldable pub entries_in : ℕ → ℕ → List ℕ → Option (List Entry)
entries_in zero x bs = cond (word_at bs 0 == 2048) (Some []) None
entries_in (suc n) x bs =
    cond (word_at bs 0 == 2048) (Some []) (before (entry_of x bs) (entries_in n x (drop (14 + x) bs)))

-- the entries of a segment with x extra bytes to an entry
abbrev pub segment_entries : ℕ → List ℕ → Option (List Entry)
segment_entries x bs = entries_in (capacity_of x) x (drop 10 bs)
