-- The directory that some bytes stand for.
use Rattle.std.specs.Prelude.{ℕ, List, [], ◌∷◌, ◌++◌}
use Rattle.std.specs.Option.{unwrap_or}
use Rattle.codec.specs.Words.{word_at}
use Rattle.volume.specs.declared.entry.Entry.{Entry}
use Rattle.segment.specs.Segments.{segment_entries}
use Rattle.segment.specs.Chains.{segment_at, next_of, chain_from}

-- a segment in use: its number and its entries
pub record Segment : Type 0 where
  pub number : ℕ
  pub entries : List Entry

-- total segments, extra bytes to an entry, the segments in chain order
pub record Directory : Type 0 where
  pub total : ℕ
  pub extra : ℕ
  pub segments : List Segment

-- the entries of all segments in chain order
unfoldable pub flat : List Segment → List Entry
flat [] = []
flat (s ∷ ss) = s.entries ++ flat ss

-- the entries of segment k, none where they break the rules
abbrev pub entries_at : ℕ → List ℕ → ℕ → List Entry
entries_at x dir k = unwrap_or (segment_entries x (segment_at dir k)) []

-- the segments of a chain
unfoldable pub segments_of : ℕ → List ℕ → List ℕ → List Segment
segments_of x dir [] = []
segments_of x dir (k ∷ ks) = record { number = k; entries = entries_at x dir k } ∷ segments_of x dir ks

-- the chain from segment 1, none where it breaks rule 4
unfoldable pub chain_of : List ℕ → List ℕ
chain_of dir = unwrap_or (chain_from (word_at dir 4) (word_at dir 4) (next_of dir) 1) []

-- the directory, by the words of segment 1
unfoldable pub directory_of : List ℕ → Directory
directory_of dir =
    record { total = word_at dir 0; extra = word_at dir 6; segments = segments_of (word_at dir 6) dir (chain_of dir) }
