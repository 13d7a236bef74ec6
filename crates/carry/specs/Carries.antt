-- Bytes that hold a directory: segment 1 has the words S, H and x, and each segment of the chain its header and its entries.
use Rattle.std.specs.Prelude.{◌≡◌, ℕ, ◌-◌, ◌*◌, ◌≤◌, true, List, [], ◌∷◌, length, is_some}
use Rattle.std.specs.List.{AllByRecursion}
use Rattle.codec.specs.Words.{word_at, written}
use Rattle.volume.specs.declared.segment.Header.{Header}
use Rattle.volume.specs.Segments.{segment_bytes}
use Rattle.segment.specs.Segments.{segment_entries}
use Rattle.segment.specs.Chains.{segment_at, next_of}
use Rattle.segment.specs.Directories.{Directory}
use Rattle.edits.specs.Directories.{highest}
use Rattle.edits.specs.Laid.{Laid, laid}
use Rattle.edits.specs.Values.{value_at}

-- a segment with x extra bytes to an entry is there, with what its header holds
pub record Member (x : ℕ) (dir : List ℕ) (m : Laid) : Type 0 where
  pub some : 1 ≤ m.number
  pub inside : 1024 * m.number ≤ length dir
  pub next : next_of dir m.number ≡ m.next
  pub extra : word_at (segment_at dir m.number) 6 ≡ x
  pub start : word_at (segment_at dir m.number) 8 ≡ m.start
  pub readable : is_some (segment_entries x (segment_at dir m.number)) ≡ true
  pub entries : value_at x dir m.number ≡ m.entries

pub record Carries (dir : List ℕ) (d : Directory) : Type 0 where
  pub total : word_at dir 0 ≡ d.total
  pub used : word_at dir 4 ≡ highest d
  pub extra : word_at dir 6 ≡ d.extra
  pub members : AllByRecursion (Member d.extra dir) (laid d)

-- the header of a segment that is written: the directory's S, H and x, and its own next and start
abbrev pub header_of : Directory → Laid → Header
header_of d m = record { total = d.total; next = m.next; highest = highest d; extra = d.extra; start = m.start }

-- its bytes
unfoldable pub image : Directory → Laid → List ℕ
image d m = segment_bytes (header_of d m) m.entries

-- the bytes of a directory once some of its segments are written
unfoldable pub imaged : List ℕ → Directory → List Laid → List ℕ
imaged dir d [] = dir
imaged dir d (m ∷ ms) = imaged (written dir (1024 * (m.number - 1)) (image d m)) d ms
