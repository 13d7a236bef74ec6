-- What is written is read back.
use Rattle.std.specs.Prelude.{◌≡◌, ℕ, ◌≤◌, List, ◌++◌, length, Some}
use Rattle.std.specs.List.{AllByRecursion}
use Rattle.codec.specs.Words.{word_at}
use Rattle.volume.specs.declared.entry.Entry.{Entry}
use Rattle.volume.specs.declared.segment.Header.{Header}
use Rattle.volume.specs.Entries.{entry_bytes}
use Rattle.volume.specs.Segments.{capacity_of, segment_bytes}
use Rattle.segment.specs.Entries.{entry_of, LawfulEntry}
use Rattle.segment.specs.Segments.{segment_entries}

-- an entry, whatever stands behind it
abbrev pub EntryReadsBack : Type 0
EntryReadsBack =
    (x : ℕ) (e : Entry) (rest : List ℕ) → LawfulEntry x e → entry_of x (entry_bytes x e ++ rest) ≡ Some e

-- the five words at the front of a segment
pub record HeaderRead (h : Header) (bs : List ℕ) : Type 0 where
  pub total : word_at bs 0 ≡ h.total
  pub next : word_at bs 2 ≡ h.next
  pub highest : word_at bs 4 ≡ h.highest
  pub extra : word_at bs 6 ≡ h.extra
  pub start : word_at bs 8 ≡ h.start

abbrev pub HeaderReadsBack : Type 0
HeaderReadsBack = (h : Header) (es : List Entry) → HeaderRead h (segment_bytes h es)

-- the entries of a segment
abbrev pub SegmentReadsBack : Type 0
SegmentReadsBack =
    (h : Header) (es : List Entry) → length es ≤ capacity_of h.extra → AllByRecursion (LawfulEntry h.extra) es
    → segment_entries h.extra (segment_bytes h es) ≡ Some es

-- entries that were read can be written
abbrev pub ReadAreLawful : Type 0
ReadAreLawful =
    (x : ℕ) (bs : List ℕ) (es : List Entry) → x ≤ 64 → segment_entries x bs ≡ Some es
    → (length es ≤ capacity_of x) × AllByRecursion (LawfulEntry x) es

-- and then read again
abbrev pub RewrittenReadsBack : Type 0
RewrittenReadsBack =
    (h : Header) (bs : List ℕ) (es : List Entry) → h.extra ≤ 64 → segment_entries h.extra bs ≡ Some es
    → segment_entries h.extra (segment_bytes h es) ≡ Some es
