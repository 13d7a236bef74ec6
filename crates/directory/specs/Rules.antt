-- The rules of a sound level, on the bytes of its directory: which is the first that is broken.
use Rattle.std.specs.Prelude.{ℕ, ◌+◌, ◌*◌, ◌%◌, Bool, false, cond, not, ◌&&◌, List, [], ◌∷◌, length, is_some, Some, None, Option, ◌==◌, nat_le, slice_index}
use Rattle.std.specs.List.{list_all, list_any}
use Rattle.codec.specs.Words.{word_at}
use Rattle.volume.specs.declared.entry.Entry.{Entry}
use Rattle.device.specs.Blocks.{any}
use Rattle.segment.specs.Segments.{entry_start, segment_entries}
use Rattle.segment.specs.Chains.{segment_at, next_of, chain_from}
use Rattle.segment.specs.Directories.{entries_at}
use Rattle.directory.specs.declared.placed.Placed.{Placed}
use Rattle.directory.specs.declared.pending.Pending.{Pending}
use Rattle.directory.specs.Walks.{spot, blocks_of, left}
use Rattle.directory.specs.Finds.{tentatives, all_well_named, all_apart}

-- whether a test holds of each
abbrev pub every : {X : Type 0} → (X → Bool) → List X → Bool
every p xs = list_all p xs

-- whether k is met
abbrev pub meets : ℕ → List ℕ → Bool
meets k ks = list_any (λ j. j == k) ks

-- the entries of a chain whose first starts at a block
abbrev pub all_placed : ℕ → List ℕ → List ℕ → ℕ → List Placed
all_placed x dir ks at = left x dir ks (spot 0 0 at)

-- rule 3: from 1 to all segments are in use
abbrev pub in_use : ℕ → ℕ → Bool
in_use h s = nat_le 1 h && nat_le h s

-- rule 5: extra bytes are even, at most 64, and equal along the chain
abbrev pub same_extra : ℕ → List ℕ → ℕ → Bool
same_extra x dir k = word_at (segment_at dir k) 6 == x

abbrev pub extra_sound : ℕ → List ℕ → List ℕ → Bool
extra_sound x dir ks = x % 2 == 0 && (nat_le x 64 && every (same_extra x dir) ks)

-- rule 6: each segment has at most E entries, each of one of the four statuses, then the end word
abbrev pub lawful_at : ℕ → List ℕ → ℕ → Bool
lawful_at x dir k = is_some (segment_entries x (segment_at dir k))

-- n bytes from a place on are the first n of others
unfoldable pub same_bytes : List ℕ → ℕ → ℕ → List ℕ → Bool
same_bytes bytes at n others = not (any n (λ i. not (slice_index bytes (at + i) == slice_index others i)))

-- two entries of a segment, from an index on, have these bytes
abbrev pub two_in : ℕ → List ℕ → ℕ → List ℕ → Option (List Entry) → Bool
two_in x segment i bytes None = false
two_in x segment i bytes (Some es) = nat_le (i + 2) (length es) && same_bytes segment (entry_start x i) (2 * (14 + x)) bytes

abbrev pub two_stand : ℕ → List ℕ → ℕ → List ℕ → Bool
two_stand x segment i bytes = two_in x segment i bytes (segment_entries x segment)

-- an open output's entry and the next are entries of a segment of the chain, with the bytes that they had
abbrev pub pending_stands : ℕ → List ℕ → List ℕ → Pending → Bool
pending_stands x dir ks p = meets p.segment ks && two_stand x (segment_at dir p.segment) p.index p.entries

-- no other entry is tentative
abbrev pub open_stands : ℕ → List ℕ → List ℕ → Option Pending → List Placed → Bool
open_stands x dir ks None ps = tentatives ps == 0
open_stands x dir ks (Some p) ps = tentatives ps == 1 && pending_stands x dir ks p

-- rule 7: the segments of a chain begin one where the other ends, the first at a block, and the last ends at v
unfoldable pub contiguous_from : ℕ → List ℕ → ℕ → ℕ → List ℕ → Bool
contiguous_from x dir v at [] = at == v
contiguous_from x dir v at (k ∷ ks) =
    (word_at (segment_at dir k) 8 == at) && contiguous_from x dir v (at + blocks_of (entries_at x dir k)) ks

-- rules 6 (its second part) to 9, once each segment is lawful
unfoldable pub broken_late : ℕ → List ℕ → ℕ → ℕ → Option Pending → List ℕ → ℕ
broken_late x dir v at output ks =
    cond (open_stands x dir ks output (all_placed x dir ks at))
    (cond (contiguous_from x dir v at ks)
    (cond (all_well_named (all_placed x dir ks at)) (cond (all_apart (all_placed x dir ks at)) 0 9) 8)
    7)
    6

-- the first broken rule of 5 to 9 along a chain, or 0
unfoldable pub broken_along : ℕ → List ℕ → ℕ → ℕ → Option Pending → List ℕ → ℕ
broken_along x dir v at output ks =
    cond (extra_sound x dir ks) (cond (every (lawful_at x dir) ks) (broken_late x dir v at output ks) 6) 5

abbrev pub broken_by : List ℕ → ℕ → Option Pending → Option (List ℕ) → ℕ
broken_by dir v output None = 4
broken_by dir v output (Some ks) = broken_along (word_at dir 6) dir v (6 + 2 * word_at dir 0) output ks

-- the first broken rule of 3 to 9, or 0, with the words S, H and x of segment 1
unfoldable pub broken_rule : List ℕ → ℕ → Option Pending → ℕ
broken_rule dir v output =
    cond (in_use (word_at dir 4) (word_at dir 0))
    (broken_by dir v output (chain_from (word_at dir 4) (word_at dir 4) (next_of dir) 1))
    3
