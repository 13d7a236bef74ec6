-- Segments written into the bytes of a directory.
use Rattle.std.specs.Prelude.{◌≡◌, ℕ, zero, suc, ◌*◌, ◌<◌, ◌≤◌, ◌⊎◌, List, [], ◌∷◌, ◌++◌, map, length, take, drop, ◌≢◌, slice_index_or}
use Rattle.std.specs.List.{AllByRecursion}
use Rattle.volume.specs.declared.entry.Entry.{Entry}
use Rattle.volume.specs.Segments.{capacity_of}
use Rattle.segment.specs.Entries.{LawfulEntry}
use Rattle.segment.specs.Directories.{Directory}
use Rattle.directory.specs.Walks.{blocks_of}
use Rattle.edits.specs.Directories.{highest, place_entries, Shaped}
use Rattle.edits.specs.Edits.{altered, holding}
use Rattle.edits.specs.Laid.{Laid, laid}
use Rattle.edits.specs.Values.{cleaned}
use Rattle.carry.specs.Carries.{Member, Carries, imaged}

-- a segment with x extra bytes to an entry that can be written into n bytes: its empties are zero but for status and length
pub record Fits (n x : ℕ) (m : Laid) : Type 0 where
  pub some : 1 ≤ m.number
  pub inside : 1024 * m.number ≤ n
  pub few : length m.entries ≤ capacity_of x
  pub lawful : AllByRecursion (LawfulEntry x) m.entries
  pub clean : map cleaned m.entries ≡ m.entries

-- m is one of some segments
abbrev pub Among : List Laid → Laid → Type 0
Among [] m = ⊥
Among (w ∷ ms) m = (m ≡ w) ⊎ Among ms m

-- no two have one number
abbrev pub Settled : List Laid → Type 0
Settled [] = Unit {0}
Settled (m ∷ ms) = AllByRecursion (λ w. w.number ≢ m.number) ms × Settled ms

-- segment 1 is written, or H stays
abbrev pub Heads : Directory → Directory → List Laid → Type 0
Heads old new ms =
    ((m : Laid) × Among ms m × (m.number ≡ 1)) ⊎ (AllByRecursion (λ w. w.number ≢ 1) ms × (highest new ≡ highest old))

-- each segment of the new chain is written, or is as it was
abbrev pub WrittenCarries : Type 0
WrittenCarries =
    (dir : List ℕ) (old new : Directory) (ms : List Laid)
    → Carries dir old → new.total ≡ old.total → new.extra ≡ old.extra
    → AllByRecursion (Fits (length dir) new.extra) ms → Settled ms → Heads old new ms
    → AllByRecursion (λ m. Among ms m ⊎ (AllByRecursion (λ w. w.number ≢ m.number) ms × Member new.extra dir m)) (laid new)
    → Carries (imaged dir new ms) new

-- what stands past the end of a chain
abbrev pub no_segment : Laid
no_segment = record { number = 0; next = 0; start = 0; entries = [] }

-- the segments at some places of the chain, counted from 0
abbrev pub at_places : List Laid → List ℕ → List Laid
at_places ms ks = map (λ k. slice_index_or ms k no_segment) ks

-- the entries of a segment that takes the place of one with other entries, as many blocks and room for them
pub record Suits (x : ℕ) (old new : List Entry) : Type 0 where
  pub blocks : blocks_of new ≡ blocks_of old
  pub few : length new ≤ capacity_of x
  pub lawful : AllByRecursion (LawfulEntry x) new
  pub clean : map cleaned new ≡ new

-- an edit of one segment: its place alone is written
abbrev pub AlteredCarries : Type 0
AlteredCarries =
    (dir : List ℕ) (d : Directory) (k : ℕ) (f : List Entry → List Entry) (v : ℕ)
    → Carries dir d → Shaped v d → k < length d.segments
    → Suits d.extra (place_entries d.segments k) (f (place_entries d.segments k))
    → Carries (imaged dir (holding d (altered k f d.segments)) (at_places (laid (holding d (altered k f d.segments))) (k ∷ [])))
    (holding d (altered k f d.segments))

-- a segment in two, the second half under the number after the highest in use: both are written, and segment 1 for its H
abbrev pub split_places : ℕ → List ℕ
split_places zero = 0 ∷ 1 ∷ []
split_places (suc k) = suc k ∷ suc (suc k) ∷ 0 ∷ []

abbrev pub PartedCarries : Type 0
PartedCarries =
    (dir : List ℕ) (d new : Directory) (k : ℕ) (one two : Laid) (v : ℕ)
    → Carries dir d → Shaped v d → k < length d.segments → new.total ≡ d.total → new.extra ≡ d.extra
    → laid new ≡ take k (laid d) ++ one ∷ two ∷ drop (suc k) (laid d)
    → one.number ≡ (slice_index_or (laid d) k no_segment).number → two.number ≡ suc (highest d)
    → AllByRecursion (Fits (length dir) new.extra) (at_places (laid new) (split_places k))
    → Carries (imaged dir new (at_places (laid new) (split_places k))) new
