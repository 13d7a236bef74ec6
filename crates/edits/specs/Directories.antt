-- A directory as a value, its files, and when it is lawful.
use Rattle.std.specs.Prelude.{◌≡◌, ℕ, zero, suc, ◌+◌, ◌*◌, ◌%◌, ◌≤◌, Bool, cond, ◌&&◌, List, [], ◌∷◌, length, Option, nat_eq, nat_le}
use Rattle.std.specs.List.{AllByRecursion}
use Rattle.std.specs.Option.{option_map}
use Rattle.codec.specs.declared.name.Name.{Name}
use Rattle.volume.specs.declared.entry.Entry.{Entry}
pub use Rattle.volume.specs.Segments.{capacity_of}
pub use Rattle.segment.specs.Directories.{Segment, Directory}
unfoldable pub use Rattle.segment.specs.Directories.{flat}
use Rattle.edits.specs.Entries.{is_file, is_empty, is_tentative, is_protected, is_named, is_misnamed, blocks_of, count, Standing, standing}

-- the highest segment in use
abbrev pub highest : Directory → ℕ
highest d = length d.segments

-- the entries of the segment at a place of the chain, counted from 0
unfoldable pub place_entries : List Segment → ℕ → List Entry
place_entries [] k = []
place_entries (s ∷ ss) zero = s.entries
place_entries (s ∷ ss) (suc k) = place_entries ss k

abbrev pub entries_of : Directory → List Entry
entries_of d = flat d.segments

-- the block behind the directory, where the first entry starts
abbrev pub first_block : Directory → ℕ
first_block d = 6 + 2 * d.total

pub record File : Type 0 where
  pub name : Name
  pub start : ℕ
  pub length : ℕ
  pub date : ℕ
  pub guarded : Bool

abbrev pub file_of : Standing → File
file_of s =
    record {
      name = s.entry.name;
      start = s.start;
      length = s.entry.length;
      date = s.entry.date;
      guarded = is_protected s.entry;
    }

-- the files of a list of entries that begins at a block
unfoldable pub files_from : ℕ → List Entry → List File
files_from at [] = []
files_from at (e ∷ es) =
    cond (is_file e) (file_of (record { start = at; entry = e }) ∷ files_from (at + e.length) es)
    (files_from (at + e.length) es)

-- the files in chain order
abbrev pub files : Directory → List File
files d = files_from (first_block d) (entries_of d)

-- the entry of the file of a name, if there is one, and where it starts
abbrev pub entry_named : Directory → Name → Option Standing
entry_named d n = standing (is_named n) (first_block d) (entries_of d)

-- the file of a name, if there is one
abbrev pub file : Directory → Name → Option File
file d n = option_map file_of (entry_named d n)

-- the blocks of the empties together
unfoldable pub free_of : List Entry → ℕ
free_of [] = 0
free_of (e ∷ es) = cond (is_empty e) e.length 0 + free_of es

abbrev pub free : Directory → ℕ
free d = free_of (entries_of d)

-- the chain begins with segment k
abbrev pub Begins : ℕ → List Segment → Type 0
Begins k [] = ⊥
Begins k (s ∷ ss) = s.number ≡ k

-- how often a chain meets segment k
abbrev pub meets : ℕ → List Segment → ℕ
meets k ss = count (λ s. nat_eq s.number k) ss

-- rules 2 to 5 in a level of v blocks: the chain from segment 1 meets each of 1 to H once, and no other
pub record Shaped (v : ℕ) (d : Directory) : Type 0 where
  pub some_segments : 1 ≤ d.total
  pub few_segments : d.total ≤ 31
  pub fits : 7 + 2 * d.total ≤ v
  pub in_use : highest d ≤ d.total
  pub begins : Begins 1 d.segments
  pub each_once : (k : ℕ) → meets k d.segments ≡ cond (nat_le 1 k && nat_le k (highest d)) 1 0
  pub even : d.extra % 2 ≡ 0
  pub small : d.extra ≤ 64

-- rules 2 to 9, with so many outputs open
pub record Lawful (outputs v : ℕ) (d : Directory) : Type 0 where
  pub shaped : Shaped v d
  pub room : AllByRecursion (λ s. length s.entries ≤ capacity_of d.extra) d.segments
  pub settled : count is_tentative (entries_of d) ≡ outputs
  pub filled : first_block d + blocks_of (entries_of d) ≡ v
  pub named : count is_misnamed (entries_of d) ≡ 0
  pub apart : (n : Name) → count (is_named n) (entries_of d) ≤ 1
