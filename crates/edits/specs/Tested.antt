-- Lawfulness as a test, the directory that INITIALIZE makes, the files as a list.
use Rattle.std.specs.Prelude.{◌≡◌, ℕ, zero, suc, ◌+◌, ◌-◌, ◌*◌, ◌%◌, ◌≤◌, Bool, true, false, cond, not, ◌&&◌, ◌||◌, leb, List, [], ◌∷◌, length, Some, None, Decides, Option, ◌==◌, nat_eq, nat_le}
use Rattle.codec.specs.declared.name.Name.{Name}
use Rattle.volume.specs.declared.entry.Entry.{Entry}
pub use Rattle.directory.specs.Rules.{every}
use Rattle.edits.specs.Entries.{is_file, is_tentative, is_named, is_misnamed, same_name, empty_of, blocks_of, count}
use Rattle.edits.specs.Directories.{Segment, Directory, highest, capacity_of, entries_of, first_block, meets, File, files, file, free, Lawful}

-- whether each of 1 to n does
abbrev pub up_to : (ℕ → Bool) → ℕ → Bool
up_to p zero = true
up_to p (suc n) = p (suc n) && up_to p n

abbrev pub begins : ℕ → List Segment → Bool
begins k [] = false
begins k (s ∷ ss) = s.number == k

-- rule 4: from segment 1, each of 1 to H once, and no other
abbrev pub chained : Directory → Bool
chained d =
    begins 1 d.segments
    && (up_to (λ k. nat_eq (meets k d.segments) 1) (highest d)
    && every (λ s. nat_le 1 s.number && nat_le s.number (highest d)) d.segments)

-- rules 2 to 5
abbrev pub shaped_well : ℕ → Directory → Bool
shaped_well v d =
    (nat_le 1 d.total && (nat_le d.total 31 && nat_le (7 + 2 * d.total) v))
    && (nat_le (highest d) d.total && (chained d && (d.extra % 2 == 0 && nat_le d.extra 64)))

-- no other file of an entry's name
abbrev pub alone : List Entry → Entry → Bool
alone es e = not (is_file e) || nat_le (count (is_named e.name) es) 1

-- rules 2 to 9
abbrev pub lawful : ℕ → ℕ → Directory → Bool
lawful outputs v d =
    shaped_well v d
    && (every (λ s. leb (length s.entries) (capacity_of d.extra)) d.segments
    && (count is_tentative (entries_of d) == outputs
    && (first_block d + blocks_of (entries_of d) == v
    && (count is_misnamed (entries_of d) == 0 && every (alone (entries_of d)) (entries_of d)))))

abbrev pub LawfulDecided : Type 0
LawfulDecided = (outputs v : ℕ) (d : Directory) → Decides (lawful outputs v d) (Lawful outputs v d)

-- what INITIALIZE makes of a level of v blocks
abbrev pub initial : ℕ → ℕ → Directory
initial s v =
    record { total = s; extra = 0; segments = record { number = 1; entries = empty_of (v - (6 + 2 * s)) ∷ [] } ∷ [] }

abbrev pub InitialLawful : Type 0
InitialLawful =
    (s v : ℕ) → 1 ≤ s → s ≤ 31 → 7 + 2 * s ≤ v
    → Lawful 0 v (initial s v) × ((m : Name) → file (initial s v) m ≡ None) × (free (initial s v) ≡ v - (6 + 2 * s))

-- the first file of a name among files
unfoldable pub first_named : Name → List File → Option File
first_named n [] = None
first_named n (f ∷ fs) = cond (same_name n f.name) (Some f) (first_named n fs)

-- the blocks of some files together
unfoldable pub used_by : List File → ℕ
used_by [] = 0
used_by (f ∷ fs) = f.length + used_by fs

-- the files that are listed are the files that are found by name
abbrev pub FilesListed : Type 0
FilesListed = (d : Directory) (n : Name) → file d n ≡ first_named n (files d)

-- the blocks behind the directory are those of the files and the free ones
abbrev pub UsedAndFree : Type 0
UsedAndFree = (v : ℕ) (d : Directory) → Lawful 0 v d → first_block d + (used_by (files d) + free d) ≡ v
