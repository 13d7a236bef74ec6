-- Rules 8 and 9, of the names of files.
use Rattle.std.specs.Prelude.{◌≡◌, ℕ, ◌<◌, ◌⊎◌, List, length, Decides, ◌≢◌, slice_index_or}
use Rattle.std.specs.List.{AllByRecursion}
use Rattle.codec.specs.declared.name.Name.{Name}
use Rattle.volume.specs.declared.entry.Status.TheVariants.{Permanent, Protected}
use Rattle.directory.specs.declared.placed.Placed.{Placed}
use Rattle.directory.specs.Finds.{all_well_named, all_apart}

-- a file is a permanent entry, protected or not
abbrev pub IsFile : Placed → Type 0
IsFile p = (p.status ≡ Permanent) ⊎ (p.status ≡ Protected)

abbrev pub WordsBelow : Name → Type 0
WordsBelow n = (n.first < 64000) × (n.second < 64000) × (n.kind < 64000)

-- rule 8: the three name words of a file are below 64,000
abbrev pub FilesWellNamed : List Placed → Type 0
FilesWellNamed ps = AllByRecursion (λ p. IsFile p → WordsBelow p.name) ps

-- rule 9: of two files, at different places among the entries, the names differ
abbrev pub FilesApart : List Placed → Type 0
FilesApart ps =
    (i j : ℕ) (d : Placed) → i < j → j < length ps → IsFile (slice_index_or ps i d) → IsFile (slice_index_or ps j d)
    → (slice_index_or ps i d).name ≢ (slice_index_or ps j d).name

abbrev pub RuleEight : Type 0
RuleEight = (ps : List Placed) → Decides (all_well_named ps) (FilesWellNamed ps)

abbrev pub RuleNine : Type 0
RuleNine = (ps : List Placed) → Decides (all_apart ps) (FilesApart ps)
