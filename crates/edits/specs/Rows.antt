-- Small directories, by computation: statuses and lengths of the entries, segment by segment.
use Rattle.std.specs.Prelude.{◌≡◌, ℕ, suc, ◌+◌, List, [], ◌∷◌, map, replicate, Ok, Err, Result}
use Rattle.runfile.specs.declared.field.Ask.TheVariants.{Half, Exact}
use Rattle.volume.specs.declared.fault.FileFault.{FileFault}
use Rattle.volume.specs.declared.entry.Status.{Status}
use Rattle.volume.specs.declared.entry.Status.TheVariants.{Tentative, Empty, Permanent, Protected}
use Rattle.codec.specs.declared.name.Name.{Name}
use Rattle.volume.specs.declared.entry.Entry.{Entry}
use Rattle.volume.specs.Faults.{file_number}
use Rattle.edits.specs.Entries.{empty_of}
use Rattle.edits.specs.Directories.{Segment, Directory}
use Rattle.edits.specs.Edits.{Entered, enter, close, purge}

-- a name by one number, of no type or of type BAD
abbrev pub called : ℕ → Name
called n = record { first = n; second = 0; kind = 0 }

abbrev pub file_entry : Name → ℕ → Entry
file_entry n len =
    record { status = Permanent; name = n; length = len; job = 0; date = 0; extra = replicate 64 0 }

-- a directory of 3 segments and 64 extra bytes, so of 12 entries to a segment
abbrev pub numbered : ℕ → List (List Entry) → List Segment
numbered k [] = []
numbered k (es ∷ ess) = record { number = k; entries = es } ∷ numbered (suc k) ess

abbrev pub holds : List (List Entry) → Directory
holds ess = record { total = 3; extra = 64; segments = numbered 1 ess }

-- what is shown of an entry: status, first word of its name, length
pub data Shown : Type 0 where
  tentative file guarded : ℕ → ℕ → Shown
  empty : ℕ → Shown

abbrev pub shown_as : Status → ℕ → ℕ → Shown
shown_as Tentative n len = tentative n len
shown_as Empty n len = empty len
shown_as Permanent n len = file n len
shown_as Protected n len = guarded n len

abbrev pub shown : Directory → List (ℕ × List Shown)
shown d = map (λ s. (s.number, map (λ e. shown_as e.status e.name.first e.length) s.entries)) d.segments

pub data Seen : Type 0 where
  seen : List (ℕ × List Shown) → Seen
  refused : ℕ → Seen

abbrev pub seen_as : Result Directory FileFault → Seen
seen_as (Ok d) = seen (shown d)
seen_as (Err e) = refused (file_number e)

-- ENTER, and then CLOSE with so many blocks
abbrev pub stored : Result Entered FileFault → ℕ → Seen
stored (Ok r) n = seen_as (close r.directory r.output n)
stored (Err e) n = refused (file_number e)

abbrev pub tried : Result Entered FileFault → Seen
tried (Ok r) = seen (shown (purge r.directory r.output))
tried (Err e) = refused (file_number e)

-- the rest and an old file behind it join; a rest of 0 is dropped, and an old file of 0 blocks stays as an empty of 0
abbrev pub ClosingRows : Type 0
ClosingRows =
    (stored (enter (holds ((empty_of 9 ∷ file_entry (called 1) 4 ∷ []) ∷ [])) (called 1) 0 (Exact 5) 0) 3
    ≡ seen ((1, file 1 3 ∷ empty 10 ∷ []) ∷ []))
    × (stored (enter (holds ((empty_of 5 ∷ file_entry (called 1) 4 ∷ []) ∷ [])) (called 1) 0 (Exact 5) 0) 5
    ≡ seen ((1, file 1 5 ∷ empty 4 ∷ []) ∷ []))
    × (stored (enter (holds ((empty_of 5 ∷ file_entry (called 1) 0 ∷ []) ∷ [])) (called 1) 0 (Exact 5) 0) 5
    ≡ seen ((1, file 1 5 ∷ empty 0 ∷ []) ∷ []))
    × (stored (enter (holds ((file_entry (called 1) 4 ∷ empty_of 5 ∷ []) ∷ [])) (called 1) 0 (Exact 5) 0) 2
    ≡ seen ((1, empty 4 ∷ file 1 2 ∷ empty 3 ∷ []) ∷ []))

-- a purge joins the whole run in its segment, and nothing across its border; ask 0 over 7 and 7 gets the second
abbrev pub PurgingRows : Type 0
PurgingRows =
    (tried (enter (holds ((empty_of 1 ∷ empty_of 2 ∷ empty_of 3 ∷ empty_of 4 ∷ []) ∷ (empty_of 5 ∷ []) ∷ [])) (called 1) 0 (Exact 3) 0)
    ≡ seen ((1, empty 10 ∷ []) ∷ (2, empty 5 ∷ []) ∷ []))
    × (stored (enter (holds ((empty_of 7 ∷ file_entry (called 2) 1 ∷ empty_of 7 ∷ []) ∷ [])) (called 1) 0 Half 0) 7
    ≡ seen ((1, empty 7 ∷ file 2 1 ∷ file 1 7 ∷ []) ∷ []))

-- a full segment is split, its second half next in the chain under number H + 1
abbrev pub six : ℕ → List Entry → List Entry
six n es =
    file_entry (called n) 1 ∷ file_entry (called (n + 1)) 1 ∷ file_entry (called (n + 2)) 1
    ∷ file_entry (called (n + 3)) 1 ∷ file_entry (called (n + 4)) 1 ∷ es

abbrev pub shown_six : ℕ → List Shown → List Shown
shown_six n es = file n 1 ∷ file (n + 1) 1 ∷ file (n + 2) 1 ∷ file (n + 3) 1 ∷ file (n + 4) 1 ∷ es

abbrev pub full : Entry → Entry → List Entry
full x y = six 10 (x ∷ y ∷ six 20 [])

abbrev pub SplitRows : Type 0
SplitRows =
    (stored (enter (holds (full (file_entry (called 3) 1) (empty_of 8) ∷ (empty_of 1 ∷ []) ∷ [])) (called 1) 0 (Exact 5) 0) 5
    ≡ seen ((1, shown_six 10 (file 3 1 ∷ [])) ∷ (3, file 1 5 ∷ empty 3 ∷ shown_six 20 []) ∷ (2, empty 1 ∷ []) ∷ []))
    × (stored (enter (holds (full (file_entry (called 3) 1) (empty_of 8) ∷ (empty_of 1 ∷ []) ∷ (empty_of 9 ∷ []) ∷ [])) (called 1) 0 (Exact 5) 0) 5
    ≡ refused 11)
    × (stored (enter (holds ((empty_of 1 ∷ []) ∷ [])) (called 1) 0 (Exact 5) 0) 5 ≡ refused 10)

abbrev pub Rows : Type 0
Rows = ClosingRows × PurgingRows × SplitRows
