-- What the edits keep.
use Rattle.std.specs.Prelude.{◌≡◌, ℕ, suc, ◌+◌, ◌<◌, ◌≤◌, Bool, true, false, ◌⊎◌, List, ◌∷◌, ◌++◌, length, take, drop, IfSome, IfOk, Some, None, ◌≢◌}
use Rattle.std.specs.List.{prefix_len, suffix_len}
use Rattle.std.specs.Option.{option_map}
use Rattle.runfile.specs.declared.field.Ask.{Ask}
use Rattle.codec.specs.declared.name.Name.{Name}
use Rattle.volume.specs.declared.entry.Entry.{Entry}
use Rattle.edits.specs.Entries.{is_empty, is_tentative, empty_of, tentative_of, renamed, put, lawful_words, blocks_of, standing}
use Rattle.edits.specs.Directories.{Segment, Directory, flat, place_entries, entries_of, first_block, entry_named, File, files, file, free, Lawful}
use Rattle.edits.specs.Asks.{size, choice}
use Rattle.edits.specs.Edits.{split, emptied, protection, Output, Entered, enter, close, purge, delete, rename, protect}

-- an entry stands at index i of the segment at place k
abbrev pub Stands : List Segment → ℕ → ℕ → Entry → Type 0
Stands ss k i e = drop i (place_entries ss k) ≡ e ∷ drop (suc i) (place_entries ss k)

-- a split keeps the flat list
abbrev pub SplitKeeps : Type 0
SplitKeeps = (d : Directory) (k : ℕ) → entries_of (split d k) ≡ entries_of d

-- what an ask gets is an empty of the directory, at least as long as what is given
abbrev pub ChoiceStands : Type 0
ChoiceStands =
    (d : Directory) (ask : Ask)
    → IfSome (choice ask d)
    (λ c. Stands d.segments c.place.segment c.place.index c.place.entry
    × (is_empty c.place.entry ≡ true)
    × (c.given ≤ size c.place))

-- an output stands in a directory as ENTER left it
pub record Opened (d : Directory) (out : Output) : Type 0 where
  pub tentative : is_tentative out.entry ≡ true
  pub lawful : lawful_words out.entry.name ≡ true
  pub empty : is_empty out.behind ≡ true
  pub here : Stands d.segments out.segment out.index out.entry
  pub next : Stands d.segments out.segment (suc out.index) out.behind

-- the block at which an output starts
abbrev pub output_start : Directory → Output → ℕ
output_start d out =
    first_block d + blocks_of (flat (take out.segment d.segments) ++ take out.index (place_entries d.segments out.segment))

-- every file is as it was, with its whole entry
abbrev pub Keeps : Directory → Directory → Type 0
Keeps d d' = (m : Name) → entry_named d' m ≡ entry_named d m

-- every file but those of some names
abbrev pub KeepsBut : (Name → Type 0) → Directory → Directory → Type 0
KeepsBut P d d' = (m : Name) → (P m → ⊥) → entry_named d' m ≡ entry_named d m

pub record Opens (v : ℕ) (d : Directory) (n : Name) (date : ℕ) (r : Entered) : Type 0 where
  pub total : r.directory.total ≡ d.total
  pub extra : r.directory.extra ≡ d.extra
  pub lawful : Lawful 1 v r.directory
  pub keeps : Keeps d r.directory
  pub lists : files r.directory ≡ files d
  pub opened : Opened r.directory r.output
  pub entry : r.output.entry ≡ tentative_of n date r.output.entry.length

abbrev pub EnterOpens : Type 0
EnterOpens =
    (v : ℕ) (d : Directory) (n : Name) (date : ℕ) (ask : Ask) (need : ℕ)
    → Lawful 0 v d → lawful_words n ≡ true → IfOk (enter d n date ask need) (Opens v d n date)

pub record Purges (v : ℕ) (d d' : Directory) : Type 0 where
  pub lawful : Lawful 0 v d'
  pub keeps : Keeps d d'
  pub lists : files d' ≡ files d

abbrev pub PurgeKeeps : Type 0
PurgeKeeps = (v : ℕ) (d : Directory) (out : Output) → Lawful 1 v d → Opened d out → Purges v d (purge d out)

-- the file that CLOSE makes of an output
abbrev pub file_made : Directory → Output → ℕ → File
file_made d out n =
    record { name = out.entry.name; start = output_start d out; length = n; date = out.entry.date; guarded = false }

pub record Closes (v : ℕ) (d : Directory) (out : Output) (n : ℕ) (d' : Directory) : Type 0 where
  pub lawful : Lawful 0 v d'
  pub keeps : KeepsBut (λ m. m ≡ out.entry.name) d d'
  pub gives : file d' out.entry.name ≡ Some (file_made d out n)

abbrev pub CloseKeeps : Type 0
CloseKeeps =
    (v : ℕ) (d : Directory) (out : Output) (n : ℕ)
    → Lawful 1 v d → Opened d out → n ≤ out.entry.length → IfOk (close d out n) (Closes v d out n)

-- an output that is purged leaves every file, and the free total, as it was
abbrev pub EnterThenPurge : Type 0
EnterThenPurge =
    (v : ℕ) (d : Directory) (n : Name) (date : ℕ) (ask : Ask) (need : ℕ)
    → Lawful 0 v d → lawful_words n ≡ true
    → IfOk (enter d n date ask need) (λ r. Purges v d (purge r.directory r.output) × (free (purge r.directory r.output) ≡ free d))

-- one that is closed leaves every other file as it was, and its name has the first of the blocks that it was given
pub record Stores (v : ℕ) (d : Directory) (n : Name) (date start blocks : ℕ) (d' : Directory) : Type 0 where
  pub lawful : Lawful 0 v d'
  pub keeps : KeepsBut (λ m. m ≡ n) d d'
  pub gives : file d' n ≡ Some (record { name = n; start = start; length = blocks; date = date; guarded = false })

abbrev pub EnterThenClose : Type 0
EnterThenClose =
    (v : ℕ) (d : Directory) (n : Name) (date : ℕ) (ask : Ask) (need put : ℕ)
    → Lawful 0 v d → lawful_words n ≡ true
    → IfOk (enter d n date ask need) (λ r. put ≤ r.output.entry.length
    → IfOk (close r.directory r.output put) (Stores v d n date (output_start r.directory r.output) put))

pub record Deletes (v : ℕ) (d : Directory) (n : Name) (d' : Directory) : Type 0 where
  pub lawful : Lawful 0 v d'
  pub keeps : KeepsBut (λ m. m ≡ n) d d'
  pub gone : entry_named d' n ≡ None

abbrev pub DeleteKeeps : Type 0
DeleteKeeps = (v : ℕ) (d : Directory) (n : Name) → Lawful 0 v d → IfOk (delete d n) (Deletes v d n)

pub record Renames (v : ℕ) (d : Directory) (old new : Name) (d' : Directory) : Type 0 where
  pub lawful : Lawful 0 v d'
  pub keeps : KeepsBut (λ m. (m ≡ old) ⊎ (m ≡ new)) d d'
  pub gone : entry_named d' old ≡ None
  pub gives : entry_named d' new ≡ option_map (put (renamed new)) (entry_named d old)

abbrev pub RenameKeeps : Type 0
RenameKeeps =
    (v : ℕ) (d : Directory) (old new : Name)
    → Lawful 0 v d → lawful_words new ≡ true → IfOk (rename d old new) (Renames v d old new)

pub record Protects (v : ℕ) (on : Bool) (d : Directory) (n : Name) (d' : Directory) : Type 0 where
  pub lawful : Lawful 0 v d'
  pub keeps : KeepsBut (λ m. m ≡ n) d d'
  pub gives : entry_named d' n ≡ option_map (put (protection on)) (entry_named d n)

abbrev pub ProtectKeeps : Type 0
ProtectKeeps =
    (v : ℕ) (on : Bool) (d : Directory) (n : Name) → Lawful 0 v d → IfOk (protect on d n) (Protects v on d n)

-- the first entry that passes a test lies inside the blocks of its list
abbrev pub PlacesInside : Type 0
PlacesInside =
    (p : Entry → Bool) (at : ℕ) (es : List Entry)
    → IfSome (standing p at es)
    (λ s. (p s.entry ≡ true) × (at ≤ s.start) × (s.start + s.entry.length ≤ at + blocks_of es))

-- two entries, by tests that none passes both, share no block
abbrev pub PlacesApart : Type 0
PlacesApart =
    (p q : Entry → Bool) → ((e : Entry) → p e ≡ true → q e ≢ true)
    → (at : ℕ) (es : List Entry)
    → IfSome (standing p at es) (λ s. IfSome (standing q at es)
    (λ t. (s.start + s.entry.length ≤ t.start) ⊎ (t.start + t.entry.length ≤ s.start)))

-- an entry that becomes empty joins the whole run: no empty stands on either side of it in its segment
pub record Joins (es ys : List Entry) : Type 0 where
  pub before : List Entry
  pub after : List Entry
  pub blocks : ℕ
  pub is : ys ≡ before ++ empty_of blocks ∷ after
  pub none_before : suffix_len is_empty before ≡ 0
  pub none_after : prefix_len is_empty after ≡ 0

abbrev pub EmptiedJoins : Type 0
EmptiedJoins = (i : ℕ) (es : List Entry) → i < length es → Joins es (emptied i es)

-- the blocks that an open output was given lie behind the directory and inside the level, and in no file
pub record Clear (v : ℕ) (d : Directory) (out : Output) : Type 0 where
  pub behind : first_block d ≤ output_start d out
  pub inside : output_start d out + out.entry.length ≤ v
  pub apart : (m : Name)
      → IfSome (entry_named d m) (λ s. (output_start d out + out.entry.length ≤ s.start) ⊎ (s.start + s.entry.length ≤ output_start d out))

abbrev pub OutputClear : Type 0
OutputClear = (v : ℕ) (d : Directory) (out : Output) → Lawful 1 v d → Opened d out → Clear v d out
