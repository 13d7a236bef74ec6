-- What is told of a place, in the words of the directory as a value.
use Rattle.std.specs.Prelude.{◌≡◌, ℕ, ◌<◌, ◌≤◌, Bool, true, List, [], ◌∷◌, length, Some, None, MatchOption, slice_index}
use Rattle.std.specs.Option.{option_map}
use Rattle.codec.specs.declared.name.Name.{Name}
use Rattle.runfile.specs.declared.field.Ask.{Ask}
use Rattle.volume.specs.declared.entry.Status.{Status}
use Rattle.volume.specs.declared.entry.Entry.{Entry}
use Rattle.segment.specs.Directories.{Directory, chain_of}
use Rattle.directory.specs.declared.placed.Placed.{Placed}
use Rattle.directory.specs.Sounds.{file_of}
use Rattle.edits.specs.Entries.{is_empty, is_tentative, is_protected, is_named, Standing, standing}
use Rattle.edits.specs.Directories.{entries_of, first_block, entry_named}
use Rattle.edits.specs.Asks.{Place, places, choice}
use Rattle.edits.specs.Laws.{Stands}
use Rattle.edits.specs.Values.{value_of}
use Rattle.places.specs.declared.place.EntryPlace.{EntryPlace}
use Rattle.places.specs.declared.place.FilePlace.{FilePlace}
use Rattle.places.specs.declared.place.EmptyPlace.{EmptyPlace}
use Rattle.places.specs.Places.{place_start, first, file_place, tentative_place, empty_place}

-- the first entry that passes a test starts where its place says
abbrev pub standing_at : Directory → Place → Standing
standing_at d a = record { start = place_start d a; entry = a.entry }

abbrev pub FirstStarts : Type 0
FirstStarts =
    (p : Entry → Bool) (d : Directory)
    → standing p (first_block d) (entries_of d) ≡ option_map (standing_at d) (first (places p d.segments))

abbrev pub place_of : ℕ → ℕ → Entry → Place
place_of k i e = record { segment = k; index = i; entry = e }

-- an entry is the first that passes a test: it stands at index i of the segment at place k, which has a number, and starts at
-- a block
pub record Told (p : Entry → Bool) (dir : List ℕ) (k i number at : ℕ) (e : Entry) : Type 0 where
  pub rest : List Place
  pub all : places p (value_of dir).segments ≡ place_of k i e ∷ rest
  pub stands : Stands (value_of dir).segments k i e
  pub passes : p e ≡ true
  pub starts : standing p (first_block (value_of dir)) (entries_of (value_of dir)) ≡ Some (record { start = at; entry = e })
  pub inside : k < length (chain_of dir)
  pub numbered : number ≡ slice_index (chain_of dir) k

pub record FileTold (dir : List ℕ) (n : Name) (f : FilePlace) : Type 0 where
  pub entry : Entry
  pub told : Told (is_named n) dir f.entry.place f.entry.index f.entry.segment f.entry.start entry
  pub long : f.entry.length ≡ entry.length
  pub dated : f.date ≡ entry.date
  pub guarded : f.protected ≡ is_protected entry

abbrev pub FileIsTold : Type 0
FileIsTold =
    (dir : List ℕ) (n : Name)
    → MatchOption (file_place dir n) (places (is_named n) (value_of dir).segments ≡ []) (FileTold dir n)

pub record TentativeTold (dir : List ℕ) (f : EntryPlace) : Type 0 where
  pub entry : Entry
  pub told : Told is_tentative dir f.place f.index f.segment f.start entry
  pub long : f.length ≡ entry.length

abbrev pub TentativeIsTold : Type 0
TentativeIsTold =
    (dir : List ℕ) → MatchOption (tentative_place dir) (places is_tentative (value_of dir).segments ≡ []) (TentativeTold dir)

-- the empty that an ask gets
pub record EmptyTold (dir : List ℕ) (ask : Ask) (f : EmptyPlace) : Type 0 where
  pub entry : Entry
  pub chosen : choice ask (value_of dir) ≡ Some (record { place = place_of f.entry.place f.entry.index entry; given = f.given })
  pub stands : Stands (value_of dir).segments f.entry.place f.entry.index entry
  pub empty : is_empty entry ≡ true
  pub enough : f.given ≤ f.entry.length
  pub starts : f.entry.start ≡ place_start (value_of dir) (place_of f.entry.place f.entry.index entry)
  pub inside : f.entry.place < length (chain_of dir)
  pub numbered : f.entry.segment ≡ slice_index (chain_of dir) f.entry.place
  pub long : f.entry.length ≡ entry.length

abbrev pub EmptyIsTold : Type 0
EmptyIsTold =
    (dir : List ℕ) (ask : Ask) → MatchOption (empty_place dir ask) (choice ask (value_of dir) ≡ None) (EmptyTold dir ask)

-- what LOOKUP sees of a file
pub record Seen : Type 0 where
  pub start : ℕ
  pub status : Status
  pub name : Name
  pub blocks : ℕ
  pub date : ℕ

abbrev pub seen_placed : Placed → Seen
seen_placed p = record { start = p.start; status = p.status; name = p.name; blocks = p.length; date = p.date }

abbrev pub seen_standing : Standing → Seen
seen_standing s =
    record {
      start = s.start;
      status = s.entry.status;
      name = s.entry.name;
      blocks = s.entry.length;
      date = s.entry.date;
    }

-- LOOKUP and the directory as a value agree on the file of a name
abbrev pub LookupAgrees : Type 0
LookupAgrees =
    (dir : List ℕ) (n : Name) → option_map seen_placed (file_of dir n) ≡ option_map seen_standing (entry_named (value_of dir) n)
