-- The edits of a directory: split, enter, close, purge, delete, rename, protect.
use Rattle.std.specs.Prelude.{ℕ, zero, suc, ◌+◌, ◌-◌, ◌/◌, Bool, true, false, cond, List, [], ◌∷◌, ◌++◌, length, take, drop, Some, None, Ok, Err, Option, Result, ◌==◌, nat_le, nat_lt}
use Rattle.std.specs.List.{prefix_len, suffix_len, between}
use Rattle.runfile.specs.declared.field.Ask.{Ask}
use Rattle.codec.specs.declared.name.Name.{Name}
use Rattle.volume.specs.declared.fault.FileFault.{FileFault}
use Rattle.volume.specs.declared.fault.FileFault.TheVariants as fault
use Rattle.volume.specs.declared.entry.Entry.{Entry}
use Rattle.volume.specs.declared.entry.Status.TheVariants.{Permanent, Protected}
use Rattle.edits.specs.Entries.{is_empty, is_tentative, is_named, is_guarded, empty_of, tentative_of, lengthened, marked, renamed, blocks_of, any}
use Rattle.edits.specs.Directories.{Segment, Directory, highest, capacity_of, place_entries, entries_of}
use Rattle.edits.specs.Asks.{Place, size, places, Choice, choice}

-- the k entries from i on replaced by others
unfoldable pub spliced : ℕ → ℕ → List Entry → List Entry → List Entry
spliced i k new es = take i es ++ (new ++ drop (i + k) es)

-- the entries of the segment at place k of the chain changed
unfoldable pub altered : ℕ → (List Entry → List Entry) → List Segment → List Segment
altered k f [] = []
altered zero f (s ∷ ss) = record { number = s.number; entries = f s.entries } ∷ ss
altered (suc k) f (s ∷ ss) = s ∷ altered k f ss

-- a directory with other segments
abbrev pub holding : Directory → List Segment → Directory
holding d ss = record { total = d.total; extra = d.extra; segments = ss }

-- the run of empties around place i, with i: from its start to before its end
unfoldable pub run_start : List Entry → ℕ → ℕ
run_start es i = i - suffix_len is_empty (take i es)

unfoldable pub run_end : List Entry → ℕ → ℕ
run_end es i = i + 1 + prefix_len is_empty (drop (i + 1) es)

-- the entries once the one at i has become empty, and joined the run around it
unfoldable pub emptied : ℕ → List Entry → List Entry
emptied i es =
    take (run_start es i) es ++ empty_of (blocks_of (between (run_start es i) (run_end es i) es)) ∷ drop (run_end es i) es

-- the segment at place k split: so many entries stay, the others go to a segment of a number, next in the chain
unfoldable pub parted : ℕ → ℕ → ℕ → List Segment → List Segment
parted k stay number [] = []
parted zero stay number (s ∷ ss) =
    record { number = s.number; entries = take stay s.entries }
    ∷ record { number = number; entries = drop stay s.entries }
    ∷ ss
parted (suc k) stay number (s ∷ ss) = s ∷ parted k stay number ss

-- how many entries stay in a segment that is split
abbrev pub staying : Directory → ℕ
staying d = capacity_of d.extra / 2

abbrev pub split : Directory → ℕ → Directory
split d k = holding d (parted k (staying d) (suc (highest d)) d.segments)

-- where a place of the split segment is afterwards
abbrev pub moved : ℕ → Place → Place
moved stay a =
    cond (nat_lt a.index stay) a (record { segment = suc a.segment; index = a.index - stay; entry = a.entry })

abbrev pub moved_choice : ℕ → Choice → Choice
moved_choice stay c = record { place = moved stay c.place; given = c.given }

abbrev pub is_full : Directory → ℕ → Bool
is_full d k = nat_le (capacity_of d.extra) (length (place_entries d.segments k))

-- an open output: its entry and the next, as ENTER left them, and where
pub record Output : Type 0 where
  pub segment : ℕ
  pub index : ℕ
  pub entry : Entry
  pub behind : Entry

pub record Entered : Type 0 where
  pub directory : Directory
  pub output : Output

-- the tentative entry goes in before the empty, which keeps the rest
abbrev pub entered_at : Directory → Name → ℕ → Choice → Entered
entered_at d n date c =
    let t = tentative_of n date c.given in
    let rest = empty_of (size c.place - c.given) in
    record {
      directory =
          holding d (altered c.place.segment (spliced c.place.index 1 (t ∷ rest ∷ [])) d.segments);
      output = record { segment = c.place.segment; index = c.place.index; entry = t; behind = rest };
    }

-- an output that needs more blocks than are given is refused; a full segment is split first
abbrev pub entered_by : Directory → Name → ℕ → ℕ → Option Choice → Result Entered FileFault
entered_by d n date need None = Err fault.NoRoom
entered_by d n date need (Some c) =
    cond (nat_le need c.given)
    (cond (is_full d c.place.segment)
    (cond (highest d == d.total) (Err fault.DirectoryFull)
    (Ok (entered_at (split d c.place.segment) n date (moved_choice (staying d) c))))
    (Ok (entered_at d n date c)))
    (Err fault.NoRoom)

-- whether a name is that of a file, or of a protected one
abbrev pub present : Directory → Name → Bool
present d n = any (is_named n) (entries_of d)

abbrev pub guarded : Directory → Name → Bool
guarded d n = any (is_guarded n) (entries_of d)

-- an output of a name and a date, for an ask, that needs so many blocks
unfoldable pub enter : Directory → Name → ℕ → Ask → ℕ → Result Entered FileFault
enter d n date ask need = cond (guarded d n) (Err fault.Protected) (entered_by d n date need (choice ask d))

-- the segments changed at the first entry that passes a test
abbrev pub at_place : (ℕ → Entry → List Entry → List Entry) → List Place → List Segment → List Segment
at_place f [] ss = ss
at_place f (a ∷ ps) ss = altered a.segment (f a.index a.entry) ss

abbrev pub at_first : (Entry → Bool) → (ℕ → Entry → List Entry → List Entry) → List Segment → List Segment
at_first p f ss = at_place f (places p ss) ss

-- it becomes empty, or another entry
unfoldable pub empty_first : (Entry → Bool) → List Segment → List Segment
empty_first p ss = at_first p (λ i e es. emptied i es) ss

unfoldable pub change_first : (Entry → Bool) → (Entry → Entry) → List Segment → List Segment
change_first p f ss = at_first p (λ i e es. spliced i 1 (f e ∷ []) es) ss

-- an empty, unless it would have no blocks
abbrev pub rest : ℕ → List Entry
rest n = cond (n == 0) [] (empty_of n ∷ [])

-- the output has the blocks put, and the empty behind it the rest
abbrev pub filled_out : Output → ℕ → List Entry
filled_out out n = lengthened n out.entry ∷ rest (out.entry.length - n + out.behind.length)

-- the output takes its blocks; an old file of its name becomes empty; the output becomes a file
unfoldable pub closed : Output → ℕ → List Segment → List Segment
closed out n ss =
    change_first is_tentative (marked Permanent)
    (empty_first (is_named out.entry.name) (altered out.segment (spliced out.index 2 (filled_out out n)) ss))

unfoldable pub close : Directory → Output → ℕ → Result Directory FileFault
close d out n = cond (guarded d out.entry.name) (Err fault.Protected) (Ok (holding d (closed out n d.segments)))

unfoldable pub purge : Directory → Output → Directory
purge d out = holding d (altered out.segment (emptied out.index) d.segments)

unfoldable pub delete : Directory → Name → Result Directory FileFault
delete d n =
    cond (present d n) (cond (guarded d n) (Err fault.Protected) (Ok (holding d (empty_first (is_named n) d.segments)))) (Err fault.NoSuchFile)

unfoldable pub rename : Directory → Name → Name → Result Directory FileFault
rename d old new =
    cond (present d old)
    (cond (present d new) (Err fault.NameExists)
    (cond (guarded d old) (Err fault.Protected) (Ok (holding d (change_first (is_named old) (renamed new) d.segments)))))
    (Err fault.NoSuchFile)

-- PROTECT, and with false UNPROTECT
abbrev pub protection : Bool → Entry → Entry
protection true = marked Protected
protection false = marked Permanent

unfoldable pub protect : Bool → Directory → Name → Result Directory FileFault
protect on d n =
    cond (present d n) (Ok (holding d (change_first (is_named n) (protection on) d.segments))) (Err fault.NoSuchFile)
