-- The segments with what their headers hold: where each starts, and which comes next.
use Rattle.std.specs.Prelude.{◌≡◌, ℕ, zero, suc, ◌+◌, List, [], ◌∷◌, take, drop}
use Rattle.volume.specs.declared.entry.Entry.{Entry}
use Rattle.edits.specs.Entries.{blocks_of}
use Rattle.edits.specs.Directories.{Segment, Directory, place_entries, first_block}
use Rattle.edits.specs.Edits.{altered, parted, emptied, spliced}
use Rattle.edits.specs.Laws.{Stands}

pub record Laid : Type 0 where
  pub number : ℕ
  pub next : ℕ
  pub start : ℕ
  pub entries : List Entry

-- the number of the first segment of a chain, 0 at its end
abbrev pub next_number : List Segment → ℕ
next_number [] = 0
next_number (s ∷ ss) = s.number

unfoldable pub laid_from : ℕ → List Segment → List Laid
laid_from at [] = []
laid_from at (s ∷ ss) =
    record { number = s.number; next = next_number ss; start = at; entries = s.entries } ∷ laid_from (at + blocks_of s.entries) ss

abbrev pub laid : Directory → List Laid
laid d = laid_from (first_block d) d.segments

-- the entries at place k changed, and nothing else
unfoldable pub relaid : ℕ → (List Entry → List Entry) → List Laid → List Laid
relaid k f [] = []
relaid zero f (s ∷ ss) = record { number = s.number; next = s.next; start = s.start; entries = f s.entries } ∷ ss
relaid (suc k) f (s ∷ ss) = s ∷ relaid k f ss

-- the segment at place k in two: the new one starts behind the entries that stay
unfoldable pub laid_apart : ℕ → ℕ → ℕ → List Laid → List Laid
laid_apart k stay number [] = []
laid_apart zero stay number (s ∷ ss) =
    record { number = s.number; next = number; start = s.start; entries = take stay s.entries }
    ∷ record { number = number; next = s.next; start = s.start + blocks_of (take stay s.entries); entries = drop stay s.entries }
    ∷ ss
laid_apart (suc k) stay number (s ∷ ss) = s ∷ laid_apart k stay number ss

-- an edit of one segment that keeps its blocks changes that segment's entries alone
abbrev pub EditLays : Type 0
EditLays =
    (at k : ℕ) (f : List Entry → List Entry) (ss : List Segment)
    → blocks_of (f (place_entries ss k)) ≡ blocks_of (place_entries ss k) → laid_from at (altered k f ss) ≡ relaid k f (laid_from at ss)

-- a split changes the split segment and puts in the new one
abbrev pub SplitLays : Type 0
SplitLays =
    (at k stay number : ℕ) (ss : List Segment) → laid_from at (parted k stay number ss) ≡ laid_apart k stay number (laid_from at ss)

-- so it is where an entry becomes empty, and where entries take the place of one or two of as many blocks
abbrev pub EmptiedLays : Type 0
EmptiedLays =
    (at : ℕ) (ss : List Segment) (k i : ℕ) (e : Entry) → Stands ss k i e
    → laid_from at (altered k (emptied i) ss) ≡ relaid k (emptied i) (laid_from at ss)

abbrev pub SplicedLays : Type 0
SplicedLays =
    (at : ℕ) (ss : List Segment) (k i : ℕ) (e : Entry) (new : List Entry) → Stands ss k i e → blocks_of new ≡ e.length
    → laid_from at (altered k (spliced i 1 new) ss) ≡ relaid k (spliced i 1 new) (laid_from at ss)

abbrev pub SplicedTwoLays : Type 0
SplicedTwoLays =
    (at : ℕ) (ss : List Segment) (k i : ℕ) (e b : Entry) (new : List Entry) → Stands ss k i e → Stands ss k (suc i) b
    → blocks_of new ≡ e.length + b.length
    → laid_from at (altered k (spliced i 2 new) ss) ≡ relaid k (spliced i 2 new) (laid_from at ss)
