-- Entries of a directory, and what is asked of one or counted over a list.
use Rattle.std.specs.Prelude.{ℕ, ◌+◌, Bool, cond, not, ◌&&◌, List, [], ◌∷◌, replicate, Some, None, count_by, Option, ◌==◌, nat_lt}
use Rattle.volume.specs.declared.entry.Status.{Status}
use Rattle.volume.specs.declared.entry.Status.TheVariants.{Tentative}
use Rattle.codec.specs.declared.name.Name.{Name}
use Rattle.volume.specs.declared.entry.Entry.{Entry}
pub use Rattle.volume.specs.Entries.{empty_of, empty_status, file_status, tentative_status, protected_status}
unfoldable pub use Rattle.directory.specs.Walks.{blocks_of}

-- a file's entry is permanent, protected or not
abbrev pub is_file : Entry → Bool
is_file e = file_status e.status

abbrev pub is_empty : Entry → Bool
is_empty e = empty_status e.status

abbrev pub is_tentative : Entry → Bool
is_tentative e = tentative_status e.status

abbrev pub is_protected : Entry → Bool
is_protected e = protected_status e.status

unfoldable pub same_name : Name → Name → Bool
same_name a b = Rattle.directory.specs.Finds.same_name a b

-- the entry of a file of a name
abbrev pub is_named : Name → Entry → Bool
is_named n e = is_file e && same_name n e.name

-- its protected entry
abbrev pub is_guarded : Name → Entry → Bool
is_guarded n e = is_named n e && is_protected e

unfoldable pub lawful_words : Name → Bool
lawful_words n = nat_lt n.first 64000 && (nat_lt n.second 64000 && nat_lt n.kind 64000)

-- a file's entry with a name word of 64,000 or more
abbrev pub is_misnamed : Entry → Bool
is_misnamed e = is_file e && not (lawful_words e.name)

-- the entry of an output that has been opened
abbrev pub tentative_of : Name → ℕ → ℕ → Entry
tentative_of n date given =
    record { status = Tentative; name = n; length = given; job = 0; date = date; extra = replicate 64 0 }

-- an entry with another length, status or name
abbrev pub lengthened : ℕ → Entry → Entry
lengthened n e =
    record { status = e.status; name = e.name; length = n; job = e.job; date = e.date; extra = e.extra }

abbrev pub marked : Status → Entry → Entry
marked s e = record { status = s; name = e.name; length = e.length; job = e.job; date = e.date; extra = e.extra }

abbrev pub renamed : Name → Entry → Entry
renamed n e =
    record { status = e.status; name = n; length = e.length; job = e.job; date = e.date; extra = e.extra }

-- how many pass a test
unfoldable pub count : {X : Type 0} → (X → Bool) → List X → ℕ
count p xs = count_by p xs

-- whether any does
abbrev pub any : {X : Type 0} → (X → Bool) → List X → Bool
any p xs = not (count p xs == 0)

-- an entry with the block at which it starts
pub record Standing : Type 0 where
  pub start : ℕ
  pub entry : Entry

-- another entry at the same start
abbrev pub put : (Entry → Entry) → Standing → Standing
put f s = record { start = s.start; entry = f s.entry }

-- the first entry that passes a test, in a list that begins at a block
unfoldable pub standing : (Entry → Bool) → ℕ → List Entry → Option Standing
standing p at [] = None
standing p at (e ∷ es) = cond (p e) (Some (record { start = at; entry = e })) (standing p (at + e.length) es)
