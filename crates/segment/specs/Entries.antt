-- Entries of the directory, read from their bytes.
use Rattle.std.specs.Prelude.{◌≡◌, ℕ, ◌-◌, ◌≤◌, cond, List, ◌++◌, length, take, drop, replicate, Some, None, Option, ◌==◌}
use Rattle.std.specs.Option.{option_map}
use Rattle.codec.specs.declared.name.Name.{Name}
use Rattle.codec.specs.Words.{word_at}
use Rattle.volume.specs.declared.entry.Status.{Status}
use Rattle.volume.specs.declared.entry.Status.TheVariants.{Tentative, Empty, Permanent, Protected}
use Rattle.volume.specs.declared.entry.Entry.{Entry}

-- the status that a word names
abbrev pub status_of : ℕ → Option Status
status_of w =
    cond (w == 256) (Some Tentative)
    (cond (w == 512) (Some Empty) (cond (w == 1024) (Some Permanent) (cond (w == 33792) (Some Protected) None)))

-- the words of the entry at the front of some bytes: status, three of the name, length, job, date
abbrev pub status_in : List ℕ → Option Status
status_in bs = status_of (word_at bs 0)

abbrev pub name_in : List ℕ → Name
name_in bs = record { first = word_at bs 2; second = word_at bs 4; kind = word_at bs 6 }

abbrev pub length_in : List ℕ → ℕ
length_in bs = word_at bs 8

abbrev pub job_in : List ℕ → ℕ
job_in bs = word_at bs 10

abbrev pub date_in : List ℕ → ℕ
date_in bs = word_at bs 12

-- extra bytes, with zeros behind them to 64
unfoldable pub extra_of : List ℕ → List ℕ
extra_of bs = bs ++ replicate (64 - length bs) 0

-- the entry with x extra bytes at the front of some bytes, once its status is known
unfoldable pub entry_as : ℕ → List ℕ → Status → Entry
entry_as x bs s =
    record {
      status = s;
      name = name_in bs;
      length = length_in bs;
      job = job_in bs;
      date = date_in bs;
      extra = extra_of (take x (drop 14 bs));
    }

-- the entry with x extra bytes at the front of some bytes, if its status is one of the four
abbrev pub entry_of : ℕ → List ℕ → Option Entry
entry_of x bs = option_map (entry_as x bs) (status_in bs)

-- an entry with x extra bytes: behind those are zeros
pub record LawfulEntry (x : ℕ) (e : Entry) : Type 0 where
  pub wide : x ≤ length e.extra
  pub padded : e.extra ≡ extra_of (take x e.extra)
