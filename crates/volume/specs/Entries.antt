-- Entries of the directory, and their bytes.
use Rattle.std.specs.Prelude.{ℕ, Bool, true, false, List, ◌++◌, take, replicate}
use Rattle.codec.specs.Words.{word_bytes}
use Rattle.volume.specs.declared.entry.Status.{Status}
use Rattle.volume.specs.declared.entry.Status.TheVariants.{Tentative, Empty, Permanent, Protected}
use Rattle.volume.specs.declared.entry.Entry.{Entry}

-- the status word
abbrev pub status_word : Status → ℕ
status_word Tentative = 256
status_word Empty = 512
status_word Permanent = 1024
status_word Protected = 33792

-- what a status says: an empty, a file, a tentative file, a protected file
abbrev pub empty_status : Status → Bool
empty_status Tentative = false
empty_status Empty = true
empty_status Permanent = false
empty_status Protected = false

abbrev pub file_status : Status → Bool
file_status Tentative = false
file_status Empty = false
file_status Permanent = true
file_status Protected = true

abbrev pub tentative_status : Status → Bool
tentative_status Tentative = true
tentative_status Empty = false
tentative_status Permanent = false
tentative_status Protected = false

abbrev pub protected_status : Status → Bool
protected_status Tentative = false
protected_status Empty = false
protected_status Permanent = false
protected_status Protected = true

-- an empty of n blocks: zero but for status and length
abbrev pub empty_of : ℕ → Entry
empty_of n =
    record { status = Empty; name = record { first = 0; second = 0; kind = 0 }; length = n; job = 0; date = 0; extra = replicate 64 0 }

-- the seven words of an entry: status, three of the name, length, job, date
unfoldable pub head_bytes : Entry → List ℕ
head_bytes e =
    word_bytes (status_word e.status)
    ++ (word_bytes e.name.first
    ++ (word_bytes e.name.second
    ++ (word_bytes e.name.kind ++ (word_bytes e.length ++ (word_bytes e.job ++ word_bytes e.date)))))

-- the 14 + x bytes of an entry
unfoldable pub entry_bytes : ℕ → Entry → List ℕ
entry_bytes x e = head_bytes e ++ take x e.extra
