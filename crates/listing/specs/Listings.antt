-- The listing of a directory, to the byte.
use Rattle.std.specs.Prelude.{ℕ, ◌-◌, Bool, cond, List, [], ◌∷◌, ◌++◌, length, take, drop, replicate, Some, None, Ok, Err, codes, decimal, filter, Option, Result, nat_le}
use Rattle.std.specs.List.{flat_map}
use Rattle.codec.specs.declared.date.Date.{Date}
use Rattle.codec.specs.declared.date.UnlawfulDate.{UnlawfulDate}
use Rattle.codec.specs.declared.name.Name.{Name}
use Rattle.codec.specs.Dates.{dated_of, month_name}
use Rattle.codec.specs.Digits.{digits_of, two}
use Rattle.codec.specs.Names.{shown}
pub use Rattle.volume.specs.Entries.{empty_status}
use Rattle.volume.specs.declared.entry.Status.{Status}
use Rattle.volume.specs.declared.entry.Status.TheVariants.{Tentative, Empty, Permanent, Protected}
use Rattle.directory.specs.declared.placed.Placed.{Placed}
use Rattle.directory.specs.Finds.{is_file, blocks_in}

abbrev pub four : ℕ → List ℕ
four n = digits_of 4 n

-- all digits of a number, without leading zeros
abbrev pub plain : ℕ → List ℕ
plain n = decimal n

-- right-aligned in so many columns, with blanks in front
abbrev pub right_in : ℕ → List ℕ → List ℕ
right_in k cs = replicate (k - length cs) 32 ++ cs

-- a day as dd-Mmm-yyyy
unfoldable pub day_text : Date → List ℕ
day_text d = two d.day ++ (45 ∷ (month_name d.month ++ (45 ∷ four d.year)))

-- no date is eleven blanks, an unlawful one question marks
abbrev pub dating_text : Result (Option Date) UnlawfulDate → List ℕ
dating_text (Ok None) = replicate 11 32
dating_text (Ok (Some d)) = day_text d
dating_text (Err e) = codes "??-???-????"

-- what a date word shows as
unfoldable pub date_text : ℕ → List ℕ
date_text w = dating_text (dated_of w)

-- P for a protected file
abbrev pub mark : Status → ℕ
mark Tentative = 32
mark Empty = 32
mark Permanent = 32
mark Protected = 80

-- six characters of name, a point and three of type
unfoldable pub name_text : Name → List ℕ
name_text n = take 6 (shown n) ++ (46 ∷ drop 6 (shown n))

-- a line of a name, a length, a mark and a date
abbrev pub line_of : List ℕ → List ℕ → ℕ → List ℕ → List ℕ
line_of name long marked date = name ++ (32 ∷ (long ++ (marked ∷ 32 ∷ (date ++ (10 ∷ [])))))

-- the line of a file
unfoldable pub file_line : Placed → List ℕ
file_line p = line_of (name_text p.name) (right_in 5 (plain p.length)) (mark p.status) (date_text p.date)

abbrev pub is_empty : Placed → Bool
is_empty p = empty_status p.status

-- the files and the empties among some entries
abbrev pub files_in : List Placed → List Placed
files_in ps = filter is_file ps

abbrev pub empties_in : List Placed → List Placed
empties_in ps = filter is_empty ps

-- the lines of the files
abbrev pub file_lines : List Placed → List ℕ
file_lines ps = flat_map file_line (files_in ps)

-- a line of the number of files, their blocks and the free blocks
unfoldable pub total_line : ℕ → ℕ → ℕ → List ℕ
total_line files used free = codes "Files " ++ (plain files ++ (codes " Used " ++ (plain used ++ (codes " Free " ++ (plain free ++ (10 ∷ []))))))

-- the last line
unfoldable pub last_line : List Placed → List ℕ
last_line ps = total_line (length (files_in ps)) (blocks_in (files_in ps)) (blocks_in (empties_in ps))

-- the listing of the entries in chain order
unfoldable pub listing : List Placed → List ℕ
listing ps = file_lines ps ++ last_line ps

-- how long a listing is, if there is room for it
abbrev pub listing_answer : List ℕ → ℕ → Option ℕ
listing_answer text room = cond (nat_le (length text) room) (Some (length text)) None

-- what a buffer holds then: the listing and what stood behind it, or what it held
abbrev pub listing_after : List ℕ → List ℕ → List ℕ
listing_after text out = cond (nat_le (length text) (length out)) (text ++ drop (length text) out) out
