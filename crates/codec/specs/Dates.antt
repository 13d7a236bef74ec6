-- Date words.
use Rattle.std.specs.Prelude.{◌≡◌, ℕ, ◌+◌, ◌*◌, ◌/◌, ◌%◌, Bool, cond, ◌&&◌, List, codes, Some, None, Ok, Err, Option, Result, ◌==◌, nat_le}
use Rattle.codec.specs.declared.date.Date.{Date}
use Rattle.codec.specs.declared.date.UnlawfulDate.{UnlawfulDate}

-- the fields of a word: y in bits 0 to 4, the day in 5 to 9, the month in 10 to 13, the age in 14 and 15
abbrev pub date_in : ℕ → Date
date_in w = record { day = w / 32 % 32; month = w / 1024 % 16; year = 1972 + 32 * (w / 16384) + w % 32 }

-- which days there are: every month has 31
abbrev pub is_day : Date → Bool
is_day d = (nat_le 1 d.month && nat_le d.month 12) && (nat_le 1 d.day && nat_le d.day 31)

-- what a date word says, if it is lawful: no date, or a day
unfoldable pub dated_of : ℕ → Result (Option Date) UnlawfulDate
dated_of w = cond (w == 0) (Ok None) (cond (is_day (date_in w)) (Ok (Some (date_in w))) (Err (record {})))

-- a worked row
pub record DateRows : Type 0 where
  pub row_13311 : dated_of 13311 ≡ Ok (Some (record { day = 31; month = 12; year = 2003 }))

-- the first three letters of a month
abbrev pub month_name : ℕ → List ℕ
month_name m =
    cond (m == 1) (codes "Jan")
    (cond (m == 2) (codes "Feb")
    (cond (m == 3) (codes "Mar")
    (cond (m == 4) (codes "Apr")
    (cond (m == 5) (codes "May")
    (cond (m == 6) (codes "Jun")
    (cond (m == 7) (codes "Jul")
    (cond (m == 8) (codes "Aug")
    (cond (m == 9) (codes "Sep")
    (cond (m == 10) (codes "Oct")
    (cond (m == 11) (codes "Nov")
    (cond (m == 12) (codes "Dec")
    (codes "???"))))))))))))
