-- A file's line has 30 bytes.
use Rattle.std.proofs.Common.{◌≡◌, ℕ, ◌<◌, Bool, true, false, cond, List, length, Some, None, Ok, Err, Option, Result, sym, refl, ap, arith}
use Rattle.std.proofs.lemmas.List.{length-append}
use Rattle.codec.specs.declared.date.Date.{Date}
use Rattle.codec.specs.declared.date.UnlawfulDate.{UnlawfulDate}
use Rattle.codec.specs.declared.name.Name.{Name}
use Rattle.codec.specs.Dates.{dated_of, month_name}
use Rattle.codec.specs.Names.{shown}
use Rattle.directory.specs.declared.placed.Placed.{Placed}
use Rattle.listing.specs.Listings.{day_text, dating_text, date_text, right_in, plain, name_text, mark, line_of, file_line}
use Rattle.listing.proofs.Spelled.{in_columns}

length_either : (t : Bool) (x y : List ℕ) → length (cond t x y) ≡ cond t (length x) (length y)
length_either true x y = refl
length_either false x y = refl

either_way : (t : Bool) (n : ℕ) → cond t n n ≡ n
either_way true n = refl
either_way false n = refl

length_month : (m : ℕ) → length (month_name m) ≡ 3
length_month m = simp (length_either, either_way)

length_dating : (r : Result (Option Date) UnlawfulDate) → length (dating_text r) ≡ 11
unfolding day_text
length_dating (Err e) = refl
length_dating (Ok None) = refl
length_dating (Ok (Some d)) = simp length-append (omega (arith, length_month d.month))

length_date : (w : ℕ) → length (date_text w) ≡ 11
unfolding date_text
length_date w = length_dating (dated_of w)

length_name : (n : Name) → length (name_text n) ≡ 10
unfolding name_text shown
length_name n = refl

length_right : (n : ℕ) → n < 65536 → length (right_in 5 (plain n)) ≡ 5
length_right n h = ap length (sym (in_columns n h))

length_pieces : (name long : List ℕ) (marked : ℕ) (date : List ℕ) → length name ≡ 10 → length long ≡ 5 → length date ≡ 11
    → length (line_of name long marked date) ≡ 30
length_pieces name long marked date a b d = simp length-append (omega arith)

pub length_line : (p : Placed) → p.length < 65536 → length (file_line p) ≡ 30
unfolding file_line
length_line p h = length_pieces _ _ (mark p.status) _ (length_name p.name) (length_right p.length h) (length_date p.date)
