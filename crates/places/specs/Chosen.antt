-- The empties that are kept along the chain, and what an ask gets of them.
use Rattle.std.specs.Prelude.{ℕ, ◌+◌, ◌/◌, ◌≤◌, cond, List, [], ◌∷◌, IfSome, Some, None, Option, ◌==◌, nat_le, nat_lt}
use Rattle.std.specs.Option.{option_map}
use Rattle.runfile.specs.declared.field.Ask.{Ask}
use Rattle.runfile.specs.declared.field.Ask.TheVariants.{Whole, Half, Exact}
use Rattle.directory.specs.declared.placed.Placed.{Placed}
use Rattle.places.specs.declared.place.EntryPlace.{EntryPlace}
use Rattle.places.specs.declared.place.EmptyPlace.{EmptyPlace}
use Rattle.places.specs.declared.choose.Best.{Best}
use Rattle.places.specs.Searches.{is_empty, entry_told}

abbrev pub first_fit : ℕ → Option EntryPlace → EntryPlace → Option EntryPlace
first_fit least None e = cond (nat_le least e.length) (Some e) None
first_fit least (Some a) e = Some a

abbrev pub larger : Option EntryPlace → EntryPlace → EntryPlace
larger None e = e
larger (Some a) e = cond (nat_lt a.length e.length) e a

abbrev pub second_of : Option EntryPlace → Option EntryPlace → EntryPlace → Option EntryPlace
second_of None b e = None
second_of (Some a) b e = cond (nat_lt a.length e.length) (Some a) (Some (larger b e))

abbrev pub none_yet : Best
none_yet = record { first = None; largest = None; second = None }

-- what is kept starts far below 2 ^ 32
abbrev pub Low : Best → Type 0
Low b =
    IfSome b.first (λ e. e.start ≤ 200000000)
    × IfSome b.largest (λ e. e.start ≤ 200000000)
    × IfSome b.second (λ e. e.start ≤ 200000000)

-- one empty more
abbrev pub with_empty : ℕ → Best → EntryPlace → Best
with_empty least b e =
    record {
      first = first_fit least b.first e;
      largest = Some (larger b.largest e);
      second = second_of b.largest b.second e;
    }

-- one entry more
abbrev pub with_entry : ℕ → Best → ℕ × Placed → Best
with_entry least b e = cond (is_empty e.1) (with_empty least b (entry_told e)) b

unfoldable pub best_after : ℕ → Best → List (ℕ × Placed) → Best
best_after least b [] = b
best_after least b (e ∷ es) = best_after least (with_entry least b e) es

abbrev pub giving : ℕ → EntryPlace → EmptyPlace
giving n a =
    record { entry = a; given = n }

abbrev pub given_of : ℕ → Option EntryPlace → Option EmptyPlace
given_of n o = option_map (giving n) o

abbrev pub whole_of : Option EntryPlace → Option EmptyPlace
whole_of None = None
whole_of (Some a) = cond (a.length == 0) None (Some (giving a.length a))

abbrev pub half_of : ℕ → ℕ
half_of n = (n + 1) / 2

abbrev pub half_or_second : EntryPlace → Option EntryPlace → EmptyPlace
half_or_second a None = giving (half_of a.length) a
half_or_second a (Some b) =
    cond (nat_lt (half_of a.length) b.length) (giving b.length b) (giving (half_of a.length) a)

abbrev pub half_from : Option EntryPlace → Option EntryPlace → Option EmptyPlace
half_from None o = None
half_from (Some a) o = cond (a.length == 0) None (Some (half_or_second a o))

-- how many blocks the first has to have
abbrev pub least_of : Ask → ℕ
least_of Whole = 0
least_of Half = 0
least_of (Exact n) = n

abbrev pub decided : Ask → Best → Option EmptyPlace
decided Whole b = whole_of b.largest
decided Half b = half_from b.largest b.second
decided (Exact n) b = given_of n b.first
