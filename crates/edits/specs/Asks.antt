-- Which empty an ask gets, and how much of it.
use Rattle.std.specs.Prelude.{◌≡◌, ℕ, suc, ◌+◌, ◌/◌, Bool, cond, List, [], ◌∷◌, ◌++◌, Some, None, Option, ◌==◌, nat_le, nat_lt}
use Rattle.std.specs.Option.{option_map}
use Rattle.runfile.specs.declared.field.Ask.{Ask}
use Rattle.runfile.specs.declared.field.Ask.TheVariants.{Whole, Half, Exact}
use Rattle.volume.specs.declared.entry.Entry.{Entry}
use Rattle.edits.specs.Entries.{is_empty, empty_of}
use Rattle.edits.specs.Directories.{Segment, Directory}

-- an entry with its place: the segment's place in the chain and the entry's in the segment, from 0
pub record Place : Type 0 where
  pub segment : ℕ
  pub index : ℕ
  pub entry : Entry

abbrev pub size : Place → ℕ
size a = a.entry.length

-- the places in chain order of the entries that pass a test
unfoldable pub places_in : (Entry → Bool) → ℕ → ℕ → List Entry → List Place
places_in p k i [] = []
places_in p k i (e ∷ es) =
    cond (p e) (record { segment = k; index = i; entry = e } ∷ places_in p k (suc i) es) (places_in p k (suc i) es)

unfoldable pub places_from : (Entry → Bool) → ℕ → List Segment → List Place
places_from p k [] = []
places_from p k (s ∷ ss) = places_in p k 0 s.entries ++ places_from p (suc k) ss

abbrev pub places : (Entry → Bool) → List Segment → List Place
places p ss = places_from p 0 ss

unfoldable pub first_of : (Place → Bool) → List Place → Option Place
first_of p [] = None
first_of p (a ∷ ps) = cond (p a) (Some a) (first_of p ps)

-- the larger of two: the first of equals counts as the larger
abbrev pub larger : Place → Option Place → Place
larger a None = a
larger a (Some b) = cond (nat_lt (size a) (size b)) b a

unfoldable pub largest : List Place → Option Place
largest [] = None
largest (a ∷ ps) = Some (larger a (largest ps))

-- the places but the first of a's size
unfoldable pub others : Place → List Place → List Place
others a [] = []
others a (b ∷ bs) = cond (size a == size b) bs (b ∷ others a bs)

-- a place, and the blocks that are given there
pub record Choice : Type 0 where
  pub place : Place
  pub given : ℕ

abbrev pub giving : ℕ → Place → Choice
giving n a = record { place = a; given = n }

-- half of a place, rounded up
abbrev pub half_of : Place → ℕ
half_of a = (size a + 1) / 2

abbrev pub whole_of : Option Place → Option Choice
whole_of None = None
whole_of (Some a) = cond (size a == 0) None (Some (giving (size a) a))

-- half the largest, or the whole second largest if that is more
abbrev pub half_or_second : Place → Option Place → Choice
half_or_second a None = giving (half_of a) a
half_or_second a (Some b) = cond (nat_lt (half_of a) (size b)) (giving (size b) b) (giving (half_of a) a)

abbrev pub half_from : Option Place → List Place → Option Choice
half_from None ps = None
half_from (Some a) ps = cond (size a == 0) None (Some (half_or_second a (largest (others a ps))))

-- what an ask gets among some empties in chain order
abbrev pub chosen : Ask → List Place → Option Choice
chosen Whole ps = whole_of (largest ps)
chosen Half ps = half_from (largest ps) ps
chosen (Exact n) ps = option_map (giving n) (first_of (λ a. nat_le n (size a)) ps)

abbrev pub choice : Ask → Directory → Option Choice
choice ask d = chosen ask (places is_empty d.segments)

-- ask 0 over empties 10 and 8 gets the 8, over 10 and 3 gets 5 of the 10, over 1 gets 1
abbrev pub empties_of : List ℕ → List Segment
empties_of [] = []
empties_of (n ∷ ns) = record { number = 1; entries = empty_of n ∷ [] } ∷ empties_of ns

abbrev pub choice_row : Choice → ℕ × ℕ × ℕ
choice_row c = (c.place.segment, c.place.index, c.given)

abbrev pub half_among : List ℕ → Option (ℕ × ℕ × ℕ)
half_among ns = option_map choice_row (chosen Half (places is_empty (empties_of ns)))

abbrev pub WorkedRows : Type 0
WorkedRows =
    (half_among (10 ∷ 8 ∷ []) ≡ Some (1, 0, 8))
    × (half_among (10 ∷ 3 ∷ []) ≡ Some (0, 0, 5))
    × (half_among (1 ∷ []) ≡ Some (0, 0, 1))
