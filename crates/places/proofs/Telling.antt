-- What is told of a place, in the words of the directory as a value.
use Rattle.std.proofs.Common.{◌≡◌, ℕ, suc, ◌<◌, ◌≤◌, Bool, true, List, [], ◌∷◌, length, IfSome, Some, None, Option, sym, refl, ap, ◌∙◌, subst, MatchOption}
use Rattle.std.specs.Option.{option_map}
use Rattle.std.specs.List.{AllByRecursion}
use Rattle.codec.specs.Words.{word_at}
use Rattle.codec.specs.declared.name.Name.{Name}
use Rattle.runfile.specs.declared.field.Ask.{Ask}
use Rattle.volume.specs.declared.entry.Entry.{Entry}
use Rattle.segment.specs.Directories.{chain_of}
use Rattle.edits.specs.Entries.{is_empty, is_tentative, is_named}
use Rattle.edits.specs.Asks.{Place, size, places, Choice, choice}
use Rattle.edits.specs.Laws.{Stands}
use Rattle.edits.specs.Values.{values_of, value_of}
use Rattle.edits.proofs.Places.{Genuine, places_genuine, stands_inside}
use Rattle.edits.proofs.Chosen.{choice_stands}
use Rattle.places.specs.declared.place.EntryPlace.{EntryPlace}
use Rattle.places.specs.declared.place.FilePlace.{FilePlace}
use Rattle.places.specs.declared.place.EmptyPlace.{EmptyPlace}
use Rattle.places.specs.Places.{place_start, number_of, first, file_at, file_place, entry_at, tentative_place, empty_at, empty_place}
use Rattle.places.specs.Laws.{standing_at, Told, FileTold, FileIsTold, TentativeTold, TentativeIsTold, EmptyTold, EmptyIsTold}
use Rattle.places.proofs.Starting.{first_starts}

length_values : (x : ℕ) (dir ks : List ℕ) → length (values_of x dir ks) ≡ length ks
unfolding values_of
length_values x dir [] = refl
length_values x dir (k ∷ ks) = ap suc (length_values x dir ks)

-- the value has a segment for each of the chain
pub length_value : (dir : List ℕ) → length (value_of dir).segments ≡ length (chain_of dir)
unfolding value_of
length_value dir = length_values (word_at dir 6) dir (chain_of dir)

-- where an entry stands there is a segment of the chain
pub stands_in_chain : (dir : List ℕ) (k i : ℕ) (e : Entry) → Stands (value_of dir).segments k i e → k < length (chain_of dir)
stands_in_chain dir k i e h =
    subst (λ (n : ℕ). k < n) (length_value dir) (stands_inside (value_of dir).segments k i e h)

told-first : (p : Entry → Bool) (dir : List ℕ) (a : Place) (ps : List Place) → places p (value_of dir).segments ≡ a ∷ ps
    → Told p dir a.segment a.index (number_of dir a) (place_start (value_of dir) a) a.entry
told-first p dir a ps h =
    let g : Genuine p (value_of dir).segments a
    = (subst (AllByRecursion (Genuine p (value_of dir).segments)) h (places_genuine p (value_of dir).segments)).0 in
    record {
      rest = ps;
      all = h;
      stands = g.0;
      passes = g.1;
      starts = first_starts p (value_of dir) ∙ ap (λ (l : List Place). option_map (standing_at (value_of dir)) (first l)) h;
      inside = stands_in_chain dir a.segment a.index a.entry g.0;
      numbered = refl;
    }

pub file_told : FileIsTold
unfolding file_place
file_told dir n = go (places (is_named n) (value_of dir).segments) refl
  where
    go : (l : List Place) → places (is_named n) (value_of dir).segments ≡ l
        → MatchOption (option_map (file_at dir) (first l)) (l ≡ []) (FileTold dir n)
    go [] h = refl
    go (a ∷ ps) h = record { entry = a.entry; told = told-first (is_named n) dir a ps h; long = refl; dated = refl; guarded = refl }

pub tentative_told : TentativeIsTold
unfolding tentative_place
tentative_told dir = go (places is_tentative (value_of dir).segments) refl
  where
    go : (l : List Place) → places is_tentative (value_of dir).segments ≡ l
        → MatchOption (option_map (entry_at dir) (first l)) (l ≡ []) (TentativeTold dir)
    go [] h = refl
    go (a ∷ ps) h = record { entry = a.entry; told = told-first is_tentative dir a ps h; long = refl }

pub empty_told : EmptyIsTold
unfolding empty_place
empty_told dir ask = go (choice ask (value_of dir)) refl (choice_stands (value_of dir) ask)
  where
    go : (o : Option Choice) → choice ask (value_of dir) ≡ o
        → IfSome o (λ c. Stands (value_of dir).segments c.place.segment c.place.index c.place.entry × (is_empty c.place.entry ≡ true) × (c.given ≤ size c.place))
        → MatchOption (option_map (empty_at dir) o) (o ≡ None) (EmptyTold dir ask)
    go None h s = refl
    go (Some c) h s =
        record {
          entry = c.place.entry;
          chosen = h;
          stands = s.0;
          empty = s.1;
          enough = s.2;
          starts = refl;
          inside = stands_in_chain dir c.place.segment c.place.index c.place.entry s.0;
          numbered = refl;
          long = refl;
        }

-- the answers of the three, one by one
module _ (dir : List ℕ) where
  pub file_some : (n : Name) (f : FilePlace) → Some f ≡ file_place dir n → FileTold dir n f
  file_some n f h =
      subst (λ (o : Option FilePlace). MatchOption o (places (is_named n) (value_of dir).segments ≡ []) (FileTold dir n)) (sym h) (file_told dir n)

  pub file-none : (n : Name) → None ≡ file_place dir n → places (is_named n) (value_of dir).segments ≡ []
  file-none n h =
      subst (λ (o : Option FilePlace). MatchOption o (places (is_named n) (value_of dir).segments ≡ []) (FileTold dir n)) (sym h) (file_told dir n)

  pub none-file : (n : Name) → places (is_named n) (value_of dir).segments ≡ [] → file_place dir n ≡ None
  unfolding file_place
  none-file n h = ap (λ (l : List Place). option_map (file_at dir) (first l)) h

  pub tentative_some : (f : EntryPlace) → Some f ≡ tentative_place dir → TentativeTold dir f
  tentative_some f h =
      subst (λ (o : Option EntryPlace). MatchOption o (places is_tentative (value_of dir).segments ≡ []) (TentativeTold dir)) (sym h) (tentative_told dir)

  pub tentative_none : None ≡ tentative_place dir → places is_tentative (value_of dir).segments ≡ []
  tentative_none h =
      subst (λ (o : Option EntryPlace). MatchOption o (places is_tentative (value_of dir).segments ≡ []) (TentativeTold dir)) (sym h) (tentative_told dir)

  pub empty_some : (ask : Ask) (f : EmptyPlace) → Some f ≡ empty_place dir ask → EmptyTold dir ask f
  empty_some ask f h =
      subst (λ (o : Option EmptyPlace). MatchOption o (choice ask (value_of dir) ≡ None) (EmptyTold dir ask)) (sym h) (empty_told dir ask)

  pub empty_none : (ask : Ask) → None ≡ empty_place dir ask → choice ask (value_of dir) ≡ None
  empty_none ask h =
      subst (λ (o : Option EmptyPlace). MatchOption o (choice ask (value_of dir) ≡ None) (EmptyTold dir ask)) (sym h) (empty_told dir ask)
