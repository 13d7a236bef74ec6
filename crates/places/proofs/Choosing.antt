-- What is kept along the chain is the first, the largest and the second largest of the empties' places.
use Rattle.std.proofs.Common.{◌≡◌, ℕ, Bool, true, false, cond, eqb, ltb, leb, List, [], ◌∷◌, ◌++◌, map, Some, None, Option, sym, refl, ap, ◌∙◌, inl, inr, arith}
use Rattle.std.specs.Option.{option_map}
use Rattle.std.proofs.lemmas.List.{append_assoc, append-nil}
use Rattle.std.proofs.lemmas.Bool.{cases_Bool, cond-true, cond-false, eq-eqb, ltb-true, ltb-false}
use Rattle.runfile.specs.declared.field.Ask.{Ask}
use Rattle.runfile.specs.declared.field.Ask.TheVariants.{Whole, Half, Exact}
use Rattle.volume.specs.declared.entry.Entry.{Entry}
use Rattle.directory.specs.declared.placed.Placed.{Placed}
use Rattle.directory.specs.Walks.{placed}
use Rattle.edits.specs.Entries as entries
use Rattle.edits.specs.Asks.{Place, size, places, first_of, largest, others, Choice, chosen}
use Rattle.edits.specs.Asks as asks
use Rattle.edits.specs.Values.{cleaned, value_of}
use Rattle.edits.proofs.Steps.{or_else, first_of_push, or_larger, largest_push, second_by, second, second_takes, second_keeps}
use Rattle.places.specs.declared.place.EntryPlace.{EntryPlace}
use Rattle.places.specs.declared.place.EmptyPlace.{EmptyPlace}
use Rattle.places.specs.declared.choose.Best.{Best}
use Rattle.places.specs.Places.{place_start, number_of, entry_at, empty_place}
use Rattle.places.specs.Searches.{is_empty, entry_told, chained_of, passing}
use Rattle.places.specs.Chosen.{first_fit, larger, second_of, none_yet, with_empty, best_after, giving, whole_of, half_or_second, half_from, least_of, decided}
use Rattle.places.proofs.Along.{cleaned-length, gathered}

-- one empty after another
kept : ℕ → Best → List EntryPlace → Best
kept least b [] = b
kept least b (e ∷ es) = kept least (with_empty least b e) es

best_kept : (least : ℕ) (b : Best) (es : List (ℕ × Placed)) → best_after least b es ≡ kept least b (map entry_told (passing is_empty es))
unfolding best_after kept passing
best_kept least b [] = refl
best_kept least b (e ∷ es) =
    elim (cases_Bool (is_empty e.1)) [
      | inl y ↦
          ap (λ (z : Best). best_after least z es) (cond-true _ _ _ y)
          ∙ (best_kept least (with_empty least b (entry_told e)) es
          ∙ sym (ap (λ (l : List (ℕ × Placed)). kept least b (map entry_told l)) (cond-true _ _ _ y)))
      | inr y ↦
          ap (λ (z : Best). best_after least z es) (cond-false _ _ _ y)
          ∙ (best_kept least b es
          ∙ sym (ap (λ (l : List (ℕ × Placed)). kept least b (map entry_told l)) (cond-false _ _ _ y)))
    ]

on_cond : {X Y : Type 0} (f : X → Y) (t : Bool) (x y : X) → cond t (f x) (f y) ≡ f (cond t x y)
on_cond f true x y = refl
on_cond f false x y = refl

-- places, and what is told of each
module _ (number start : Place → ℕ) where
  abbrev told : Place → EntryPlace
  told a = record { place = a.segment; segment = number a; index = a.index; start = start a; length = size a }

  first-told : (least : ℕ) (o : Option Place) (a : Place) → first_fit least (option_map told o) (told a) ≡ option_map told (or_else o (cond (leb least (size a)) (Some a) None))
  first-told least None a = on_cond (option_map told) (leb least (size a)) (Some a) None
  first-told least (Some b) a = refl

  larger-told : (o : Option Place) (a : Place) → larger (option_map told o) (told a) ≡ told (or_larger o a)
  larger-told None a = refl
  larger-told (Some b) a = on_cond told (ltb (size b) (size a)) a b

  alone : (a : Place) → second (a ∷ []) ≡ None
  unfolding second largest others
  alone a = ap largest (cond-true _ _ _ (eq-eqb (size a) (size a) refl))

  no_places : (ps : List Place) → largest ps ≡ None → ps ≡ []
  unfolding largest
  no_places [] h = refl
  no_places (a ∷ ps) h = absurd (let z : ◌≡◌ {A = ℕ} 0 1 = cc in omega arith)

  second-told : (ps : List Place) (a : Place) (o : Option Place) → largest ps ≡ o
      → second_of (option_map told o) (option_map told (second ps)) (told a) ≡ option_map told (second (ps ++ a ∷ []))
  second-told ps a None h = sym (ap (option_map told) (ap (λ l. second (l ++ a ∷ [])) (no_places ps h) ∙ alone a))
  second-told ps a (Some b) h =
      elim (cases_Bool (ltb (size b) (size a))) [
        | inl y ↦ cond-true _ _ _ y ∙ sym (ap (option_map told) (second_takes ps a b h (ltb-true (size b) (size a) y)))
        | inr y ↦
            cond-false _ _ _ y
            ∙ (ap (λ (e : EntryPlace). Some e) (larger-told (second ps) a)
            ∙ sym (ap (option_map told) (second_keeps ps a b h (ltb-false (size b) (size a) y))))
      ]

  -- the best of some places
  best : ℕ → List Place → Best
  best least ps =
      record {
        first = option_map told (first_of (λ a. leb least (size a)) ps);
        largest = option_map told (largest ps);
        second = option_map told (second ps);
      }

  best_push : (least : ℕ) (ps : List Place) (a : Place) → with_empty least (best least ps) (told a) ≡ best least (ps ++ a ∷ [])
  unfolding best
  best_push least ps a =
      let one : first_fit least (option_map told (first_of (λ b. leb least (size b)) ps)) (told a) ≡ option_map told (first_of (λ b. leb least (size b)) (ps ++ a ∷ []))
      = first-told least (first_of (λ b. leb least (size b)) ps) a ∙ ap (option_map told) (sym (first_of_push (λ b. leb least (size b)) ps a)) in
      let two : ◌≡◌ {A = Option EntryPlace} (Some (larger (option_map told (largest ps)) (told a))) (option_map told (largest (ps ++ a ∷ [])))
      = ap (λ (e : EntryPlace). Some e) (larger-told (largest ps) a) ∙ ap (option_map told) (sym (largest_push ps a)) in
      let three : second_of (option_map told (largest ps)) (option_map told (second ps)) (told a) ≡ option_map told (second (ps ++ a ∷ []))
      = second-told ps a (largest ps) refl in
      λ i. record { first = one i; largest = two i; second = three i }

  kept_best : (least : ℕ) (done rest : List Place) → kept least (best least done) (map told rest) ≡ best least (done ++ rest)
  unfolding kept
  kept_best least done [] = ap (best least) (sym (append-nil done))
  kept_best least done (a ∷ rest) =
      ap (λ (b : Best). kept least b (map told rest)) (best_push least done a)
      ∙ (kept_best least (done ++ a ∷ []) rest ∙ ap (best least) (append_assoc done (a ∷ []) rest))

  -- what an ask gets
  abbrev given : Choice → EmptyPlace
  given c = giving c.given (told c.place)

  whole_told : (o : Option Place) → whole_of (option_map told o) ≡ option_map given (asks.whole_of o)
  whole_told None = refl
  whole_told (Some a) = on_cond (option_map given) (eqb (size a) 0) None (Some (asks.giving (size a) a))

  or_second-told : (a : Place) (o : Option Place) → half_or_second (told a) (option_map told o) ≡ given (asks.half_or_second a o)
  or_second-told a None = refl
  or_second-told a (Some b) =
      on_cond given (ltb (asks.half_of a) (size b)) (asks.giving (size b) b) (asks.giving (asks.half_of a) a)

  half-told : (o : Option Place) (ps : List Place) → half_from (option_map told o) (option_map told (second_by o ps)) ≡ option_map given (asks.half_from o ps)
  half-told None ps = refl
  half-told (Some a) ps =
      ap (λ (e : EmptyPlace). cond (eqb (size a) 0) None (Some e)) (or_second-told a (largest (others a ps)))
      ∙ on_cond (option_map given) (eqb (size a) 0) None (Some (asks.half_or_second a (largest (others a ps))))

  exact_told : (n : ℕ) (o : Option Place) → option_map (giving n) (option_map told o) ≡ option_map given (option_map (asks.giving n) o)
  exact_told n None = refl
  exact_told n (Some a) = refl

  decided-told : (ask : Ask) (ps : List Place) → decided ask (best (least_of ask) ps) ≡ option_map given (chosen ask ps)
  unfolding best second
  decided-told Whole ps = whole_told (largest ps)
  decided-told Half ps = half-told (largest ps) ps
  decided-told (Exact n) ps = exact_told n (first_of (λ a. leb n (size a)) ps)

empty_same : (k i at : ℕ) (e : Entry) → is_empty (placed k i at e) ≡ entries.is_empty (cleaned e)
empty_same k i at e =
    elim (cases_Bool (entries.is_empty e)) [
      | inl y ↦ y ∙ sym (ap entries.is_empty (cond-true (entries.is_empty e) (entries.empty_of e.length) e y))
      | inr y ↦ sym (ap entries.is_empty (cond-false (entries.is_empty e) (entries.empty_of e.length) e y))
    ]

empties_told : (dir : List ℕ) → map entry_told (passing is_empty (chained_of dir)) ≡ map (entry_at dir) (places entries.is_empty (value_of dir).segments)
empties_told dir = gathered is_empty entries.is_empty empty_same entry_told dir told (λ k pl i at e y. ap (sized k pl i at) (sym (cleaned-length e)))
  where
    sized : ℕ → ℕ → ℕ → ℕ → ℕ → EntryPlace
    sized k pl i at n = record { place = pl; segment = k; index = i; start = at; length = n }

    told : ℕ → ℕ → Place → EntryPlace
    told k at a = record { place = a.segment; segment = k; index = a.index; start = at; length = size a }

pub best_chosen : (dir : List ℕ) (ask : Ask) → decided ask (best_after (least_of ask) none_yet (chained_of dir)) ≡ empty_place dir ask
unfolding best first_of largest second empty_place
best_chosen dir ask =
    let ps : List Place = places entries.is_empty (value_of dir).segments in
    ap (decided ask) (best_kept (least_of ask) none_yet (chained_of dir)
    ∙ (ap (kept (least_of ask) none_yet) (empties_told dir) ∙ kept_best (number_of dir) (place_start (value_of dir)) (least_of ask) [] ps))
    ∙ decided-told (number_of dir) (place_start (value_of dir)) ask ps
