-- The first entry of a kind along the chain is the first of its places.
use Rattle.std.proofs.Common.{◌≡◌, ℕ, Bool, true, false, List, sym, refl, ap, ◌∙◌, inl, inr}
use Rattle.std.specs.Option.{option_map}
use Rattle.std.proofs.lemmas.Bool.{cases_Bool, cond-true, cond-false, false≢true, and_left}
use Rattle.codec.specs.declared.name.Name.{Name}
use Rattle.volume.specs.declared.entry.Status.{Status}
use Rattle.volume.specs.declared.entry.Status.TheVariants as status
use Rattle.volume.specs.declared.entry.Entry.{Entry}
use Rattle.directory.specs.Walks.{placed}
use Rattle.directory.specs.Finds as finds
use Rattle.edits.specs.Entries.{file_status, empty_status, tentative_status, protected_status, is_empty, is_tentative, is_named, same_name, empty_of}
use Rattle.edits.specs.Asks.{Place, places}
use Rattle.edits.specs.Values.{cleaned, value_of}
use Rattle.places.specs.declared.place.FilePlace.{FilePlace}
use Rattle.places.specs.declared.place.EntryPlace.{EntryPlace}
use Rattle.places.specs.Places.{first, file_at, file_place, entry_at, tentative_place}
use Rattle.places.specs.Searches.{entry_told, file_told, chained_of, passing, first_passing}
use Rattle.places.proofs.Along.{gathered, first-map}

-- a test that no empty passes
module _ (p : Entry → Bool) (none : (n : ℕ) → p (empty_of n) ≡ false) where
  -- passes an entry as it is written again where it passes the entry
  pub test_cleaned : (e : Entry) → (is_empty e ≡ true → p e ≡ false) → p e ≡ p (cleaned e)
  test_cleaned e h =
      elim (cases_Bool (is_empty e)) [
        | inl y ↦ h y ∙ (sym (none e.length) ∙ sym (ap p (cond-true (is_empty e) (empty_of e.length) e y)))
        | inr y ↦ sym (ap p (cond-false (is_empty e) (empty_of e.length) e y))
      ]

  -- and that entry is as it was
  pub passed_same : (e : Entry) → p (cleaned e) ≡ true → cleaned e ≡ e
  passed_same e h =
      elim (cases_Bool (is_empty e)) [
        | inl y ↦ absurd (false≢true (sym (none e.length) ∙ (sym (ap p (cond-true (is_empty e) (empty_of e.length) e y)) ∙ h)))
        | inr y ↦ cond-false (is_empty e) (empty_of e.length) e y
      ]

no_file : (s : Status) → empty_status s ≡ true → file_status s ≡ false
no_file status.Tentative h = refl
no_file status.Empty h = refl
no_file status.Permanent h = absurd (false≢true h)
no_file status.Protected h = absurd (false≢true h)

not_tentative : (s : Status) → empty_status s ≡ true → tentative_status s ≡ false
not_tentative status.Tentative h = absurd (false≢true h)
not_tentative status.Empty h = refl
not_tentative status.Permanent h = refl
not_tentative status.Protected h = refl

pub named_cleaned : (n : Name) (k i at : ℕ) (e : Entry) → finds.is_named n (placed k i at e) ≡ is_named n (cleaned e)
unfolding same_name
named_cleaned n k i at e =
    test_cleaned (is_named n) (λ m. refl) e (λ y. and_left (file_status e.status) (same_name n e.name) (no_file e.status y))

pub tentative_cleaned : (k i at : ℕ) (e : Entry) → finds.is_tentative (placed k i at e) ≡ is_tentative (cleaned e)
tentative_cleaned k i at e = test_cleaned is_tentative (λ m. refl) e (λ y. not_tentative e.status y)

pub file-found : (dir : List ℕ) (n : Name) → option_map file_told (first_passing (finds.is_named n) (chained_of dir)) ≡ file_place dir n
unfolding first_passing file_place
file-found dir n =
    first-map file_told (passing (finds.is_named n) (chained_of dir))
    ∙ (ap first (gathered (finds.is_named n) (is_named n) (named_cleaned n) file_told dir told (λ k pl i at e y. same k pl i at e (passed_same (is_named n) (λ m. refl) e y)))
    ∙ sym (first-map (file_at dir) (places (is_named n) (value_of dir).segments)))
  where
    told : ℕ → ℕ → Place → FilePlace
    told k at a =
        record {
          entry = record { place = a.segment; segment = k; index = a.index; start = at; length = a.entry.length };
          date = a.entry.date;
          protected = protected_status a.entry.status;
        }

    same : (k pl i at : ℕ) (e : Entry) → cleaned e ≡ e → file_told (pl, placed k i at e) ≡ told k at (record { segment = pl; index = i; entry = cleaned e })
    same k pl i at e h = ap (λ (d : Entry). told k at (record { segment = pl; index = i; entry = d })) (sym h)

pub tentative_found : (dir : List ℕ) → option_map entry_told (first_passing finds.is_tentative (chained_of dir)) ≡ tentative_place dir
unfolding first_passing tentative_place
tentative_found dir =
    first-map entry_told (passing finds.is_tentative (chained_of dir))
    ∙ (ap first (gathered finds.is_tentative is_tentative tentative_cleaned entry_told dir told (λ k pl i at e y. same k pl i at e (passed_same is_tentative (λ m. refl) e y)))
    ∙ sym (first-map (entry_at dir) (places is_tentative (value_of dir).segments)))
  where
    told : ℕ → ℕ → Place → EntryPlace
    told k at a = record { place = a.segment; segment = k; index = a.index; start = at; length = a.entry.length }

    same : (k pl i at : ℕ) (e : Entry) → cleaned e ≡ e → entry_told (pl, placed k i at e) ≡ told k at (record { segment = pl; index = i; entry = cleaned e })
    same k pl i at e h = ap (λ (d : Entry). told k at (record { segment = pl; index = i; entry = d })) (sym h)
