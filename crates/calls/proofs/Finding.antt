-- The file of a name, by its place.
use Rattle.std.proofs.Common.{◌≡◌, ℕ, List, [], ◌∷◌, Some, None, Option, sym, refl, ◌∙◌}
use Rattle.std.specs.Option.{option_map}
use Rattle.codec.specs.declared.name.Name.{Name}
use Rattle.edits.specs.Entries.{is_named}
use Rattle.edits.specs.Asks.{Place, places}
use Rattle.edits.specs.Values.{value_of}
use Rattle.places.specs.declared.place.FilePlace.{FilePlace}
use Rattle.places.specs.Places.{first, file_at, file_place}

pub found_none : (dir : List ℕ) (n : Name) {o : Option FilePlace} → o ≡ file_place dir n → o ≡ None → places (is_named n) (value_of dir).segments ≡ []
unfolding file_place
found_none dir n p q = go (places (is_named n) (value_of dir).segments) (sym q ∙ p)
  where
    go : (ps : List Place) → None ≡ option_map (file_at dir) (first ps) → ps ≡ []
    go [] e = refl
    go (a ∷ ps) e = absurd (cc)

pub record Found (dir : List ℕ) (n : Name) (f : FilePlace) : Type 0 where
  pub place : Place
  pub others : List Place
  pub are : places (is_named n) (value_of dir).segments ≡ place ∷ others
  pub is : f ≡ file_at dir place

pub found_some : (dir : List ℕ) (n : Name) (f : FilePlace) {o : Option FilePlace} → o ≡ file_place dir n → o ≡ Some f → Found dir n f
unfolding file_place
found_some dir n f h is = go (places (is_named n) (value_of dir).segments) refl (sym is ∙ h)
  where
    go : (ps : List Place) → places (is_named n) (value_of dir).segments ≡ ps → Some f ≡ option_map (file_at dir) (first ps) → Found dir n f
    go [] q e = absurd (cc)
    go (a ∷ ps) q e = record { place = a; others = ps; are = q; is = cc }
