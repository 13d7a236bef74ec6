-- What an ask gets is one of the empties, and no more than it has.
use Rattle.std.proofs.Common.{◌≡◌, ℕ, ◌≤◌, Bool, true, eqb, ltb, leb, List, [], ◌∷◌, IfSome, Some, None, Option, arith}
use Rattle.std.specs.List.{AllByRecursion}
use Rattle.std.proofs.lemmas.Bool.{cond_both, eqb-false, leb-true}
use Rattle.runfile.specs.declared.field.Ask.{Ask}
use Rattle.runfile.specs.declared.field.Ask.TheVariants.{Whole, Half, Exact}
use Rattle.edits.specs.Entries.{is_empty}
use Rattle.edits.specs.Asks.{Place, size, first_of, larger, largest, others, Choice, giving, half_of, whole_of, half_or_second, half_from, chosen}
use Rattle.edits.specs.Laws.{Stands, ChoiceStands}
use Rattle.edits.proofs.Places.{Genuine, places_genuine}
use Rattle.edits.proofs.Apart.{found_map}

module _ (P : Place → Type 0) where
  larger_of : (a : Place) (o : Option Place) → P a → IfSome o P → P (larger a o)
  larger_of a None p h = p
  larger_of a (Some b) p h = cond_both (ltb (size a) (size b)) b a P (λ _. h) (λ _. p)

  largest_of : (ps : List Place) → AllByRecursion P ps → IfSome (largest ps) P
  unfolding largest
  largest_of [] h = tt
  largest_of (a ∷ ps) h = larger_of a (largest ps) h.0 (largest_of ps h.1)

  others_of : (a : Place) (ps : List Place) → AllByRecursion P ps → AllByRecursion P (others a ps)
  unfolding others
  others_of a [] h = tt
  others_of a (b ∷ ps) h =
      cond_both (eqb (size a) (size b)) ps (b ∷ others a ps) (AllByRecursion P) (λ _. h.1) (λ _. (h.0, others_of a ps h.1))

  first_is : (p : Place → Bool) (ps : List Place) → AllByRecursion P ps → IfSome (first_of p ps) (λ a. P a × (p a ≡ true))
  unfolding first_of
  first_is p [] h = tt
  first_is p (a ∷ ps) h =
      cond_both (p a) (Some a) (first_of p ps) (λ o. IfSome o (λ a. P a × (p a ≡ true)))
      (λ y. (h.0, y)) (λ _. first_is p ps h.1)

  abbrev Fair : Choice → Type 0
  Fair c = P c.place × (c.given ≤ size c.place)

  whole_is : (o : Option Place) → IfSome o P → IfSome (whole_of o) Fair
  whole_is None h = tt
  whole_is (Some a) h =
      cond_both (eqb (size a) 0) None (Some (giving (size a) a)) (λ o. IfSome o Fair) (λ _. tt) (λ _. (h, omega arith))

  half_is : (a : Place) (o : Option Place) → (size a ≡ 0 → ⊥) → P a → IfSome o P → Fair (half_or_second a o)
  half_is a None n p h = (p, omega arith)
  half_is a (Some b) n p h =
      cond_both (ltb (half_of a) (size b)) (giving (size b) b) (giving (half_of a) a) Fair
      (λ _. (h, omega arith)) (λ _. (p, omega arith))

  from-half : (o : Option Place) (ps : List Place) → IfSome o P → AllByRecursion P ps → IfSome (half_from o ps) Fair
  from-half None ps h g = tt
  from-half (Some a) ps h g =
      cond_both (eqb (size a) 0) None (Some (half_or_second a (largest (others a ps)))) (λ o. IfSome o Fair) (λ _. tt)
      (λ n. half_is a (largest (others a ps)) (eqb-false (size a) 0 n) h (largest_of (others a ps) (others_of a ps g)))

  exact_of : (n : ℕ) (o : Option Place) → IfSome o (λ a. P a × (leb n (size a) ≡ true))
      → IfSome (Rattle.std.specs.Option.option_map (giving n) o) Fair
  exact_of n None h = tt
  exact_of n (Some a) h = (h.0, leb-true n (size a) h.1)

  pub chosen_of : (ask : Ask) (ps : List Place) → AllByRecursion P ps → IfSome (chosen ask ps) Fair
  chosen_of Whole ps h = whole_is (largest ps) (largest_of ps h)
  chosen_of Half ps h = from-half (largest ps) ps (largest_of ps h) h
  chosen_of (Exact n) ps h = exact_of n (first_of (λ a. leb n (size a)) ps) (first_is (λ a. leb n (size a)) ps h)

pub choice_stands : ChoiceStands
choice_stands d ask =
    found_map
    (λ c. Genuine is_empty d.segments c.place × (c.given ≤ size c.place))
    (λ c. Stands d.segments c.place.segment c.place.index c.place.entry
    × (is_empty c.place.entry ≡ true) × (c.given ≤ size c.place))
    (λ c h. (h.0.0, h.0.1, h.1))
    (chosen ask (Rattle.edits.specs.Asks.places is_empty d.segments))
    (chosen_of (Genuine is_empty d.segments) ask (Rattle.edits.specs.Asks.places is_empty d.segments) (places_genuine is_empty d.segments))
