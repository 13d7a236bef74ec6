-- Which empty an ask gets, by properties.
use Rattle.std.specs.Prelude.{◌≡◌, ℕ, ◌<◌, ◌≤◌, ◌⊎◌, List, ◌∷◌, ◌++◌, MatchOption}
use Rattle.std.specs.List.{AllByRecursion}
use Rattle.runfile.specs.declared.field.Ask.{Ask}
use Rattle.runfile.specs.declared.field.Ask.TheVariants.{Whole, Half, Exact}
use Rattle.edits.specs.Asks.{Place, size, half_of, Choice, chosen}

-- a is the first of n or more
pub record FirstFit (n : ℕ) (ps : List Place) (a : Place) : Type 0 where
  pub before : List Place
  pub after : List Place
  pub all : ps ≡ before ++ a ∷ after
  pub shorter : AllByRecursion (λ b. size b < n) before
  pub enough : n ≤ size a

-- a is the largest, the first of equals
pub record Largest (ps : List Place) (a : Place) : Type 0 where
  pub before : List Place
  pub after : List Place
  pub all : ps ≡ before ++ a ∷ after
  pub shorter : AllByRecursion (λ b. size b < size a) before
  pub no_longer : AllByRecursion (λ b. size b ≤ size a) after

-- a is the largest, and b the largest of the others
pub record Second (ps : List Place) (a b : Place) : Type 0 where
  pub largest : Largest ps a
  pub second : Largest (largest.before ++ largest.after) b

-- what each ask gets, and when none
abbrev pub Gets : Ask → List Place → Choice → Type 0
Gets Whole ps c = Largest ps c.place × (c.given ≡ size c.place) × (1 ≤ c.given)
Gets Half ps c =
    (1 ≤ c.given)
    × (((l : Largest ps c.place) × (c.given ≡ half_of c.place) × AllByRecursion (λ b. size b ≤ half_of c.place) (l.before ++ l.after))
    ⊎ ((a : Place) × Second ps a c.place × (c.given ≡ size c.place) × (half_of a < size c.place)))
Gets (Exact n) ps c = FirstFit n ps c.place × (c.given ≡ n)

abbrev pub GetsNone : Ask → List Place → Type 0
GetsNone Whole ps = AllByRecursion (λ b. size b ≡ 0) ps
GetsNone Half ps = AllByRecursion (λ b. size b ≡ 0) ps
GetsNone (Exact n) ps = AllByRecursion (λ b. size b < n) ps

abbrev pub AsksGet : Type 0
AsksGet = (ask : Ask) (ps : List Place) → MatchOption (chosen ask ps) (GetsNone ask ps) (Gets ask ps)
