-- One entry more or none along the chain.
use Rattle.std.proofs.Common.{◌≡◌, ℕ, ◌+◌, Bool, true, false, Bor, sym, inl, inr, List, [], ◌∷◌, ◌++◌, map, drop, ◌≤◌, IfSome, Some, None, Option, refl, ap, ◌∙◌}
use Rattle.std.proofs.lemmas.List.{map-append}
use Rattle.std.specs.Bool.{⊤}
use Rattle.std.specs.Fn.{CalledAt, Mut}
use Rattle.std.specs.Iterator.{YieldsFirst, YieldsThen}
use Rattle.std.specs.List.{find, FoldsTo}
use Rattle.std.specs.Option.{MatchOption}
use Rattle.std.proofs.lemmas.Iterator.Adapters.{option_map_id}
use Rattle.std.proofs.lemmas.Iterator.Consumers.{YieldsList-from_first}
use Rattle.std.proofs.lemmas.Iterator.Search.{find_from_yields_List}
use Rattle.directory.specs.declared.walk.ChainEntries.{ChainEntries}
use Rattle.directory.specs.Entries.{chain_left}
use Rattle.directory.proofs.Starts.{low_placed}
use Rattle.std.proofs.lemmas.Bool.{cases_Bool, cond-true, cond-false}
use Rattle.segment.specs.Directories.{entries_at}
use Rattle.directory.specs.declared.placed.Placed.{Placed}
use Rattle.directory.specs.Walks.{blocks_of, placed_in, left_from, chained_from}
use Rattle.places.specs.Places.{first}
use Rattle.places.specs.Searches.{passing, first_passing}

-- what is left, without places
map_paired : (p : ℕ) (ps : List Placed) → map (λ (e : ℕ × Placed). e.1) (map (λ e. (p, e)) ps) ≡ ps
map_paired p [] = refl
map_paired p (e ∷ ps) = ap (λ l. e ∷ l) (map_paired p ps)

pub left-chained : (x : ℕ) (dir : List ℕ) (p i at : ℕ) (ks : List ℕ)
    → map (λ (e : ℕ × Placed). e.1) (chained_from x dir p i at ks) ≡ left_from x dir i at ks
unfolding chained_from left_from
left-chained x dir p i at [] = refl
left-chained x dir p i at (k ∷ ks) =
    let here : List Placed = placed_in k i at (drop i (entries_at x dir k)) in
    let on : ℕ = at + blocks_of (drop i (entries_at x dir k)) in
    map-append (λ (e : ℕ × Placed). e.1) (map (λ e. (p, e)) here) (chained_from x dir (p + 1) 0 on ks)
    ∙ (ap (λ l. l ++ map (λ (e : ℕ × Placed). e.1) (chained_from x dir (p + 1) 0 on ks)) (map_paired p here)
    ∙ ap (λ l. here ++ l) (left-chained x dir (p + 1) 0 on ks))

-- what a search finds
pub found : (q : Placed → Bool) (es : List (ℕ × Placed)) → find (λ (e : ℕ × Placed). q e.1) es ≡ first_passing q es
unfolding first_passing passing
found q [] = refl
found q (e ∷ es) =
    elim (cases_Bool (q e.1)) [
      | inl y ↦ cond-true _ _ _ y ∙ sym (ap first (cond-true _ _ _ y))
      | inr y ↦ cond-false _ _ _ y ∙ (found q es ∙ sym (ap first (cond-false _ _ _ y)))
    ]

-- and where it starts
pub low_found : (e f : ChainEntries) (r : Option (ℕ × Placed)) → YieldsFirst chain_left e r f → IfSome r (λ p. p.1.start ≤ 200000000)
low_found e f (Some p) q = low_placed e p (chain_left f) q
low_found e f None q = tt

-- what `find` answers over the entries of a chain
pub first_found : {F : Type 0} {g : Mut F (Bor (ℕ × Placed) × Unit {0}) Bool} (test : Placed → Bool) (s u : ChainEntries) (f : F) (r : Option (ℕ × Placed))
    → (xs : List (ℕ × Placed)) × (j : F) × YieldsThen (YieldsFirst chain_left) s xs r u × FoldsTo (λ p x q. CalledAt g p x false q) f xs j × MatchOption r ⊤ (λ x. (h : F) × CalledAt g j x true h)
    → ((x : ℕ × Placed) (b : Bool) (q : F) → CalledAt g f x b q → (q ≡ f) × (b ≡ test x.1)) → r ≡ first_passing test (chain_left s)
first_found test s u f r d k =
    sym (option_map_id r)
    ∙ find_from_yields_List (λ (e : ℕ × Placed). test e.1) u f r d (YieldsList-from_first (λ x. x) chain_left (chain_left s) refl) k
    ∙ found test (chain_left s)
