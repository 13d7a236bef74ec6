-- Places: each one found is genuine, and as many are found as there are.
use Rattle.std.proofs.Common.{◌≡◌, ℕ, zero, suc, ◌<◌, Bool, true, List, [], ◌∷◌, length, drop, sym, refl, ap, ◌∙◌, add-one, arith}
use Rattle.std.specs.List.{AllByRecursion}
use Rattle.std.proofs.lemmas.List.{drop-drop, length-append, length-drop}
use Rattle.std.proofs.ByRecursion.{All-append, All-weaker}
use Rattle.volume.specs.declared.entry.Entry.{Entry}
use Rattle.edits.specs.Entries.{count}
use Rattle.edits.specs.Directories.{Segment, flat, place_entries}
use Rattle.edits.specs.Asks.{Place, places_in, places_from, places}
use Rattle.edits.specs.Laws.{Stands}
use Rattle.std.proofs.lemmas.Bool.{cond_both}
use Rattle.edits.proofs.Counts.{count-nil, count_yes, count_no, count-append}

abbrev pub Genuine : (Entry → Bool) → List Segment → Place → Type 0
Genuine p ss a = Stands ss a.segment a.index a.entry × (p a.entry ≡ true)

pub drop_step : {X : Type 0} (xs : List X) (i : ℕ) (y : X) (ys : List X) → drop i xs ≡ y ∷ ys → ys ≡ drop (suc i) xs
drop_step xs i y ys h = ap (drop 1) (sym h) ∙ (drop-drop 1 i xs ∙ rw add-one)

pub entries_at_from : (ss : List Segment) (k : ℕ) → place_entries ss k ≡ place_entries (drop k ss) zero
unfolding place_entries
entries_at_from [] zero = refl
entries_at_from [] (suc k) = refl
entries_at_from (s ∷ ss) zero = refl
entries_at_from (s ∷ ss) (suc k) = entries_at_from ss k

module _ (p : Entry → Bool) where
  InSegment : ℕ → List Entry → Place → Type 0
  InSegment k xs a =
      (a.segment ≡ k) × (drop a.index xs ≡ a.entry ∷ drop (suc a.index) xs) × (p a.entry ≡ true)

  in_places : (xs : List Entry) (k i : ℕ) (es : List Entry) → drop i xs ≡ es → AllByRecursion (InSegment k xs) (places_in p k i es)
  unfolding places_in InSegment
  in_places xs k i [] h = tt
  in_places xs k i (e ∷ es) h =
      let r = drop_step xs i e es h in
      cond_both (p e) (record { segment = k; index = i; entry = e } ∷ places_in p k (suc i) es) (places_in p k (suc i) es)
      (AllByRecursion (InSegment k xs))
      (λ y. ((refl, h ∙ ap (λ l. e ∷ l) r, y), in_places xs k (suc i) es (sym r)))
      (λ y. in_places xs k (suc i) es (sym r))

  from_places : (full : List Segment) (k : ℕ) (ss : List Segment) → drop k full ≡ ss → AllByRecursion (Genuine p full) (places_from p k ss)
  unfolding places_from place_entries InSegment
  from_places full k [] h = tt
  from_places full k (s ∷ ss) h =
      let at : place_entries full k ≡ s.entries = entries_at_from full k ∙ ap (λ l. place_entries l zero) h in
      All-append (Genuine p full) (places_in p k 0 s.entries) (places_from p (suc k) ss)
      (All-weaker (InSegment k s.entries) (Genuine p full)
      (λ a g. (rw (g.0, at) g.1, g.2))
      (places_in p k 0 s.entries) (in_places s.entries k 0 s.entries refl))
      (from_places full (suc k) ss (sym (drop_step full k s ss h)))

  pub places_genuine : (ss : List Segment) → AllByRecursion (Genuine p ss) (places p ss)
  places_genuine ss = from_places ss 0 ss refl

  counted_in : (k i : ℕ) (es : List Entry) → length (places_in p k i es) ≡ count p es
  unfolding places_in
  counted_in k i [] = sym (count-nil p)
  counted_in k i (e ∷ es) =
      let more = counted_in k (suc i) es in
      cond_both (p e) (record { segment = k; index = i; entry = e } ∷ places_in p k (suc i) es) (places_in p k (suc i) es)
      (λ l. length l ≡ count p (e ∷ es))
      (λ y. omega (arith, more, count_yes p e es y))
      (λ y. omega (arith, more, count_no p e es y))

  pub counted_places : (k : ℕ) (ss : List Segment) → length (places_from p k ss) ≡ count p (flat ss)
  unfolding places_from flat
  counted_places k [] = sym (count-nil p)
  counted_places k (s ∷ ss) =
      omega (arith, length-append (places_in p k 0 s.entries) (places_from p (suc k) ss), counted_in k 0 s.entries, counted_places (suc k) ss, count-append p s.entries (flat ss))

-- where an entry stands there is a segment
pub stands_inside : (ss : List Segment) (k i : ℕ) (e : Entry) → Stands ss k i e → k < length ss
unfolding place_entries
stands_inside [] k i e h = absurd (omega (arith, simp length-drop at (ap length h)))
stands_inside (s ∷ ss) zero i e h = omega arith
stands_inside (s ∷ ss) (suc k) i e h = omega (arith, stands_inside ss k i e h)
