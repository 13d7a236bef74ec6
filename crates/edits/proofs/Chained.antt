-- What an edit of one segment keeps of the chain.
use Rattle.std.proofs.Common.{◌≡◌, ℕ, zero, suc, ◌+◌, ◌≤◌, eqb, List, [], ◌∷◌, length, sym, refl, ap, ◌∙◌, arith}
use Rattle.std.specs.List.{AllByRecursion}
use Rattle.volume.specs.declared.entry.Entry.{Entry}
use Rattle.edits.specs.Directories.{Segment, Begins, meets, place_entries}
use Rattle.edits.specs.Edits.{altered}
use Rattle.edits.proofs.Counts.{one, count-cons}

-- the same segments in the same order, whatever they hold
pub record SameChain (ss tt' : List Segment) : Type 0 where
  pub long : length tt' ≡ length ss
  pub met : (k : ℕ) → meets k tt' ≡ meets k ss
  pub begun : Begins 1 ss → Begins 1 tt'

abbrev pub Roomy : ℕ → List Segment → Type 0
Roomy c ss = AllByRecursion (λ s. length s.entries ≤ c) ss

module _ (f : List Entry → List Entry) where
  altered-long : (k : ℕ) (ss : List Segment) → length (altered k f ss) ≡ length ss
  unfolding altered
  altered-long k [] = refl
  altered-long zero (s ∷ ss) = refl
  altered-long (suc k) (s ∷ ss) = ap suc (altered-long k ss)

  altered-met : (j k : ℕ) (ss : List Segment) → meets j (altered k f ss) ≡ meets j ss
  unfolding altered
  altered-met j k [] = refl
  altered-met j zero (s ∷ ss) =
      count-cons (λ s. eqb s.number j) (record { number = s.number; entries = f s.entries }) ss
      ∙ sym (count-cons (λ s. eqb s.number j) s ss)
  altered-met j (suc k) (s ∷ ss) =
      count-cons (λ s. eqb s.number j) s (altered k f ss)
      ∙ (ap (λ n. one (eqb s.number j) + n) (altered-met j k ss) ∙ sym (count-cons (λ s. eqb s.number j) s ss))

  altered_begun : (k : ℕ) (ss : List Segment) → Begins 1 ss → Begins 1 (altered k f ss)
  unfolding altered
  altered_begun k [] h = h
  altered_begun zero (s ∷ ss) h = h
  altered_begun (suc k) (s ∷ ss) h = h

  pub altered_chain : (k : ℕ) (ss : List Segment) → SameChain ss (altered k f ss)
  altered_chain k ss =
      record { long = altered-long k ss; met = λ j. altered-met j k ss; begun = altered_begun k ss }

  pub altered_roomy : (c k : ℕ) (ss : List Segment) → length (f (place_entries ss k)) ≤ c → Roomy c ss → Roomy c (altered k f ss)
  unfolding altered place_entries
  altered_roomy c k [] h r = tt
  altered_roomy c zero (s ∷ ss) h r = (h, r.1)
  altered_roomy c (suc k) (s ∷ ss) h r = (r.0, altered_roomy c k ss h r.1)

pub roomy_at : (c k : ℕ) (ss : List Segment) → Roomy c ss → length (place_entries ss k) ≤ c
unfolding place_entries
roomy_at c k [] r = omega arith
roomy_at c zero (s ∷ ss) r = r.0
roomy_at c (suc k) (s ∷ ss) r = roomy_at c k ss r.1
