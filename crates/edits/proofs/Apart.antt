-- Entries lie inside their list and share no block.
use Rattle.std.proofs.Common.{◌≡◌, ◌+◌, ◌≤◌, true, ◌⊎◌, [], ◌∷◌, IfSome, Some, None, Option, inl, inr, arith}
use Rattle.std.proofs.lemmas.Bool.{cond_both, cases_Bool}
use Rattle.edits.specs.Entries.{blocks_of, standing}
use Rattle.edits.specs.Laws.{PlacesInside, PlacesApart}
use Rattle.edits.proofs.Counts.{blocks_cons}

pub found_map : {X : Type 0} (P Q : X → Type 0) → ((x : X) → P x → Q x) → (o : Option X) → IfSome o P → IfSome o Q
found_map P Q f None h = tt
found_map P Q f (Some x) h = f x h

pub places_inside : PlacesInside
unfolding standing
places_inside p at [] = tt
places_inside p at (e ∷ es) =
    cond_both (p e) (Some (record { start = at; entry = e })) (standing p (at + e.length) es)
    (λ o. IfSome o (λ s. (p s.entry ≡ true) × (at ≤ s.start) × (s.start + s.entry.length ≤ at + blocks_of (e ∷ es))))
    (λ y. (y, omega arith, omega (arith, blocks_cons e es)))
    (λ _. found_map
    (λ s. (p s.entry ≡ true) × (at + e.length ≤ s.start) × (s.start + s.entry.length ≤ at + e.length + blocks_of es))
    (λ s. (p s.entry ≡ true) × (at ≤ s.start) × (s.start + s.entry.length ≤ at + blocks_of (e ∷ es)))
    (λ s h. (h.0, omega (arith, h.1), omega (arith, h.2, blocks_cons e es)))
    (standing p (at + e.length) es) (places_inside p (at + e.length) es))

pub places_apart : PlacesApart
unfolding standing
places_apart p q x at [] = tt
places_apart p q x at (e ∷ es) =
    let next = at + e.length in
    elim (cases_Bool (p e)) [
      | inl y ↦
          elim (cases_Bool (q e)) [
            | inl z ↦ absurd (x e y z)
            | inr z ↦ rw (y, z) (found_map
                (λ t. (q t.entry ≡ true) × (next ≤ t.start) × (t.start + t.entry.length ≤ next + blocks_of es))
                (λ t. (next ≤ t.start) ⊎ (t.start + t.entry.length ≤ at))
                (λ t h. inl h.1) (standing q next es) (places_inside q next es))
          ]
      | inr y ↦
          elim (cases_Bool (q e)) [
            | inl z ↦ rw (y, z) (found_map
                (λ s. (p s.entry ≡ true) × (next ≤ s.start) × (s.start + s.entry.length ≤ next + blocks_of es))
                (λ s. (s.start + s.entry.length ≤ at) ⊎ (next ≤ s.start))
                (λ s h. inr h.1) (standing p next es) (places_inside p next es))
            | inr z ↦ rw (y, z) (places_apart p q x next es)
          ]
    ]
