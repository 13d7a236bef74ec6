-- The first entry that passes a test starts where its place says.
use Rattle.std.proofs.Common.{◌≡◌, ℕ, suc, ◌+◌, Bool, List, [], ◌∷◌, ◌++◌, take, Some, sym, refl, ap, ◌∙◌, inl, inr, add-zero, zero-add, arith}
use Rattle.std.specs.Option.{option_map}
use Rattle.std.proofs.lemmas.Bool.{cases_Bool, cond-true, cond-false}
use Rattle.volume.specs.declared.entry.Entry.{Entry}
use Rattle.segment.specs.Directories.{Segment, Directory, flat}
use Rattle.edits.specs.Entries.{blocks_of, Standing, standing}
use Rattle.edits.specs.Directories.{first_block}
use Rattle.edits.specs.Asks.{Place, places_in, places_from}
use Rattle.edits.specs.Edits.{Output}
use Rattle.edits.specs.Laws.{output_start}
use Rattle.places.specs.Places.{start_in, place_start, first}
use Rattle.places.specs.Laws.{standing_at, place_of, FirstStarts}
use Rattle.places.proofs.Along.{start_first, start_next}

abbrev stand : ℕ → Entry → Standing
stand at e = record { start = at; entry = e }

module _ (p : Entry → Bool) (g : Place → Standing) where
  -- in a segment, before other entries
  within : (k i at : ℕ) (es : List Entry) (ys : List Entry) (ps : List Place)
      → ((j : ℕ) (e : Entry) → g (place_of k (i + j) e) ≡ stand (at + blocks_of (take j es)) e)
      → standing p (at + blocks_of es) ys ≡ option_map g (first ps)
      → standing p at (es ++ ys) ≡ option_map g (first (places_in p k i es ++ ps))
  unfolding standing places_in blocks_of
  within k i at [] ys ps h q = ap (λ (n : ℕ). standing p n ys) (sym (add-zero at)) ∙ q
  within k i at (e ∷ es) ys ps h q =
      let more = within k (suc i) (at + e.length) es ys ps
      (λ j d.
      let n : i + suc j ≡ suc i + j = omega arith in
      let b : at + (e.length + blocks_of (take j es)) ≡ (at + e.length) + blocks_of (take j es) = omega arith in
      ap (λ (z : ℕ). g (place_of k z d)) (sym n) ∙ (h (suc j) d ∙ ap (λ (z : ℕ). stand z d) b))
      (let b : (at + e.length) + blocks_of es ≡ at + (e.length + blocks_of es) = omega arith in
      ap (λ (z : ℕ). standing p z ys) b ∙ q) in
      elim (cases_Bool (p e)) [
        | inl y ↦
            let here : stand at e ≡ g (place_of k i e)
            = sym (ap (λ (z : ℕ). g (place_of k z e)) (sym (add-zero i)) ∙ (h 0 e ∙ ap (λ (z : ℕ). stand z e) (add-zero at))) in
            cond-true _ _ _ y ∙ (ap (λ (s : Standing). Some s) here
            ∙ sym (ap (λ (l : List Place). option_map g (first (l ++ ps))) (cond-true _ _ _ y)))
        | inr y ↦ cond-false _ _ _ y ∙ (more ∙ sym (ap (λ (l : List Place). option_map g (first (l ++ ps))) (cond-false _ _ _ y)))
      ]

  along : (k at : ℕ) (ss : List Segment) → ((j i : ℕ) (e : Entry) → g (place_of (k + j) i e) ≡ stand (start_in at ss j i) e)
      → standing p at (flat ss) ≡ option_map g (first (places_from p k ss))
  unfolding standing places_from flat
  along k at [] h = refl
  along k at (s ∷ ss) h =
      within k 0 at s.entries (flat ss) (places_from p (suc k) ss)
      (λ j e.
      let n : k + 0 ≡ k = omega arith in
      ap (λ (z : ℕ). g (place_of k z e)) (zero-add j)
      ∙ (ap (λ (z : ℕ). g (place_of z j e)) (sym n) ∙ (h 0 j e ∙ ap (λ (z : ℕ). stand z e) (start_first at s ss j))))
      (along (suc k) (at + blocks_of s.entries) ss
      (λ j i e.
      let n : k + suc j ≡ suc k + j = omega arith in
      ap (λ (z : ℕ). g (place_of z i e)) (sym n) ∙ (h (suc j) i e ∙ ap (λ (z : ℕ). stand z e) (start_next at s ss j i))))

pub first_starts : FirstStarts
first_starts p d =
    along p (standing_at d) 0 (first_block d) d.segments
    (λ j i e. ap (λ (z : ℕ). standing_at d (place_of z i e)) (zero-add j))

-- an output starts where its place says
pub output_starts : (d : Directory) (out : Output) → output_start d out ≡ place_start d (place_of out.segment out.index out.entry)
unfolding start_in
output_starts d out = refl
