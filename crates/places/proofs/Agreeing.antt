-- LOOKUP and the directory as a value agree.
use Rattle.std.proofs.Common.{◌≡◌, ℕ, ◌+◌, ◌*◌, List, [], ◌∷◌, ◌++◌, map, Some, None, Option, sym, refl, ap, ◌∙◌, inl, inr, add-zero, arith}
use Rattle.std.specs.Option.{option_map}
use Rattle.std.proofs.lemmas.Bool.{cases_Bool, cond-true, cond-false}
use Rattle.codec.specs.Words.{word_at}
use Rattle.codec.specs.declared.name.Name.{Name}
use Rattle.volume.specs.declared.entry.Entry.{Entry}
use Rattle.segment.specs.Directories.{flat, entries_at, chain_of}
use Rattle.directory.specs.declared.placed.Placed.{Placed}
use Rattle.directory.specs.Walks.{placed_in, left_from}
use Rattle.directory.specs.Finds.{first_named}
use Rattle.directory.specs.Sounds.{placed_of, file_of}
use Rattle.edits.specs.Entries.{is_named, blocks_of, Standing, standing}
use Rattle.edits.specs.Directories.{entry_named}
use Rattle.edits.specs.Values.{cleaned, values_of, value_of}
use Rattle.places.specs.Laws.{Seen, seen_placed, seen_standing, LookupAgrees}
use Rattle.places.proofs.Along.{cleaned-length}
use Rattle.places.proofs.Found.{named_cleaned, passed_same}

module _ (n : Name) where
  within : (k i at : ℕ) (es : List Entry) (rest : List Placed) (ys : List Entry)
      → option_map seen_placed (first_named n rest) ≡ option_map seen_standing (standing (is_named n) (at + blocks_of es) ys)
      → option_map seen_placed (first_named n (placed_in k i at es ++ rest)) ≡ option_map seen_standing (standing (is_named n) at (map cleaned es ++ ys))
  unfolding first_named placed_in standing blocks_of
  within k i at [] rest ys q = q ∙ ap (λ (z : ℕ). option_map seen_standing (standing (is_named n) z ys)) (add-zero at)
  within k i at (e ∷ es) rest ys q =
      let b : at + (e.length + blocks_of es) ≡ (at + e.length) + blocks_of es = omega arith in
      let more = within k (i + 1) (at + e.length) es rest ys (q ∙ ap (λ (z : ℕ). option_map seen_standing (standing (is_named n) z ys)) b) in
      elim (cases_Bool (is_named n (cleaned e))) [
        | inl y ↦
            ap (option_map seen_placed) (cond-true _ _ _ (named_cleaned n k i at e ∙ y))
            ∙ (ap (λ (d : Entry). Some (seen_standing (record { start = at; entry = d }))) (sym (passed_same (is_named n) (λ m. refl) e y))
            ∙ sym (ap (option_map seen_standing) (cond-true _ _ _ y)))
        | inr y ↦
            ap (option_map seen_placed) (cond-false _ _ _ (named_cleaned n k i at e ∙ y))
            ∙ (more
            ∙ (ap (λ (z : ℕ). option_map seen_standing (standing (is_named n) (at + z) (map cleaned es ++ ys))) (sym (cleaned-length e))
            ∙ sym (ap (option_map seen_standing) (cond-false _ _ _ y))))
      ]

  along : (x : ℕ) (dir : List ℕ) (at : ℕ) (ks : List ℕ)
      → option_map seen_placed (first_named n (left_from x dir 0 at ks)) ≡ option_map seen_standing (standing (is_named n) at (flat (values_of x dir ks)))
  unfolding first_named left_from standing flat values_of
  along x dir at [] = refl
  along x dir at (k ∷ ks) =
      let es : List Entry = entries_at x dir k in
      within k 0 at es (left_from x dir 0 (at + blocks_of es) ks) (flat (values_of x dir ks)) (along x dir (at + blocks_of es) ks)

pub lookup_agrees : LookupAgrees
unfolding file_of placed_of value_of
lookup_agrees dir n = along n (word_at dir 6) dir (6 + 2 * word_at dir 0) (chain_of dir)

-- LOOKUP's answers, one by one
pub lookup_none : (dir : List ℕ) (n : Name) → None ≡ file_of dir n → entry_named (value_of dir) n ≡ None
lookup_none dir n h = go (entry_named (value_of dir) n) (ap (option_map seen_placed) h ∙ lookup_agrees dir n)
  where
    go : (o : Option Standing) → ◌≡◌ {A = Option Seen} None (option_map seen_standing o) → o ≡ None
    go None q = refl
    go (Some s) q = absurd (let z : ◌≡◌ {A = ℕ} 0 1 = cc in omega arith)

pub lookup_some : (dir : List ℕ) (n : Name) (p : Placed) → Some p ≡ file_of dir n
    → (s : Standing) × (entry_named (value_of dir) n ≡ Some s) × (seen_placed p ≡ seen_standing s)
lookup_some dir n p h = go (entry_named (value_of dir) n) refl (ap (option_map seen_placed) h ∙ lookup_agrees dir n)
  where
    go : (o : Option Standing) → entry_named (value_of dir) n ≡ o → ◌≡◌ {A = Option Seen} (Some (seen_placed p)) (option_map seen_standing o)
        → (s : Standing) × (entry_named (value_of dir) n ≡ Some s) × (seen_placed p ≡ seen_standing s)
    go None e q = absurd (let z : ◌≡◌ {A = ℕ} 0 1 = cc in omega arith)
    go (Some s) e q = (s, e, cc)
