-- What the edits answer, by the place of the file.
use Rattle.std.proofs.Common.{◌≡◌, ℕ, ◌+◌, ◌≤◌, Bool, true, false, not, ◌&&◌, List, [], ◌∷◌, length, Ok, Err, sym, refl, ap, ◌∙◌, subst, inl, inr, arith}
use Rattle.std.proofs.lemmas.Bool.{cond-true, cond-false, cases_Bool, eq-eqb, ne_eqb, and_parts, and_from, and_right, false≢true}
use Rattle.codec.specs.declared.name.Name.{Name}
use Rattle.volume.specs.declared.fault.FileFault.TheVariants as fault
use Rattle.volume.specs.declared.entry.Entry.{Entry}
use Rattle.edits.specs.Entries.{is_empty, is_named, is_guarded, is_protected, empty_of, renamed, blocks_of, count, any}
use Rattle.edits.specs.Directories.{Directory, flat, entries_of, Lawful}
use Rattle.edits.specs.Asks.{Place, places}
use Rattle.edits.specs.Edits.{altered, spliced, emptied, holding, at_place, empty_first, change_first, present, guarded, protection, delete, rename, protect}
use Rattle.edits.proofs.Counts.{one, count-nil, count-cons, count_no}
use Rattle.edits.proofs.Edited.{edit_count}
use Rattle.edits.proofs.Emptied.{Shuns}
use Rattle.edits.proofs.Kept.{Emptying, emptied_at}
use Rattle.edits.proofs.Named.{named_shuns}
use Rattle.edits.proofs.Places.{Genuine, counted_places, places_genuine}

count_le : (p q : Entry → Bool) → ((e : Entry) → q e ≡ true → p e ≡ true) → (es : List Entry) → count q es ≤ count p es
count_le p q f [] = omega (arith, count-nil p, count-nil q)
count_le p q f (e ∷ es) = omega (arith, count-cons p e es, count-cons q e es, count_le p q f es, less (q e) (p e) (f e))
  where
    less : (a b : Bool) → (a ≡ true → b ≡ true) → one a ≤ one b
    less true true g = omega arith
    less true false g = absurd (false≢true (g refl))
    less false b g = omega arith

any_none : (p : Entry → Bool) (es : List Entry) → count p es ≡ 0 → any p es ≡ false
any_none p es h = ap not (eq-eqb (count p es) 0 h)

any_some : (p : Entry → Bool) (es : List Entry) → 1 ≤ count p es → any p es ≡ true
any_some p es h = ap not (ne_eqb (count p es) 0 (λ e. omega arith))

-- no file of a name
module _ (d : Directory) (n : Name) (z : places (is_named n) d.segments ≡ []) where
  none_named : count (is_named n) (entries_of d) ≡ 0
  none_named = sym (counted_places (is_named n) 0 d.segments) ∙ ap length z

  pub absent : present d n ≡ false
  absent = any_none (is_named n) (entries_of d) none_named

  pub unguarded : guarded d n ≡ false
  unguarded =
      any_none (is_guarded n) (entries_of d)
      (omega (arith, none_named, count_le (is_named n) (is_guarded n) (λ e h. (and_parts (is_named n e) (is_protected e) h).0) (entries_of d)))

  pub delete-none : delete d n ≡ Err fault.NoSuchFile
  unfolding delete
  delete-none = cond-false _ _ _ absent

  pub rename-none : (new : Name) → rename d n new ≡ Err fault.NoSuchFile
  unfolding rename
  rename-none new = cond-false _ _ _ absent

  pub protect-none : (on : Bool) → protect on d n ≡ Err fault.NoSuchFile
  unfolding protect
  protect-none on = cond-false _ _ _ absent

-- the file of a name at its place
module _ (v k : ℕ) (d : Directory) (n : Name) (l : Lawful k v d) (a : Place) (ps : List Place) (p : places (is_named n) d.segments ≡ a ∷ ps) where
  pub genuine : Genuine (is_named n) d.segments a
  genuine = go (places (is_named n) d.segments) p (places_genuine (is_named n) d.segments)
    where
      go : (qs : List Place) → qs ≡ a ∷ ps → Rattle.std.specs.List.AllByRecursion (Genuine (is_named n) d.segments) qs → Genuine (is_named n) d.segments a
      go [] e g = absurd (let y : ◌≡◌ {A = ℕ} 0 1 = cc in omega arith)
      go (b ∷ bs) e g = let y : b ≡ a = cc in subst (Genuine (is_named n) d.segments) y g.0

  gone : Emptying a.entry d.segments (altered a.segment (emptied a.index) d.segments)
  gone = emptied_at d.segments a.segment a.index a.entry genuine.0

  left : (q : Entry → Bool) → Shuns q is_empty → ((m : ℕ) → q (empty_of m) ≡ false)
      → count q (flat (altered a.segment (emptied a.index) d.segments)) + one (q a.entry) ≡ count q (entries_of d)
  left q s z =
      omega (arith, edit_count gone.edited.edit q, gone.holds q s, count_no q (empty_of (blocks_of gone.old)) [] (z (blocks_of gone.old)), count-nil q)

  guarded_shuns : Shuns (is_guarded n) is_empty
  guarded_shuns e h = ap (λ (b : Bool). b && is_protected e) (named_shuns n e h)

  named_left : count (is_named n) (flat (altered a.segment (emptied a.index) d.segments)) ≡ 0
  named_left = omega (arith, left (is_named n) (named_shuns n) (λ m. refl), ap one genuine.1, l.apart n)

  pub guarded_is : guarded d n ≡ is_protected a.entry
  guarded_is =
      let c = left (is_guarded n) guarded_shuns (λ m. refl) in
      let z = count_le (is_named n) (is_guarded n) (λ e h. (and_parts (is_named n e) (is_protected e) h).0)
      (flat (altered a.segment (emptied a.index) d.segments)) in
      elim (cases_Bool (is_protected a.entry)) [
        | inl y ↦ any_some (is_guarded n) (entries_of d) (omega (arith, c, ap one (and_from (is_named n a.entry) (is_protected a.entry) genuine.1 y))) ∙ sym y
        | inr y ↦ any_none (is_guarded n) (entries_of d) (omega (arith, c, z, named_left, ap one (and_right (is_named n a.entry) (is_protected a.entry) y))) ∙ sym y
      ]

  pub present_is : present d n ≡ true
  present_is = any_some (is_named n) (entries_of d) (omega (arith, left (is_named n) (named_shuns n) (λ m. refl), ap one genuine.1))

  pub delete-guarded : is_protected a.entry ≡ true → delete d n ≡ Err fault.Protected
  unfolding delete
  delete-guarded y = cond-true _ _ _ present_is ∙ cond-true _ _ _ (guarded_is ∙ y)

  pub delete_done : is_protected a.entry ≡ false → delete d n ≡ Ok (holding d (altered a.segment (emptied a.index) d.segments))
  unfolding delete empty_first
  delete_done y =
      cond-true _ _ _ present_is ∙ (cond-false _ _ _ (guarded_is ∙ y)
      ∙ ap (λ (qs : List Place). Ok (holding d (at_place (λ i e es. emptied i es) qs d.segments))) p)

  pub rename_exists : (new : Name) → present d new ≡ true → rename d n new ≡ Err fault.NameExists
  unfolding rename
  rename_exists new h = cond-true _ _ _ present_is ∙ cond-true _ _ _ h

  pub rename-guarded : (new : Name) → present d new ≡ false → is_protected a.entry ≡ true → rename d n new ≡ Err fault.Protected
  unfolding rename
  rename-guarded new h y = cond-true _ _ _ present_is ∙ (cond-false _ _ _ h ∙ cond-true _ _ _ (guarded_is ∙ y))

  pub rename_done : (new : Name) → present d new ≡ false → is_protected a.entry ≡ false
      → rename d n new ≡ Ok (holding d (altered a.segment (spliced a.index 1 (renamed new a.entry ∷ [])) d.segments))
  unfolding rename change_first
  rename_done new h y =
      cond-true _ _ _ present_is ∙ (cond-false _ _ _ h ∙ (cond-false _ _ _ (guarded_is ∙ y)
      ∙ ap (λ (qs : List Place). Ok (holding d (at_place (λ i e es. spliced i 1 (renamed new e ∷ []) es) qs d.segments))) p))

  pub protect_done : (on : Bool) → protect on d n ≡ Ok (holding d (altered a.segment (spliced a.index 1 (protection on a.entry ∷ [])) d.segments))
  unfolding protect change_first
  protect_done on =
      cond-true _ _ _ present_is
      ∙ ap (λ (qs : List Place). Ok (holding d (at_place (λ i e es. spliced i 1 (protection on e ∷ []) es) qs d.segments))) p
