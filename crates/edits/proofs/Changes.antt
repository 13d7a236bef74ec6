-- PURGE, DELETE, RENAME, PROTECT.
use Rattle.std.proofs.Common.{◌≡◌, ℕ, ◌+◌, ◌≤◌, Bool, true, false, cond, not, eqb, ◌⊎◌, List, [], ◌∷◌, ◌++◌, length, take, IfOk, Ok, Err, Result, sym, refl, ap, ◌∙◌, inl, inr, arith}
use Rattle.std.specs.List.{AllByRecursion}
use Rattle.std.proofs.lemmas.Bool.{cond_both, cases_Bool, eqb-true, eqb-false, not-true, not-false, and_right, and_from}
use Rattle.volume.specs.declared.fault.FileFault.{FileFault}
use Rattle.volume.specs.declared.fault.FileFault.TheVariants as fault
use Rattle.codec.specs.declared.name.Name.{Name}
use Rattle.volume.specs.declared.entry.Entry.{Entry}
use Rattle.edits.specs.Entries.{is_file, is_tentative, is_named, is_misnamed, same_name, lawful_words, renamed, blocks_of, count, any}
use Rattle.edits.specs.Directories.{Segment, Directory, capacity_of, flat, place_entries, entries_of, first_block, entry_named, Lawful}
use Rattle.edits.specs.Asks.{Place, places}
use Rattle.edits.specs.Edits.{holding, spliced, emptied, empty_first, change_first, at_place, protection, present, guarded, purge, delete, rename, protect}
use Rattle.edits.specs.Laws.{Deletes, Renames, Protects, PurgeKeeps, DeleteKeeps, RenameKeeps, ProtectKeeps}
use Rattle.edits.proofs.Counts.{one, blocks_nil, blocks_cons, count-nil, count_yes, count_no, count-cons, standing-none}
use Rattle.edits.proofs.Edited.{edit_one, edit_count, edit_parts, spliced_edit}
use Rattle.edits.proofs.Places.{Genuine, places_genuine, counted_places, stands_inside}
use Rattle.edits.proofs.Named.{same_is, name_same, named_file, named_name, fails, named_other, file-alone, named_shuns_tentative, tentative_no_file}
use Rattle.edits.proofs.Kept.{Edited, altered-edited, edited-file, edited-lawful, Emptying, emptied_at, emptying_file, emptying_lists, emptying_count, emptying_lawful}

-- the first place that passes a test, or there is none
unfoldable pub First : (Entry → Bool) → List Segment → Type 0
First p ss =
    ((places p ss ≡ []) × (count p (flat ss) ≡ 0))
    ⊎ ((a : Place) × (ps : List Place) × (places p ss ≡ a ∷ ps) × Genuine p ss a)

pub first_place : (p : Entry → Bool) (ss : List Segment) → First p ss
unfolding First
first_place p ss = go (places p ss) refl (places_genuine p ss)
  where
    go : (ps : List Place) → places p ss ≡ ps → AllByRecursion (Genuine p ss) ps
        → ((places p ss ≡ []) × (count p (flat ss) ≡ 0))
        ⊎ ((a : Place) × (ps : List Place) × (places p ss ≡ a ∷ ps) × Genuine p ss a)
    go [] h g = inl (h, sym (counted_places p 0 ss) ∙ ap length h)
    go (a ∷ ps) h g = inr (a, ps, h, g.0)

-- what passes is emptied
pub first-emptied : (p : Entry → Bool) (ss : List Segment)
    → ((count p (flat ss) ≡ 0) × (empty_first p ss ≡ ss)) ⊎ ((e : Entry) × (p e ≡ true) × Emptying e ss (empty_first p ss))
unfolding First empty_first
first-emptied p ss =
    elim (first_place p ss) [
      | inl n ↦ inl (n.1, ap (λ ps. at_place (λ i e es. emptied i es) ps ss) n.0)
      | inr f ↦
          let a = f.0 in
          inr (a.entry, f.3.1, rw f.2 (emptied_at ss a.segment a.index a.entry f.3.0))
    ]

-- one entry has become another
pub record Changing (e e' : Entry) (ss ss' : List Segment) : Type 0 where
  pub before : List Entry
  pub edited : Edited before (e ∷ []) (e' ∷ []) ss ss'

pub first_changed : (p : Entry → Bool) (f : Entry → Entry) (ss : List Segment)
    → ((count p (flat ss) ≡ 0) × (change_first p f ss ≡ ss)) ⊎ ((e : Entry) × (p e ≡ true) × Changing e (f e) ss (change_first p f ss))
unfolding First change_first
first_changed p f ss =
    elim (first_place p ss) [
      | inl n ↦ inl (n.1, ap (λ ps. at_place (λ i e es. spliced i 1 (f e ∷ []) es) ps ss) n.0)
      | inr g ↦
          let a = g.0 in
          let h = g.3.0 in
          inr (
            a.entry,
            g.3.1,
            rw g.2
                (record {
                  before = flat (take a.segment ss) ++ take a.index (place_entries ss a.segment);
                  edited =
                      altered-edited ss a.segment (spliced a.index 1 (f a.entry ∷ [])) (stands_inside ss a.segment a.index a.entry h)
                      (spliced_edit a.index a.entry (f a.entry ∷ []) (place_entries ss a.segment) h);
                }),
          )
    ]

pub any_yes : {X : Type 0} (p : X → Bool) (xs : List X) → any p xs ≡ true → 1 ≤ count p xs
any_yes p xs h = let n = eqb-false (count p xs) 0 (not-true (eqb (count p xs) 0) h) in omega arith

pub any_no : {X : Type 0} (p : X → Bool) (xs : List X) → any p xs ≡ false → count p xs ≡ 0
any_no p xs h = eqb-true (count p xs) 0 (not-false (eqb (count p xs) 0) h)

module _ (d : Directory) {e e' : Entry} {ss : List Segment} (g : Changing e e' d.segments ss) where
  pub changing_blocks : e.length ≡ e'.length → blocks_of (e ∷ []) ≡ blocks_of (e' ∷ [])
  changing_blocks h = omega (arith, h, blocks_cons e [], blocks_cons e' [], blocks_nil)

  pub changing_count : (p : Entry → Bool) → count p (flat ss) + one (p e) ≡ count p (entries_of d) + one (p e')
  changing_count p =
      omega (arith, edit_count g.edited.edit p, count-cons p e [], count-cons p e' [], count-nil p)

  pub changing_front : (p : Entry → Bool) → p e ≡ true → count p (entries_of d) ≤ 1 → count p g.before ≡ 0
  changing_front p y h = omega (arith, edit_parts g.edited.edit p, count_yes p e [] y)

  pub changing_file : (m : Name) → e.length ≡ e'.length → is_named m e ≡ false → is_named m e' ≡ false
      → entry_named (holding d ss) m ≡ entry_named d m
  changing_file m h o n =
      edited-file d g.edited m (changing_blocks h)
      (count_no (is_named m) e [] o ∙ count-nil (is_named m)) (count_no (is_named m) e' [] n ∙ count-nil (is_named m))

  pub changing_lawful : (k k' v : ℕ) → Lawful k v d → e.length ≡ e'.length
      → k' + one (is_tentative e) ≡ k + one (is_tentative e') → is_misnamed e' ≡ false
      → ((n : Name) → count (is_named n) (flat ss) ≤ 1) → Lawful k' v (holding d ss)
  changing_lawful k k' v l h t w a =
      edited-lawful d g.edited k k' v l (g.edited.roomy (capacity_of d.extra) (omega arith) l.room) (changing_blocks h)
      (omega (arith, t, count-cons is_tentative e [], count-cons is_tentative e' [], count-nil is_tentative))
      (count_no is_misnamed e' [] w ∙ count-nil is_misnamed) a

-- a file's entry is no misnamed one
pub lawful_entry : (d : Directory) {e e' : Entry} {ss : List Segment} → Changing e e' d.segments ss
    → count is_misnamed (entries_of d) ≡ 0 → is_misnamed e ≡ false
lawful_entry d {e} {e'} {ss} g h =
    fails (is_misnamed e) (λ y. omega (arith, edit_parts g.edited.edit is_misnamed, count_yes is_misnamed e [] y, h))

pub purge_keeps : PurgeKeeps
unfolding purge
purge_keeps v d out l o =
    let g = emptied_at d.segments out.segment out.index out.entry o.here in
    record {
      lawful = emptying_lawful d g 1 0 v l (omega (arith, ap one o.tentative));
      keeps = λ m. emptying_file d g m (named_shuns_tentative m out.entry o.tentative);
      lists = emptying_lists d g (tentative_no_file out.entry o.tentative);
    }

pub delete_keeps : DeleteKeeps
unfolding delete
delete_keeps v d n l =
    let ss = empty_first (is_named n) d.segments in
    cond_both (present d n) (cond (guarded d n) (Err fault.Protected) (Ok (holding d ss))) (Err fault.NoSuchFile) (λ r. IfOk r (Deletes v d n))
    (λ y. cond_both (guarded d n) (Err fault.Protected) (Ok (holding d ss)) (λ r. IfOk r (Deletes v d n)) (λ _. tt)
    (λ _. elim (first-emptied (is_named n) d.segments) [
      | inl z ↦ absurd (omega (arith, z.0, any_yes (is_named n) (entries_of d) y))
      | inr f ↦
          let g = f.2 in
          let t : is_tentative f.0 ≡ false = (file-alone f.0.status (named_file n f.0 f.1)).0 in
          record {
            lawful = emptying_lawful d g 0 0 v l (omega (arith, ap one t));
            keeps = λ m ne. emptying_file d g m (named_other m n f.0 ne f.1);
            gone = standing-none (is_named n) (first_block d) (flat ss)
                (omega (arith, emptying_count d g n, ap one f.1, l.apart n));
          }
    ]))
    (λ _. tt)

pub rename_keeps : RenameKeeps
unfolding rename
rename_keeps v d old new l w =
    let ss = change_first (is_named old) (renamed new) d.segments in
    let inner : Result Directory FileFault = cond (guarded d old) (Err fault.Protected) (Ok (holding d ss)) in
    cond_both (present d old) (cond (present d new) (Err fault.NameExists) inner) (Err fault.NoSuchFile) (λ r. IfOk r (Renames v d old new))
    (λ y. cond_both (present d new) (Err fault.NameExists) inner (λ r. IfOk r (Renames v d old new)) (λ _. tt)
    (λ fresh. cond_both (guarded d old) (Err fault.Protected) (Ok (holding d ss)) (λ r. IfOk r (Renames v d old new)) (λ _. tt)
    (λ _. elim (first_changed (is_named old) (renamed new) d.segments) [
      | inl z ↦ absurd (omega (arith, z.0, any_yes (is_named old) (entries_of d) y))
      | inr f ↦
          let e = f.0 in
          let g = f.2 in
          let file_is = named_file old e f.1 in
          let t : is_tentative e ≡ false = (file-alone e.status file_is).0 in
          let none : count (is_named new) (entries_of d) ≡ 0 = any_no (is_named new) (entries_of d) fresh in
          let named : is_named new (renamed new e) ≡ true = and_from (is_file e) (same_name new new) file_is (name_same new) in
          let differ : old ≡ new → ⊥ = λ p. omega (arith, ap (λ n. count (is_named n) (entries_of d)) p, none, any_yes (is_named old) (entries_of d) y) in
          let gone : is_named old (renamed new e) ≡ false =
          and_right (is_file e) (same_name old new) (fails (same_name old new) (λ q. differ (same_is old new q))) in
          let apart : (n : Name) → count (is_named n) (flat ss) ≤ 1 =
          λ n. elim (cases_Bool (is_named n (renamed new e))) [
            | inl q ↦ omega (arith, changing_count d g (is_named n), ap one q, none, ap (λ n. count (is_named n) (entries_of d)) (named_name n (renamed new e) q))
            | inr q ↦ omega (arith, changing_count d g (is_named n), ap one q, l.apart n)
          ] in
          record {
            lawful = changing_lawful d g 0 0 v l refl (omega arith) (and_right (is_file e) (not (lawful_words new)) (ap not w)) apart;
            keeps = λ m ne. changing_file d g m refl (named_other m old e (λ p. ne (inl p)) f.1)
                (and_right (is_file e) (same_name m new) (fails (same_name m new) (λ q. ne (inr (same_is m new q)))));
            gone = standing-none (is_named old) (first_block d) (flat ss)
                (omega (arith, changing_count d g (is_named old), ap one f.1, ap one gone, l.apart old));
            gives =
                edit_one (renamed new) g.edited.edit (is_named old) (is_named new) (first_block d) f.1 named
                (changing_front d g (is_named old) f.1 (l.apart old))
                (omega (arith, edit_parts g.edited.edit (is_named new), none));
          }
    ])))
    (λ _. tt)

-- protection changes neither length, nor name, nor that it is a file
protection_facts : (on : Bool) (e : Entry) → is_file e ≡ true
    → (e.length ≡ (protection on e).length) × (is_tentative (protection on e) ≡ false)
    × (is_misnamed (protection on e) ≡ is_misnamed e) × ((m : Name) → is_named m (protection on e) ≡ is_named m e)
protection_facts true e h = (refl, refl, rw h, λ m. rw h)
protection_facts false e h = (refl, refl, rw h, λ m. rw h)

pub protect_keeps : ProtectKeeps
unfolding protect
protect_keeps v on d n l =
    let ss = change_first (is_named n) (protection on) d.segments in
    cond_both (present d n) (Ok (holding d ss)) (Err fault.NoSuchFile) (λ r. IfOk r (Protects v on d n))
    (λ y. elim (first_changed (is_named n) (protection on) d.segments) [
      | inl z ↦ absurd (omega (arith, z.0, any_yes (is_named n) (entries_of d) y))
      | inr f ↦
          let e = f.0 in
          let g = f.2 in
          let file_is = named_file n e f.1 in
          let t : is_tentative e ≡ false = (file-alone e.status file_is).0 in
          let p = protection_facts on e file_is in
          record {
            lawful = changing_lawful d g 0 0 v l p.0 (omega (arith, ap one t, ap one p.1)) (p.2 ∙ lawful_entry d g l.named)
                (λ m. omega (arith, changing_count d g (is_named m), ap one (p.3 m), l.apart m));
            keeps = λ m ne. let o = named_other m n e ne f.1 in changing_file d g m p.0 o (p.3 m ∙ o);
            gives =
                edit_one (protection on) g.edited.edit (is_named n) (is_named n) (first_block d) f.1 (p.3 n ∙ f.1)
                (changing_front d g (is_named n) f.1 (l.apart n)) (changing_front d g (is_named n) f.1 (l.apart n));
          }
    ])
    (λ _. tt)
