-- ENTER.
use Rattle.std.proofs.Common.{◌≡◌, ℕ, zero, suc, ◌+◌, ◌-◌, ◌<◌, ◌≤◌, true, cond, eqb, leb, List, [], ◌∷◌, ◌++◌, length, take, drop, IfSome, IfOk, Some, None, Ok, Err, Option, Result, sym, refl, ap, ◌∙◌, arith}
use Rattle.std.proofs.lemmas.List.{drop_at, length-take-le, length-drop}
use Rattle.std.proofs.lemmas.Bool.{cond_both, leb-false, eqb-false}
use Rattle.codec.specs.declared.name.Name.{Name}
use Rattle.volume.specs.declared.fault.FileFault.{FileFault}
use Rattle.volume.specs.declared.fault.FileFault.TheVariants as fault
use Rattle.volume.specs.declared.entry.Entry.{Entry}
use Rattle.edits.specs.Entries.{is_file, is_tentative, is_named, is_misnamed, is_empty, lawful_words, tentative_of, empty_of, blocks_of}
use Rattle.edits.specs.Directories.{Segment, Directory, highest, capacity_of, place_entries, entry_named, files, Lawful}
use Rattle.edits.specs.Asks.{size, Choice, choice}
use Rattle.edits.specs.Edits.{altered, spliced, split, staying, moved_choice, is_full, Entered, entered_at, entered_by, guarded, enter}
use Rattle.edits.specs.Laws.{Stands, Opens, EnterOpens}
use Rattle.edits.proofs.Counts.{blocks_nil, blocks_cons, count-nil, count_yes, count_no}
use Rattle.edits.proofs.Edited.{spliced_edit}
use Rattle.edits.proofs.Places.{stands_inside, drop_step}
use Rattle.edits.proofs.Chained.{altered_roomy, roomy_at}
use Rattle.edits.proofs.Named.{tentative_shuns, named_shuns, file_shuns}
use Rattle.edits.proofs.Kept.{edit_length, altered-edited, edited-file, edited_lists, edited-lawful, edited_apart}
use Rattle.edits.proofs.Chosen.{choice_stands}
use Rattle.edits.proofs.Split.{capacity_large, split-file, split_lists, split-lawful, stands_by, moved_stands}

pub altered_at : (f : List Entry → List Entry) (k : ℕ) (ss : List Segment) → k < length ss
    → place_entries (altered k f ss) k ≡ f (place_entries ss k)
unfolding altered place_entries
altered_at f k [] h = absurd (omega arith)
altered_at f zero (s ∷ ss) h = refl
altered_at f (suc k) (s ∷ ss) h = altered_at f k ss (omega arith)

-- where there is room for one more entry
module _ (v : ℕ) (d : Directory) (n : Name) (date : ℕ) (c : Choice) (l : Lawful 0 v d) (w : lawful_words n ≡ true)
    (here : Stands d.segments c.place.segment c.place.index c.place.entry)
    (empty : is_empty c.place.entry ≡ true)
    (enough : c.given ≤ size c.place)
    (room : length (place_entries d.segments c.place.segment) + 1 ≤ capacity_of d.extra) where
  pub entered_opens : Opens v d n date (entered_at d n date c)
  unfolding spliced
  entered_opens =
      let ss = d.segments in
      let k = c.place.segment in
      let i = c.place.index in
      let e = c.place.entry in
      let es = place_entries ss k in
      let t = tentative_of n date c.given in
      let r = empty_of (size c.place - c.given) in
      let new : List Entry = t ∷ r ∷ [] in
      let f = spliced i 1 new in
      let inside = stands_inside ss k i e here in
      let edit = spliced_edit i e new es here in
      let edited = altered-edited ss k f inside edit in
      let blocks : blocks_of (e ∷ []) ≡ blocks_of new =
      omega (arith, enough, blocks_cons e [], blocks_cons t (r ∷ []), blocks_cons r [], blocks_nil) in
      let fits : i ≤ length es = omega (arith, ap length here, length-drop i es) in
      let at = altered_at f k ss inside in
      let here' : drop i (f es) ≡ t ∷ r ∷ drop (i + 1) es = drop_at (take i es) (new ++ drop (i + 1) es) i (length-take-le i es fits) in
      let next' = drop_step (f es) i t (r ∷ drop (i + 1) es) here' in
      record {
        total = refl;
        extra = refl;
        lawful =
            edited-lawful d edited 0 1 v l
            (altered_roomy f (capacity_of d.extra) k ss (omega (arith, edit_length edit, room)) l.room)
            blocks
            (omega (arith, count_no is_tentative e [] (tentative_shuns e empty), count_yes is_tentative t (r ∷ []) refl, count_no is_tentative r [] refl, count-nil is_tentative))
            (count_no is_misnamed t (r ∷ []) refl ∙ (count_no is_misnamed r [] refl ∙ count-nil is_misnamed))
            (λ m. edited_apart d edited 0 v l m
            (omega (arith, count_no (is_named m) t (r ∷ []) refl, count_no (is_named m) r [] refl, count-nil (is_named m))));
        keeps = λ m.
            edited-file d edited m blocks
            (count_no (is_named m) e [] (named_shuns m e empty) ∙ count-nil (is_named m))
            (count_no (is_named m) t (r ∷ []) refl ∙ (count_no (is_named m) r [] refl ∙ count-nil (is_named m)));
        lists =
            edited_lists d edited blocks
            (count_no is_file e [] (file_shuns e empty) ∙ count-nil is_file)
            (count_no is_file t (r ∷ []) refl ∙ (count_no is_file r [] refl ∙ count-nil is_file));
        opened =
            record {
              tentative = refl;
              lawful = w;
              empty = refl;
              here = rw at (stands_by (f es) i t (r ∷ drop (i + 1) es) here');
              next = rw at (stands_by (f es) (suc i) r (drop (i + 1) es) (sym next'));
            };
        entry = refl;
      }

-- what was opened on a directory with the same files
opens_from : (v : ℕ) (d d' : Directory) (n : Name) (date : ℕ) (r : Entered) → ((m : Name) → entry_named d' m ≡ entry_named d m) → files d' ≡ files d
    → d'.total ≡ d.total → d'.extra ≡ d.extra → Opens v d' n date r → Opens v d n date r
opens_from v d d' n date r k f t x o =
    record { total = o.total ∙ t; extra = o.extra ∙ x; lawful = o.lawful; keeps = λ m. o.keeps m ∙ k m; lists = o.lists ∙ f; opened = o.opened; entry = o.entry }

pub enter_opens : EnterOpens
unfolding enter
enter_opens v d n date ask need l w =
    cond_both (guarded d n) (Err fault.Protected) (entered_by d n date need (choice ask d)) (λ r. IfOk r (Opens v d n date)) (λ _. tt)
    (λ _. by (choice ask d) (choice_stands d ask))
  where
    by : (o : Option Choice)
        → IfSome o (λ c. Stands d.segments c.place.segment c.place.index c.place.entry
        × (is_empty c.place.entry ≡ true) × (c.given ≤ size c.place))
        → IfOk (entered_by d n date need o) (Opens v d n date)
    by None h = tt
    by (Some c) h =
        let k = c.place.segment in
        let cap = capacity_of d.extra in
        let inside = stands_inside d.segments k c.place.index c.place.entry h.0 in
        let part : Result Entered FileFault = Ok (entered_at (split d k) n date (moved_choice (staying d) c)) in
        let full : Result Entered FileFault = cond (eqb (highest d) d.total) (Err fault.DirectoryFull) part in
        cond_both (leb need c.given) (cond (is_full d k) full (Ok (entered_at d n date c))) (Err fault.NoRoom) (λ r. IfOk r (Opens v d n date))
        (λ _. cond_both (is_full d k) full (Ok (entered_at d n date c)) (λ r. IfOk r (Opens v d n date))
        (λ y. cond_both (eqb (highest d) d.total) (Err fault.DirectoryFull) part (λ r. IfOk r (Opens v d n date)) (λ _. tt)
        (λ z.
        let twelve = capacity_large d.extra l.shaped.small in
        let more : highest d < d.total = let ne = eqb-false (highest d) d.total z in omega (arith, l.shaped.in_use) in
        let m = moved_stands d.segments k c.place.index c.place.entry (staying d) (suc (highest d)) cap inside h.0
        (omega (arith, twelve)) (omega (arith, twelve)) (roomy_at cap k d.segments l.room) in
        opens_from v d (split d k) n date (entered_at (split d k) n date (moved_choice (staying d) c)) (split-file d k inside) (split_lists d k inside) refl refl
        (entered_opens v (split d k) n date (moved_choice (staying d) c) (split-lawful d k inside 0 v l more) w
        m.0 (rw m.1 h.1) (omega (arith, h.2, ap (λ e. e.length) m.1)) m.2)))
        (λ y. entered_opens v d n date c l w h.0 h.1 h.2
        (omega (arith, leb-false cap (length (place_entries d.segments k)) y))))
        (λ _. tt)
