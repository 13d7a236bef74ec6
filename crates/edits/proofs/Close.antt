-- CLOSE, and ENTER with what ends it.
use Rattle.std.proofs.Common.{◌≡◌, ℕ, ◌+◌, ◌-◌, ◌*◌, ◌≤◌, Bool, true, false, not, eqb, [], ◌∷◌, ◌++◌, length, take, IfOk, Some, Ok, Err, Result, unwrap_or, sym, refl, ap, ◌∙◌, inl, inr, arith}
use Rattle.std.specs.Option.{option_map}
use Rattle.std.proofs.lemmas.Bool.{cond_both, cases_Bool, eqb-true, and_left}
use Rattle.volume.specs.declared.fault.FileFault.TheVariants as fault
use Rattle.volume.specs.declared.entry.Status.TheVariants.{Permanent}
use Rattle.codec.specs.declared.name.Name.{Name}
use Rattle.volume.specs.declared.entry.Entry.{Entry}
use Rattle.edits.specs.Entries.{is_file, is_tentative, is_named, is_misnamed, same_name, lawful_words, empty_of, lengthened, marked, blocks_of, count, Standing, put, standing}
use Rattle.edits.specs.Directories.{Directory, capacity_of, flat, place_entries, entries_of, first_block, entry_named, file_of, files, file, free, Lawful}
use Rattle.edits.specs.Edits.{altered, spliced, holding, rest, filled_out, empty_first, change_first, Output, closed, close, enter, purge, guarded}
use Rattle.edits.specs.Laws.{Opened, Opens, output_start, Closes, CloseKeeps, Purges, Stores, EnterThenPurge, EnterThenClose}
use Rattle.edits.proofs.Counts.{one, blocks_nil, blocks_cons, count-nil, count_yes, count_no, standing_here}
use Rattle.edits.proofs.Edited.{edit_one, edit_parts, spliced_edit_two}
use Rattle.edits.proofs.Places.{stands_inside}
use Rattle.edits.proofs.Named.{name_same, named_file, named_name, fails, named_other, file-alone, tentative_shuns, named_shuns, named_shuns_tentative, tentative_no_file}
use Rattle.edits.proofs.Kept.{altered-edited, edited-file, edited-lawful, edited_apart, emptying_file, emptying_standing, emptying_count, emptying_lawful}
use Rattle.edits.proofs.Changes.{first-emptied, first_changed, changing_count, changing_front, changing_file, changing_lawful, purge_keeps}
use Rattle.edits.proofs.Enter.{enter_opens}
use Rattle.edits.specs.Tested.{used_by}
use Rattle.edits.proofs.Tested.{used_and_free}

pub rest_blocks : (m : ℕ) → blocks_of (rest m) ≡ m
rest_blocks m =
    cond_both (eqb m 0) [] (empty_of m ∷ []) (λ l. blocks_of l ≡ m)
    (λ y. omega (arith, blocks_nil, eqb-true m 0 y)) (λ _. omega (arith, blocks_cons (empty_of m) [], blocks_nil))

pub rest-none : (q : Entry → Bool) (m : ℕ) → q (empty_of m) ≡ false → count q (rest m) ≡ 0
rest-none q m h =
    cond_both (eqb m 0) [] (empty_of m ∷ []) (λ l. count q l ≡ 0)
    (λ _. count-nil q) (λ _. count_no q (empty_of m) [] h ∙ count-nil q)

pub rest-length : (m : ℕ) → length (rest m) ≤ 1
rest-length m = cond_both (eqb m 0) [] (empty_of m ∷ []) (λ l. length l ≤ 1) (λ _. omega arith) (λ _. omega arith)

-- the open output after a step of CLOSE: so long, at a block, and what is kept
record Stays (v : ℕ) (d : Directory) (P : Name → Type 0) (s : Standing) (d' : Directory) : Type 0 where
  lawful : Lawful 1 v d'
  keeps : (m : Name) → (P m → ⊥) → entry_named d' m ≡ entry_named d m
  output : standing is_tentative (first_block d) (entries_of d') ≡ Some s

module _ (v : ℕ) (d : Directory) (out : Output) (n : ℕ) (l : Lawful 1 v d) (o : Opened d out) (h : n ≤ out.entry.length) where
  taken : Entry
  taken = lengthened n out.entry

  stage_one : Stays v d (λ _. ⊥) (record { start = output_start d out; entry = taken })
      (holding d (altered out.segment (spliced out.index 2 (filled_out out n)) d.segments))
  unfolding taken
  stage_one =
      let ss = d.segments in
      let k = out.segment in
      let i = out.index in
      let t = out.entry in
      let b = out.behind in
      let es = place_entries ss k in
      let m = t.length - n + b.length in
      let t' = lengthened n t in
      let new = filled_out out n in
      let edited = altered-edited ss k (spliced i 2 new) (stands_inside ss k i t o.here)
      (spliced_edit_two i t b new es o.here o.next) in
      let no_file : is_file t ≡ false = tentative_no_file t o.tentative in
      let old-none : (q : Entry → Bool) → q t ≡ false → q b ≡ false → count q (t ∷ b ∷ []) ≡ 0
      = λ q x y. count_no q t (b ∷ []) x ∙ (count_no q b [] y ∙ count-nil q) in
      let new_none : (q : Entry → Bool) → q t' ≡ false → q (empty_of m) ≡ false → count q new ≡ 0
      = λ q x y. count_no q t' (rest m) x ∙ rest-none q m y in
      let named_no : (x : Name) → is_named x t ≡ false = λ x. and_left (is_file t) (same_name x t.name) no_file in
      let old_t : count is_tentative (t ∷ b ∷ []) ≡ 1 =
      omega (arith, count_yes is_tentative t (b ∷ []) o.tentative, count_no is_tentative b [] (tentative_shuns b o.empty), count-nil is_tentative) in
      let new_t : count is_tentative new ≡ 1 =
      omega (arith, count_yes is_tentative t' (rest m) o.tentative, rest-none is_tentative m refl) in
      let blocks : blocks_of (t ∷ b ∷ []) ≡ blocks_of new =
      omega (arith, h, blocks_cons t (b ∷ []), blocks_cons b [], blocks_nil, blocks_cons t' (rest m), rest_blocks m) in
      let front : count is_tentative (flat (take k ss) ++ take i es) ≡ 0 =
      omega (arith, edit_parts edited.edit is_tentative, old_t, l.settled) in
      record {
        lawful =
            edited-lawful d edited 1 1 v l
            (edited.roomy (capacity_of d.extra) (omega (arith, rest-length m)) l.room)
            blocks (omega (arith, old_t, new_t))
            (new_none is_misnamed (and_left (is_file t) (not (lawful_words t.name)) no_file) refl)
            (λ x. edited_apart d edited 1 v l x (omega (arith, new_none (is_named x) (named_no x) refl)));
        keeps = λ x _.
            edited-file d edited x blocks
            (old-none (is_named x) (named_no x) (named_shuns x b o.empty)) (new_none (is_named x) (named_no x) refl);
        output =
            ap (standing is_tentative (first_block d)) edited.edit.now
            ∙ standing_here is_tentative (first_block d) (flat (take k ss) ++ take i es) t' (rest m ++ edited.edit.after) front o.tentative;
      }

-- an old file becomes empty
stage_two : (v : ℕ) (d d₁ : Directory) (n : Name) (s : Standing) → first_block d₁ ≡ first_block d → Stays v d (λ _. ⊥) s d₁
    → Stays v d (λ m. m ≡ n) s (holding d₁ (empty_first (is_named n) d₁.segments))
    × (count (is_named n) (flat (empty_first (is_named n) d₁.segments)) ≡ 0)
stage_two v d d₁ n s same g =
    elim (first-emptied (is_named n) d₁.segments) [
      | inl z ↦
          rw z.1 ((record { lawful = g.lawful; keeps = λ m _. g.keeps m (λ x. x); output = g.output }), z.0)
      | inr f ↦
          let e = f.0 in
          let file_is = named_file n e f.1 in
          let t : is_tentative e ≡ false = (file-alone e.status file_is).0 in (
            (record {
              lawful = emptying_lawful d₁ f.2 1 1 v g.lawful (omega (arith, ap one t));
              keeps = λ m ne. emptying_file d₁ f.2 m (named_other m n e ne f.1) ∙ g.keeps m (λ x. x);
              output = emptying_standing d₁ f.2 is_tentative (first_block d) tentative_shuns t refl ∙ g.output;
            }),
            omega (arith, emptying_count d₁ f.2 n, ap one f.1, g.lawful.apart n),
          )
    ]

-- the output becomes a file
stage_three : (v : ℕ) (d d₂ : Directory) (n : Name) (s : Standing) → d₂.total ≡ d.total → s.entry.name ≡ n
    → lawful_words n ≡ true
    → Stays v d (λ m. m ≡ n) s d₂ → count (is_named n) (entries_of d₂) ≡ 0
    → let d₃ = holding d₂ (change_first is_tentative (marked Permanent) d₂.segments) in
    Lawful 0 v d₃ × ((m : Name) → (m ≡ n → ⊥) → entry_named d₃ m ≡ entry_named d m) × (file d₃ n ≡ Some (file_of (put (marked Permanent) s)))
stage_three v d d₂ n s same name w g none =
    elim (first_changed is_tentative (marked Permanent) d₂.segments) [
      | inl z ↦ absurd (omega (arith, z.0, g.lawful.settled))
      | inr f ↦
          let e = f.0 in
          let c = f.2 in
          let ss = change_first is_tentative (marked Permanent) d₂.segments in
          let at = first_block d in
          let at₂ : first_block d₂ ≡ at = ap (λ t. 6 + 2 * t) same in
          let front : count is_tentative c.before ≡ 0 =
          changing_front d₂ c is_tentative f.1 (omega (arith, g.lawful.settled)) in
          let here = ap (standing is_tentative at) c.edited.edit.was
          ∙ standing_here is_tentative at c.before e c.edited.edit.after front f.1 in
          let is : e ≡ s.entry = ap (λ o. unwrap_or (option_map (λ s. s.entry) o) e) (sym here ∙ g.output) in
          let named : e.name ≡ n = ap (λ e. e.name) is ∙ name in
          let yes : is_named n (marked Permanent e) ≡ true = rw named (name_same n) in
          let words : is_misnamed (marked Permanent e) ≡ false = rw (named, w) refl in
          let no : (m : Name) → (m ≡ n → ⊥) → is_named m (marked Permanent e) ≡ false =
          λ m ne. fails (is_named m (marked Permanent e)) (λ q. ne (named_name m (marked Permanent e) q ∙ named)) in
          let apart : (m : Name) → count (is_named m) (flat ss) ≤ 1 =
          λ m. elim (cases_Bool (is_named m (marked Permanent e))) [
            | inl q ↦ omega (arith, changing_count d₂ c (is_named m), ap one q, none, ap (λ n. count (is_named n) (entries_of d₂)) (named_name m (marked Permanent e) q ∙ named))
            | inr q ↦ omega (arith, changing_count d₂ c (is_named m), ap one q, g.lawful.apart m)
          ] in (
            changing_lawful d₂ c 1 0 v g.lawful refl (omega (arith, ap one f.1)) words apart,
            λ m ne. changing_file d₂ c m refl (named_shuns_tentative m e f.1) (no m ne) ∙ g.keeps m ne,
            rw at₂ (ap (option_map file_of)
                (edit_one (marked Permanent) c.edited.edit is_tentative (is_named n) at f.1 yes front
                (omega (arith, edit_parts c.edited.edit (is_named n), none))
                ∙ ap (option_map (put (marked Permanent))) g.output)),
          )
    ]

pub close_keeps : CloseKeeps
unfolding close closed taken
close_keeps v d out n l o h =
    let m = out.entry.name in
    cond_both (guarded d m) (Err fault.Protected) (Ok (holding d (closed out n d.segments))) (λ r. IfOk r (Closes v d out n)) (λ _. tt)
    (λ _.
    let one' = stage_one v d out n l o h in
    let ss = altered out.segment (spliced out.index 2 (filled_out out n)) d.segments in
    let s : Standing = record { start = output_start d out; entry = lengthened n out.entry } in
    let two = stage_two v d (holding d ss) m s refl one' in
    let three = stage_three v d (holding d (empty_first (is_named m) ss)) m s refl refl o.lawful two.0 two.1 in
    record { lawful = three.0; keeps = three.1; gives = three.2 })

made-map : {X Y : Type 0} (P Q : X → Type 0) → ((x : X) → P x → Q x) → (r : Result X Y) → IfOk r P → IfOk r Q
made-map P Q f (Ok x) h = f x h
made-map P Q f (Err y) h = tt

purged_total : (d : Directory) (out : Output) → (purge d out).total ≡ d.total
unfolding purge
purged_total d out = refl

pub enter_then_purge : EnterThenPurge
enter_then_purge v d n date ask need l w =
    made-map (Opens v d n date) (λ r. Purges v d (purge r.directory r.output) × (free (purge r.directory r.output) ≡ free d))
    (λ r p.
    let d' = purge r.directory r.output in
    let q = purge_keeps v r.directory r.output p.lawful p.opened in
    let f : files d' ≡ files d = q.lists ∙ p.lists in
    let t : d'.total ≡ d.total = purged_total r.directory r.output ∙ p.total in (
      record { lawful = q.lawful; keeps = λ m. q.keeps m ∙ p.keeps m; lists = f },
      omega (arith, used_and_free v d' q.lawful, used_and_free v d l, ap used_by f, t),
    ))
    (enter d n date ask need) (enter_opens v d n date ask need l w)

pub enter_then_close : EnterThenClose
enter_then_close v d n date ask need blocks l w =
    made-map (Opens v d n date)
    (λ r. blocks ≤ r.output.entry.length
    → IfOk (close r.directory r.output blocks) (Stores v d n date (output_start r.directory r.output) blocks))
    (λ r p h.
    let out = r.output in
    let name : out.entry.name ≡ n = ap (λ e. e.name) p.entry in
    let day : out.entry.date ≡ date = ap (λ e. e.date) p.entry in
    made-map (Closes v r.directory out blocks) (Stores v d n date (output_start r.directory out) blocks)
    (λ d' c.
    record {
      lawful = c.lawful;
      keeps = λ m ne. c.keeps m (λ q. ne (q ∙ name)) ∙ p.keeps m;
      gives = ap (file d') (sym name)
          ∙ (c.gives ∙ ap (λ e. Some (file_of (record { start = output_start r.directory out; entry = marked Permanent (lengthened blocks e) }))) p.entry);
    })
    (close r.directory out blocks) (close_keeps v r.directory out blocks p.lawful p.opened h))
    (enter d n date ask need) (enter_opens v d n date ask need l w)
