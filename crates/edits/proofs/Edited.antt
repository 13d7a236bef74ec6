-- An edit of a list of entries: some entries, behind others, replaced.
use Rattle.std.proofs.Common.{◌≡◌, ℕ, zero, suc, ◌+◌, ◌<◌, ◌≤◌, Bool, true, List, [], ◌∷◌, ◌++◌, length, take, drop, sym, ap, ◌∙◌, add-one, arith}
use Rattle.std.specs.Option.{option_map}
use Rattle.std.proofs.lemmas.List.{append_assoc, take-append-drop}
use Rattle.volume.specs.declared.entry.Entry.{Entry}
use Rattle.edits.specs.Entries.{is_file, blocks_of, count, put, standing}
use Rattle.edits.specs.Directories.{Segment, flat, files_from, place_entries}
use Rattle.edits.specs.Edits.{spliced, altered}
use Rattle.edits.proofs.Counts.{blocks_append, count-append, standing_skip, standing_under, standing_here, files_skip, files_under}

pub record Edit (before old new xs ys : List Entry) : Type 0 where
  pub after : List Entry
  pub was : xs ≡ before ++ (old ++ after)
  pub now : ys ≡ before ++ (new ++ after)

pub blocks_around : (a b c : List Entry) → blocks_of (a ++ (b ++ c)) ≡ blocks_of a + (blocks_of b + blocks_of c)
blocks_around a b c = simp blocks_append

pub count_around : (p : Entry → Bool) (a b c : List Entry) → count p (a ++ (b ++ c)) ≡ count p a + (count p b + count p c)
count_around p a b c = simp count-append

pub regroup : {X : Type 0} (a b c d : List X) → (a ++ (b ++ c)) ++ d ≡ a ++ (b ++ (c ++ d))
regroup a b c d = simp append_assoc

module _ {before old new xs ys : List Entry} (e : Edit before old new xs ys) where
  pub edit_blocks : blocks_of ys + blocks_of old ≡ blocks_of xs + blocks_of new
  edit_blocks =
      let w = ap blocks_of e.was ∙ blocks_around before old e.after in
      let n = ap blocks_of e.now ∙ blocks_around before new e.after in
      omega (arith, w, n)

  pub edit_count : (p : Entry → Bool) → count p ys + count p old ≡ count p xs + count p new
  edit_count p =
      let w = ap (count p) e.was ∙ count_around p before old e.after in
      let n = ap (count p) e.now ∙ count_around p before new e.after in
      omega (arith, w, n)

  -- what stands in front of the edit and what is replaced is among the list
  pub edit_parts : (p : Entry → Bool) → count p before + count p old ≤ count p xs
  edit_parts p = let w = ap (count p) e.was ∙ count_around p before old e.after in omega (arith, w)

  pub edit_standing : (p : Entry → Bool) (at : ℕ) → blocks_of old ≡ blocks_of new → count p old ≡ 0 → count p new ≡ 0
      → standing p at ys ≡ standing p at xs
  edit_standing p at b o n =
      ap (standing p at) e.now
      ∙ (standing_under p at before (new ++ e.after) (old ++ e.after)
      (λ at. standing_skip p at new e.after n
      ∙ (ap (λ b. standing p (at + b) e.after) (sym b) ∙ sym (standing_skip p at old e.after o)))
      ∙ sym (ap (standing p at) e.was))

  pub edit_files : (at : ℕ) → blocks_of old ≡ blocks_of new → count is_file old ≡ 0 → count is_file new ≡ 0
      → files_from at ys ≡ files_from at xs
  edit_files at b o n =
      ap (files_from at) e.now
      ∙ (files_under at before (new ++ e.after) (old ++ e.after)
      (λ at. files_skip at new e.after n
      ∙ (ap (λ b. files_from (at + b) e.after) (sym b) ∙ sym (files_skip at old e.after o)))
      ∙ sym (ap (files_from at) e.was))

  -- the edit of one segment is an edit of the flat list
  pub lifted : (ss : List Segment) (k : ℕ) (f : List Entry → List Entry) → k < length ss → place_entries ss k ≡ xs → f xs ≡ ys
      → Edit (flat (take k ss) ++ before) old new (flat ss) (flat (altered k f ss))
  unfolding flat place_entries altered
  lifted [] k f h p q = absurd (omega arith)
  lifted (s ∷ ss) zero f h p q =
      record {
        after = e.after ++ flat ss;
        was = ap (λ l. l ++ flat ss) (p ∙ e.was) ∙ regroup before old e.after (flat ss);
        now = ap (λ l. l ++ flat ss) (ap f p ∙ (q ∙ e.now)) ∙ regroup before new e.after (flat ss);
      }
  lifted (s ∷ ss) (suc k) f h p q =
      let r = lifted ss k f (omega arith) p q in
      let g : (m : List Entry) → s.entries ++ ((flat (take k ss) ++ before) ++ m) ≡ (s.entries ++ flat (take k ss) ++ before) ++ m
      = λ m. simp append_assoc in
      record {
        after = r.after;
        was = ap (λ l. s.entries ++ l) r.was ∙ g (old ++ r.after);
        now = ap (λ l. s.entries ++ l) r.now ∙ g (new ++ r.after);
      }

-- one entry changed for another
pub edit_one : {before xs ys : List Entry} {e : Entry} (f : Entry → Entry)
    → Edit before (e ∷ []) (f e ∷ []) xs ys → (p q : Entry → Bool) (at : ℕ)
    → p e ≡ true → q (f e) ≡ true → count p before ≡ 0 → count q before ≡ 0
    → standing q at ys ≡ option_map (put f) (standing p at xs)
edit_one {before} {xs} {ys} {e} f d p q at pe qe np nq =
    ap (standing q at) d.now
    ∙ (standing_here q at before (f e) d.after nq qe
    ∙ sym (ap (option_map (put f)) (ap (standing p at) d.was ∙ standing_here p at before e d.after np pe)))

-- entries of a segment replaced
pub spliced_edit : (i : ℕ) (e : Entry) (new es : List Entry) → drop i es ≡ e ∷ drop (suc i) es
    → Edit (take i es) (e ∷ []) new es (spliced i 1 new es)
unfolding spliced
spliced_edit i e new es h =
    record {
      after = drop (suc i) es;
      was = sym (take-append-drop i es) ∙ ap (λ l. take i es ++ l) h;
      now = rw add-one;
    }

pub spliced_edit_two : (i : ℕ) (e f : Entry) (new es : List Entry) → drop i es ≡ e ∷ drop (suc i) es
    → drop (suc i) es ≡ f ∷ drop (suc (suc i)) es
    → Edit (take i es) (e ∷ f ∷ []) new es (spliced i 2 new es)
unfolding spliced
spliced_edit_two i e f new es h k =
    let n : i + 2 ≡ suc (suc i) = omega arith in
    record {
      after = drop (suc (suc i)) es;
      was = sym (take-append-drop i es) ∙ ap (λ l. take i es ++ l) (h ∙ ap (λ l. e ∷ l) k);
      now = rw n;
    }
