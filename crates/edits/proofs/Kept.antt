-- What every edit of one segment keeps, said once.
use Rattle.std.proofs.Common.{◌≡◌, ℕ, ◌+◌, ◌<◌, ◌≤◌, Bool, false, cond, ◌&&◌, leb, List, [], ◌∷◌, ◌++◌, length, take, sym, refl, ap, ◌∙◌, arith}
use Rattle.std.proofs.lemmas.List.{length-append}
use Rattle.codec.specs.declared.name.Name.{Name}
use Rattle.volume.specs.declared.entry.Entry.{Entry}
use Rattle.edits.specs.Entries.{is_file, is_tentative, is_named, is_misnamed, is_empty, empty_of, blocks_of, count, standing}
use Rattle.edits.specs.Directories.{Segment, Directory, capacity_of, flat, place_entries, entries_of, first_block, entry_named, files, Lawful}
use Rattle.edits.specs.Edits.{altered, holding, emptied, run_start}
use Rattle.edits.specs.Laws.{Stands}
use Rattle.edits.proofs.Counts.{one, blocks_nil, blocks_cons, count-nil, count_no}
use Rattle.edits.proofs.Edited.{Edit, edit_blocks, edit_count, edit_standing, edit_files, lifted}
use Rattle.edits.proofs.Places.{stands_inside}
use Rattle.edits.proofs.Emptied.{Shuns, run, emptied_edit, run_length, run-count}
use Rattle.edits.proofs.Chained.{SameChain, Roomy, altered_chain, altered_roomy, roomy_at}
use Rattle.edits.proofs.Named.{tentative_shuns, named_shuns, file_shuns}

-- an edit of one segment
pub record Edited (before old new : List Entry) (ss ss' : List Segment) : Type 0 where
  pub chain : SameChain ss ss'
  pub roomy : (c : ℕ) → length new ≤ length old → Roomy c ss → Roomy c ss'
  pub edit : Edit before old new (flat ss) (flat ss')

pub edit_length : {before old new xs ys : List Entry} → Edit before old new xs ys
    → length ys + length old ≡ length xs + length new
edit_length {before} {old} {new} {xs} {ys} e =
    let w = ap length e.was ∙ (length-append before (old ++ e.after) ∙ ap (λ n. length before + n) (length-append old e.after)) in
    let n = ap length e.now ∙ (length-append before (new ++ e.after) ∙ ap (λ n. length before + n) (length-append new e.after)) in
    omega (arith, w, n)

pub altered-edited : {before old new : List Entry} (ss : List Segment) (k : ℕ) (f : List Entry → List Entry) → k < length ss
    → Edit before old new (place_entries ss k) (f (place_entries ss k))
    → Edited (flat (take k ss) ++ before) old new ss (altered k f ss)
altered-edited {before} {old} {new} ss k f h e =
    record {
      chain = altered_chain f k ss;
      roomy = λ c l r. altered_roomy f c k ss (omega (arith, edit_length e, roomy_at c k ss r)) r;
      edit = lifted e ss k f h refl refl;
    }

module _ {before old new : List Entry} (d : Directory) {ss : List Segment} (e : Edited before old new d.segments ss) where
  -- a file of a name that stands on neither side of the edit is where it was
  pub edited-file : (m : Name) → blocks_of old ≡ blocks_of new → count (is_named m) old ≡ 0 → count (is_named m) new ≡ 0
      → entry_named (holding d ss) m ≡ entry_named d m
  edited-file m b o n = edit_standing e.edit (is_named m) (first_block d) b o n

  -- and where no file stands on either side, the list of files is as it was
  pub edited_lists : blocks_of old ≡ blocks_of new → count is_file old ≡ 0 → count is_file new ≡ 0 → files (holding d ss) ≡ files d
  edited_lists b o n = edit_files e.edit (first_block d) b o n

  pub edited-lawful : (k k' v : ℕ) → Lawful k v d → Roomy (capacity_of d.extra) ss → blocks_of old ≡ blocks_of new
      → k' + count is_tentative old ≡ k + count is_tentative new → count is_misnamed new ≡ 0
      → ((n : Name) → count (is_named n) (flat ss) ≤ 1) → Lawful k' v (holding d ss)
  edited-lawful k k' v l r b t w a =
      let s = l.shaped in
      record {
        shaped =
            record {
              some_segments = s.some_segments;
              few_segments = s.few_segments;
              fits = s.fits;
              in_use = omega (arith, e.chain.long, s.in_use);
              begins = e.chain.begun s.begins;
              each_once = λ j. e.chain.met j ∙ (s.each_once j ∙ ap (λ n. cond (leb 1 j && leb j n) 1 0) (sym e.chain.long));
              even = s.even;
              small = s.small;
            };
        room = r;
        settled = omega (arith, edit_count e.edit is_tentative, l.settled);
        filled = omega (arith, edit_blocks e.edit, l.filled);
        named = omega (arith, edit_count e.edit is_misnamed, l.named);
        apart = a;
      }

  -- and where no name comes in, no two files get one name
  pub edited_apart : (k v : ℕ) → Lawful k v d → (n : Name) → count (is_named n) new ≤ count (is_named n) old
      → count (is_named n) (flat ss) ≤ 1
  edited_apart k v l n h = omega (arith, edit_count e.edit (is_named n), l.apart n)

-- an entry has become empty
pub record Emptying (e : Entry) (ss ss' : List Segment) : Type 0 where
  pub before : List Entry
  pub old : List Entry
  pub edited : Edited before old (empty_of (blocks_of old) ∷ []) ss ss'
  pub some : 1 ≤ length old
  pub holds : (q : Entry → Bool) → Shuns q is_empty → count q old ≡ one (q e)

pub emptied_at : (ss : List Segment) (k i : ℕ) (e : Entry) → Stands ss k i e → Emptying e ss (altered k (emptied i) ss)
emptied_at ss k i e h =
    let es = place_entries ss k in
    record {
      before = flat (take k ss) ++ take (run_start es i) es;
      old = run i e es h;
      edited = altered-edited ss k (emptied i) (stands_inside ss k i e h) (emptied_edit i e es h);
      some = run_length i e es h;
      holds = run-count i e es h;
    }

module _ (d : Directory) {e : Entry} {ss : List Segment} (g : Emptying e d.segments ss) where
  same_blocks : blocks_of g.old ≡ blocks_of (empty_of (blocks_of g.old) ∷ [])
  same_blocks = omega (arith, blocks_cons (empty_of (blocks_of g.old)) [], blocks_nil)

  none : (q : Entry → Bool) → q (empty_of (blocks_of g.old)) ≡ false → count q (empty_of (blocks_of g.old) ∷ []) ≡ 0
  none q h = count_no q (empty_of (blocks_of g.old)) [] h ∙ count-nil q

  pub emptying_file : (m : Name) → is_named m e ≡ false → entry_named (holding d ss) m ≡ entry_named d m
  emptying_file m h =
      edited-file d g.edited m same_blocks (g.holds (is_named m) (named_shuns m) ∙ ap one h) (none (is_named m) refl)

  pub emptying_lists : is_file e ≡ false → files (holding d ss) ≡ files d
  emptying_lists h = edited_lists d g.edited same_blocks (g.holds is_file file_shuns ∙ ap one h) (none is_file refl)

  pub emptying_standing : (q : Entry → Bool) (at : ℕ) → Shuns q is_empty → q e ≡ false → q (empty_of (blocks_of g.old)) ≡ false
      → standing q at (flat ss) ≡ standing q at (entries_of d)
  emptying_standing q at s h n = edit_standing g.edited.edit q at same_blocks (g.holds q s ∙ ap one h) (none q n)

  pub emptying_count : (m : Name) → count (is_named m) (flat ss) + one (is_named m e) ≡ count (is_named m) (entries_of d)
  emptying_count m =
      omega (arith, edit_count g.edited.edit (is_named m), g.holds (is_named m) (named_shuns m), none (is_named m) refl)

  pub emptying_lawful : (k k' v : ℕ) → Lawful k v d → k' + one (is_tentative e) ≡ k → Lawful k' v (holding d ss)
  emptying_lawful k k' v l h =
      edited-lawful d g.edited k k' v l (g.edited.roomy (capacity_of d.extra) g.some l.room) same_blocks
      (omega (arith, h, g.holds is_tentative tentative_shuns, none is_tentative refl))
      (none is_misnamed refl)
      (λ n. edited_apart d g.edited k v l n (omega (arith, none (is_named n) refl)))
