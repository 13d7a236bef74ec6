-- Entries that take the place of others in a segment.
use Rattle.std.proofs.Common.{◌≡◌, ℕ, suc, ◌+◌, ◌<◌, ◌≤◌, List, [], ◌∷◌, length, drop, Option, subst, arith}
use Rattle.std.specs.List.{AllByRecursion}
use Rattle.device.specs.Blocks.{Block}
use Rattle.codec.specs.Words.{word_at}
use Rattle.volume.specs.declared.entry.Entry.{Entry}
use Rattle.volume.specs.Segments.{capacity_of}
use Rattle.segment.specs.Entries.{LawfulEntry}
use Rattle.segment.specs.Directories.{chain_of}
use Rattle.directory.specs.declared.pending.Pending.{Pending}
use Rattle.directory.specs.Walks.{blocks_of}
use Rattle.edits.specs.Entries.{empty_of}
use Rattle.edits.specs.Directories.{place_entries}
use Rattle.edits.specs.Edits.{spliced, emptied}
use Rattle.edits.specs.Laid.{laid}
use Rattle.edits.specs.Laws.{Stands}
use Rattle.edits.specs.Values.{value_of}
use Rattle.edits.proofs.Counts.{blocks_nil, blocks_cons}
use Rattle.edits.proofs.Edited.{edit_blocks, spliced_edit}
use Rattle.edits.proofs.Emptied.{run, run_length, emptied_edit}
use Rattle.edits.proofs.Kept.{edit_length}
use Rattle.edits.proofs.Chained.{roomy_at}
use Rattle.edits.proofs.Places.{stands_inside}
use Rattle.carry.specs.Writes.{Suits}
use Rattle.carry.proofs.Altered.{here}
use Rattle.slots.proofs.Lawful.{lawful_slots, emptied-lawful, spliced-lawful}
use Rattle.changes.proofs.Imaged.{decoded_there, readable_there}
use Rattle.changes.proofs.Clean.{Clean, clean_map, clean_values, clean_spliced, clean_emptied}
use Rattle.calls.specs.Loaded.{Loaded}
use Rattle.calls.proofs.Loading.{carries, lawful}

clean_there : (dir : List ℕ) (k : ℕ) → AllByRecursion Clean (place_entries (value_of dir).segments k)
unfolding value_of
clean_there dir k = clean_values (word_at dir 6) dir (chain_of dir) k

module _ (bs : List Block) (o : Option Pending) (dir : List ℕ) (l : Loaded bs o dir) (k i : ℕ) (e : Entry) (s : Stands (value_of dir).segments k i e) where
  abbrev es : List Entry
  es = place_entries (value_of dir).segments k

  abbrev x : ℕ
  x = (value_of dir).extra

  pub inside : k < length (value_of dir).segments
  inside = stands_inside (value_of dir).segments k i e s

  small : word_at dir 6 ≤ 64
  small = omega (arith, (carries bs o dir l).extra, (lawful bs o dir l).shaped.small)

  pub lawful_there : AllByRecursion (LawfulEntry (value_of dir).extra) (place_entries (value_of dir).segments k)
  lawful_there =
      let c = carries bs o dir l in
      subst (λ (y : ℕ). AllByRecursion (LawfulEntry y) (place_entries (value_of dir).segments k)) c.extra
      (subst (AllByRecursion (LawfulEntry (word_at dir 6))) (decoded_there dir (value_of dir) c k inside)
      (lawful_slots (word_at dir 6) small dir (here k (laid (value_of dir))).number (readable_there dir (value_of dir) c k inside)))

  pub room : length (place_entries (value_of dir).segments k) ≤ capacity_of (value_of dir).extra
  room = roomy_at (capacity_of x) k (value_of dir).segments (lawful bs o dir l).room

  pub suits_emptied : Suits (value_of dir).extra (place_entries (value_of dir).segments k) (emptied i (place_entries (value_of dir).segments k))
  suits_emptied =
      let c = emptied_edit i e es s in
      record {
        blocks = omega (arith, edit_blocks c, blocks_cons (empty_of (blocks_of (run i e es s))) [], blocks_nil);
        few = omega (arith, edit_length c, run_length i e es s, room);
        lawful = emptied-lawful x (lawful bs o dir l).shaped.small i es lawful_there;
        clean = clean_map (emptied i es) (clean_emptied i es (clean_there dir k));
      }

  -- one entry by others of as many blocks
  pub suits_spliced : (new : List Entry) → blocks_of new ≡ e.length → length es + length new ≤ 1 + capacity_of (value_of dir).extra
      → AllByRecursion (LawfulEntry (value_of dir).extra) new → AllByRecursion Clean new
      → Suits (value_of dir).extra (place_entries (value_of dir).segments k) (spliced i 1 new (place_entries (value_of dir).segments k))
  suits_spliced new b n w q =
      let c = spliced_edit i e new es s in
      record {
        blocks = omega (arith, edit_blocks c, b, blocks_cons e [], blocks_nil);
        few = omega (arith, edit_length c, n);
        lawful = spliced-lawful x i 1 new es w lawful_there;
        clean = clean_map (spliced i 1 new es) (clean_spliced i 1 new es q (clean_there dir k));
      }

  -- the entry itself
  pub lawful_entry : LawfulEntry (value_of dir).extra e
  lawful_entry = go (Rattle.std.proofs.ByRecursion.All-drop (LawfulEntry x) i es lawful_there) s
    where
      go : {ys : List Entry} → AllByRecursion (LawfulEntry (value_of dir).extra) ys → ys ≡ e ∷ drop (suc i) (place_entries (value_of dir).segments k) → LawfulEntry (value_of dir).extra e
      go {ys} a p = (subst (AllByRecursion (LawfulEntry (value_of dir).extra)) p a).0
