-- DELETE, RENAME, PROTECT and UNPROTECT, by what the program finds.
use Rattle.std.proofs.Common.{◌≡◌, ℕ, ◌+◌, ◌*◌, ◌<◌, ◌≤◌, true, false, List, [], ◌∷◌, map, length, get_or, take, Ok, Err, Option, Result, sym, ap, ◌∙◌, subst, arith}
use Rattle.codec.specs.declared.name.Name.{Name}
use Rattle.device.specs.Blocks.{Block, Whole}
use Rattle.device.specs.Stacks.{Stack, shown, Became}
use Rattle.device.proofs.Steps.{became_none}
use Rattle.volume.specs.declared.fault.FileFault.{FileFault}
use Rattle.volume.specs.declared.fault.FileFault.TheVariants as fault
use Rattle.volume.specs.Transfers.{overwritten, halves, AllGood}
use Rattle.segment.specs.Chains.{segment_at}
use Rattle.segment.specs.Directories.{chain_of}
use Rattle.directory.specs.declared.pending.Pending.{Pending}
use Rattle.edits.specs.Entries.{is_named}
use Rattle.edits.specs.Asks.{Place, places}
use Rattle.edits.specs.Edits.{altered, emptied, holding, delete}
use Rattle.edits.specs.Laws.{Stands}
use Rattle.edits.specs.Values.{value_of}
use Rattle.edits.proofs.Told.{genuine, delete-none, delete-guarded, delete_done}
use Rattle.carry.specs.Laws.{outputs}
use Rattle.carry.proofs.Altered.{here}
use Rattle.changes.specs.Segments.{EntryIn, with_entries}
use Rattle.changes.proofs.Imaged.{entry_in}
use Rattle.places.specs.declared.place.FilePlace.{FilePlace}
use Rattle.calls.specs.Loaded.{Loaded}
use Rattle.calls.specs.Plans.{Change, changed_blocks, plan_answer, plan_blocks, with_places, file_places, delete_change}
use Rattle.calls.proofs.Loading.{carries, lawful, small_level, few, long}
use Rattle.calls.proofs.Storing.{number, in_range, good_there, stored_one}
use Rattle.calls.proofs.Finding.{Found}
use Rattle.calls.proofs.Suiting.{inside, suits_emptied}

-- a plan that refuses leaves the level as it was
pub plan_refused : (s : Stack) (p : Result Change FileFault) (e : FileFault) → Whole s.bottom → p ≡ Err e
    → (Err e ≡ plan_answer p) × Became s (plan_blocks (shown s) p) s
plan_refused s p e w q =
    (ap plan_answer (sym q), subst (λ (z : Result Change FileFault). Became s (plan_blocks (shown s) z) s) (sym q) (became_none s w))

-- one that is carried out
pub plan_done : (s k : Stack) (p : Result Change FileFault) (c : Change) (bs : List Block) → p ≡ Ok c → Became s bs k → bs ≡ changed_blocks (shown s) c
    → (Ok tt ≡ plan_answer p) × Became s (plan_blocks (shown s) p) k
plan_done s k p c bs q b e = (
  ap plan_answer (sym q),
  subst (λ (z : Result Change FileFault). Became s (plan_blocks (shown s) z) k) (sym q) (subst (λ (z : List Block). Became s z k) e b),
)

module _ (bs : List Block) (o : Option Pending) (dir : List ℕ) (l : Loaded bs o dir) (n : Name) (f : FilePlace) (w : Found dir n f) where
  abbrev a : Place
  a = w.place

  pub stands : Stands (value_of dir).segments w.place.segment w.place.index w.place.entry
  stands = (genuine (level_of bs) (outputs o) (value_of dir) n (lawful bs o dir l) w.place w.others w.are).0
    where
      level_of : List Block → ℕ
      level_of z = Rattle.volume.specs.Levels.level_size z

  pub chain_place : f.entry.segment ≡ get_or (chain_of dir) w.place.segment 0
  chain_place = ap (λ (z : FilePlace). z.entry.segment) w.is

  index_is : f.entry.index ≡ w.place.index
  index_is = ap (λ (z : FilePlace). z.entry.index) w.is

  pub there : w.place.segment < length (value_of dir).segments
  there = inside bs o dir l a.segment a.index a.entry stands

  -- the entry is there
  pub entry_there : EntryIn dir f.entry.segment f.entry.index
  entry_there =
      subst (λ (z : ℕ). EntryIn dir z f.entry.index) (sym (number bs o dir l a.segment there f.entry.segment chain_place))
      (subst (λ (z : ℕ). EntryIn dir (here a.segment (Rattle.edits.specs.Laid.laid (value_of dir))).number z) (sym index_is)
      (entry_in dir (value_of dir) (outputs o) _ (carries bs o dir l) (lawful bs o dir l) (small_level bs o dir l) a.segment a.index a.entry stands))

  -- its segment can be stored
  pub segment_range : (after : List ℕ) → length after ≡ length dir → (1 ≤ f.entry.segment) × (f.entry.segment ≤ 31) × (1024 * f.entry.segment ≤ length after)
  segment_range after e =
      let r = in_range bs o dir l a.segment there f.entry.segment chain_place in
      (r.0, omega (arith, r.1, few bs o dir l), omega (arith, r.1, e, long bs o dir l))

  pub segment_good : AllGood bs (4 + 2 * f.entry.segment) (6 + 2 * f.entry.segment)
  segment_good = good_there bs o dir l a.segment there f.entry.segment chain_place

  -- DELETE
  pub delete-refused : f.protected ≡ true → delete_change (value_of dir) n ≡ Err fault.Protected
  unfolding delete_change
  delete-refused p =
      ap (with_places (file_places (value_of dir) n))
      (delete-guarded _ _ (value_of dir) n (lawful bs o dir l) a w.others w.are (sym (ap (λ (z : FilePlace). z.protected) w.is) ∙ p))

  pub deleted : f.protected ≡ false
      → delete_change (value_of dir) n
      ≡ Ok (record { directory = holding (value_of dir) (altered w.place.segment (emptied w.place.index) (value_of dir).segments); places = w.place.segment ∷ [] })
  unfolding delete_change
  deleted p =
      ap (λ (ps : List Place). with_places (map (λ z. z.segment) (take 1 ps)) (delete (value_of dir) n)) w.are
      ∙ ap (with_places (a.segment ∷ []))
      (delete_done _ _ (value_of dir) n (lawful bs o dir l) a w.others w.are (sym (ap (λ (z : FilePlace). z.protected) w.is) ∙ p))

  pub deleted_blocks : (after : List ℕ) → after ≡ with_entries dir f.entry.segment (emptied f.entry.index)
      → overwritten bs (4 + 2 * f.entry.segment) (halves (segment_at after f.entry.segment))
      ≡ changed_blocks bs (record { directory = holding (value_of dir) (altered w.place.segment (emptied w.place.index) (value_of dir).segments); places = w.place.segment ∷ [] })
  deleted_blocks after p =
      stored_one bs o dir l a.segment there (emptied a.index) (suits_emptied bs o dir l a.segment a.index a.entry stands)
      f.entry.segment after chain_place (p ∙ ap (λ (z : ℕ). with_entries dir f.entry.segment (emptied z)) index_is)

-- no such file
pub delete_missing : (dir : List ℕ) (n : Name) → places (is_named n) (value_of dir).segments ≡ [] → delete_change (value_of dir) n ≡ Err fault.NoSuchFile
unfolding delete_change
delete_missing dir n z = ap (with_places (file_places (value_of dir) n)) (delete-none (value_of dir) n z)
