-- What a call on a level changes of its directory: the changed directory, and which segments are written.
use Rattle.std.specs.Prelude.{ℕ, Bool, true, false, cond, List, [], ◌∷◌, map, take, None, Ok, Err, Result, nat_lt}
use Rattle.codec.specs.declared.name.Name.{Name}
use Rattle.codec.specs.declared.name.UnlawfulName.{UnlawfulName}
use Rattle.codec.specs.Names.{name_of}
use Rattle.device.specs.Blocks.{Block}
use Rattle.volume.specs.declared.fault.FileFault.{FileFault}
use Rattle.volume.specs.declared.fault.FileFault.TheVariants as fault
use Rattle.segment.specs.Directories.{Directory}
use Rattle.edits.specs.Entries.{is_named, is_protected}
use Rattle.edits.specs.Asks.{Place, places}
use Rattle.edits.specs.Edits.{delete, rename, protect}
use Rattle.edits.specs.Laid.{laid}
use Rattle.edits.specs.Values.{value_of}
use Rattle.carry.specs.Writes.{at_places}
use Rattle.store.specs.Stores.{rewritten}
use Rattle.level.specs.Loads.{directory}
use Rattle.level.specs.Checks.{check_answer}

-- a changed directory, and the places in the chain of the segments that change
pub record Change : Type 0 where
  pub directory : Directory
  pub places : List ℕ

-- the blocks of a level once they are written
abbrev pub changed_blocks : List Block → Change → List Block
changed_blocks bs c = rewritten bs c.directory (at_places (laid c.directory) c.places)

-- what a call with such a plan answers, and the blocks that it leaves
abbrev pub plan_answer : Result Change FileFault → Result (Unit {0}) FileFault
plan_answer (Ok c) = Ok tt
plan_answer (Err e) = Err e

abbrev pub plan_blocks : List Block → Result Change FileFault → List Block
plan_blocks bs (Ok c) = changed_blocks bs c
plan_blocks bs (Err e) = bs

-- an edited directory, with the places that change
abbrev pub with_places : List ℕ → Result Directory FileFault → Result Change FileFault
with_places ks (Ok d) = Ok (record { directory = d; places = ks })
with_places ks (Err e) = Err e

-- the checks before the directory: the workspace, a name, the level
abbrev pub with_room : {X : Type 0} → ℕ → Result X FileFault → Result X FileFault
with_room n r = cond (nat_lt n 32768) (Err fault.WorkspaceTooSmall) r

abbrev pub with_name : {X : Type 0} → Result Name UnlawfulName → (Name → Result X FileFault) → Result X FileFault
with_name (Ok n) f = f n
with_name (Err e) f = Err fault.UnlawfulName

abbrev pub on_level : {X : Type 0} → List Block → Result ℕ FileFault → (Directory → Result X FileFault) → Result X FileFault
on_level bs (Ok s) f = f (value_of (directory bs s))
on_level bs (Err e) f = Err e

-- the place of a file's segment
abbrev pub file_places : Directory → Name → List ℕ
file_places d n = map (λ a. a.segment) (take 1 (places (is_named n) d.segments))

-- DELETE
unfoldable pub delete_change : Directory → Name → Result Change FileFault
delete_change d n = with_places (file_places d n) (delete d n)

unfoldable pub delete_plan : ℕ → List Block → List ℕ → Result Change FileFault
delete_plan n bs cs =
    with_room n (with_name (name_of cs) (λ name. on_level bs (check_answer n bs None) (λ d. delete_change d name)))

-- RENAME
unfoldable pub rename_change : Directory → Name → Name → Result Change FileFault
rename_change d old new = with_places (file_places d old) (rename d old new)

unfoldable pub rename_plan : ℕ → List Block → List ℕ → List ℕ → Result Change FileFault
rename_plan n bs old new =
    with_room n (with_name (name_of old) (λ o. with_name (name_of new) (λ w. on_level bs (check_answer n bs None) (λ d. rename_change d o w))))

-- PROTECT, and with false UNPROTECT: a file that is as it should be changes no segment
abbrev pub protect_at : Bool → List Place → List ℕ
protect_at on [] = []
protect_at true (a ∷ ps) = cond (is_protected a.entry) [] (a.segment ∷ [])
protect_at false (a ∷ ps) = cond (is_protected a.entry) (a.segment ∷ []) []

unfoldable pub protect_change : Bool → Directory → Name → Result Change FileFault
protect_change on d n = with_places (protect_at on (places (is_named n) d.segments)) (protect on d n)

unfoldable pub protect_plan : Bool → ℕ → List Block → List ℕ → Result Change FileFault
protect_plan on n bs cs =
    with_room n (with_name (name_of cs) (λ name. on_level bs (check_answer n bs None) (λ d. protect_change on d name)))
