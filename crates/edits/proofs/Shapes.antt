-- What holds of each entry goes on to hold: for the words and extra bytes of entries that are to be written.
use Rattle.std.proofs.Common.{ℕ, ◌≤◌, List, [], ◌∷◌, ◌++◌, arith}
use Rattle.std.specs.List.{AllByRecursion}
use Rattle.std.proofs.ByRecursion.{All-append}
use Rattle.volume.specs.declared.entry.Entry.{Entry}
use Rattle.edits.specs.Entries.{blocks_of}
use Rattle.edits.specs.Directories.{Directory, entries_of, Lawful}
use Rattle.edits.proofs.Counts.{blocks_cons}
use Rattle.edits.proofs.Edited.{Edit}

all_left : {X : Type 0} (P : X → Type 0) (xs ys : List X) → AllByRecursion P (xs ++ ys) → AllByRecursion P xs
all_left P [] ys h = tt
all_left P (x ∷ xs) ys h = (h.0, all_left P xs ys h.1)

all_right : {X : Type 0} (P : X → Type 0) (xs ys : List X) → AllByRecursion P (xs ++ ys) → AllByRecursion P ys
all_right P [] ys h = h
all_right P (x ∷ xs) ys h = all_right P xs ys h.1

pub edit_all : {before old new xs ys : List Entry} (P : Entry → Type 0) → Edit before old new xs ys
    → AllByRecursion P xs → AllByRecursion P new → AllByRecursion P ys
edit_all {before} {old} {new} {xs} {ys} P e h n =
    let w : AllByRecursion P (before ++ (old ++ e.after)) = rw e.was at h in
    rw e.now (All-append P before (new ++ e.after) (all_left P before (old ++ e.after) w)
    (All-append P new e.after n (all_right P old e.after (all_right P before (old ++ e.after) w))))

all_short : (n : ℕ) (es : List Entry) → blocks_of es ≤ n → AllByRecursion (λ e. e.length ≤ n) es
all_short n [] h = tt
all_short n (e ∷ es) h =
    (omega (arith, h, blocks_cons e es), all_short n es (omega (arith, h, blocks_cons e es)))

-- a lawful directory's lengths fit the level
pub lengths_fit : (k v : ℕ) (d : Directory) → Lawful k v d → AllByRecursion (λ e. e.length ≤ v) (entries_of d)
lengths_fit k v d l = all_short v (entries_of d) (omega (arith, l.filled))
