-- What an edit and a split change of the headers.
use Rattle.std.proofs.Common.{◌≡◌, ℕ, zero, suc, ◌+◌, List, [], ◌∷◌, take, drop, sym, refl, ap, ◌∙◌, arith}
use Rattle.std.proofs.lemmas.List.{take-append-drop}
use Rattle.volume.specs.declared.entry.Entry.{Entry}
use Rattle.edits.specs.Entries.{blocks_of}
use Rattle.edits.specs.Directories.{Segment, place_entries}
use Rattle.edits.specs.Edits.{altered, parted, emptied, spliced}
use Rattle.edits.specs.Laid.{next_number, laid_from, relaid, laid_apart, EditLays, SplitLays, EmptiedLays, SplicedLays, SplicedTwoLays}
use Rattle.edits.specs.Entries.{empty_of}
use Rattle.edits.proofs.Counts.{blocks_nil, blocks_cons, blocks_append}
use Rattle.edits.proofs.Edited.{edit_blocks, spliced_edit, spliced_edit_two}
use Rattle.edits.proofs.Emptied.{run, emptied_edit}

altered_next : (k : ℕ) (f : List Entry → List Entry) (ss : List Segment) → next_number (altered k f ss) ≡ next_number ss
unfolding altered
altered_next k f [] = refl
altered_next zero f (s ∷ ss) = refl
altered_next (suc k) f (s ∷ ss) = refl

pub edit_lays : EditLays
unfolding laid_from altered relaid place_entries
edit_lays at k f [] h = refl
edit_lays at zero f (s ∷ ss) h =
    ap (λ n. record { number = s.number; next = next_number ss; start = at; entries = f s.entries } ∷ laid_from (at + n) ss) h
edit_lays at (suc k) f (s ∷ ss) h =
    ap (λ n. record { number = s.number; next = n; start = at; entries = s.entries } ∷ laid_from (at + blocks_of s.entries) (altered k f ss)) (altered_next k f ss)
    ∙ ap (λ l. record { number = s.number; next = next_number ss; start = at; entries = s.entries } ∷ l) (edit_lays (at + blocks_of s.entries) k f ss h)

parted_next : (k stay number : ℕ) (ss : List Segment) → next_number (parted k stay number ss) ≡ next_number ss
unfolding parted
parted_next k stay number [] = refl
parted_next zero stay number (s ∷ ss) = refl
parted_next (suc k) stay number (s ∷ ss) = refl

pub split_lays : SplitLays
unfolding laid_from parted laid_apart
split_lays at k stay number [] = refl
split_lays at zero stay number (s ∷ ss) =
    let n : at + blocks_of (take stay s.entries) + blocks_of (drop stay s.entries) ≡ at + blocks_of s.entries
    = omega (arith, sym (blocks_append (take stay s.entries) (drop stay s.entries)) ∙ ap blocks_of (take-append-drop stay s.entries)) in
    ap (λ n. record { number = s.number; next = number; start = at; entries = take stay s.entries }
    ∷ record { number = number; next = next_number ss; start = at + blocks_of (take stay s.entries); entries = drop stay s.entries }
    ∷ laid_from n ss) n
split_lays at (suc k) stay number (s ∷ ss) =
    ap (λ n. record { number = s.number; next = n; start = at; entries = s.entries } ∷ laid_from (at + blocks_of s.entries) (parted k stay number ss)) (parted_next k stay number ss)
    ∙ ap (λ l. record { number = s.number; next = next_number ss; start = at; entries = s.entries } ∷ l) (split_lays (at + blocks_of s.entries) k stay number ss)

pub emptied_lays : EmptiedLays
emptied_lays at ss k i e h =
    let es = place_entries ss k in
    let r = run i e es h in
    edit_lays at k (emptied i) ss
    (omega (arith, edit_blocks (emptied_edit i e es h), blocks_cons (empty_of (blocks_of r)) [], blocks_nil))

pub spliced_lays : SplicedLays
spliced_lays at ss k i e new h b =
    edit_lays at k (spliced i 1 new) ss
    (omega (arith, b, edit_blocks (spliced_edit i e new (place_entries ss k) h), blocks_cons e [], blocks_nil))

pub spliced-two_lays : SplicedTwoLays
spliced-two_lays at ss k i e b new h g s =
    edit_lays at k (spliced i 2 new) ss
    (omega (arith, s, edit_blocks (spliced_edit_two i e b new (place_entries ss k) h g), blocks_cons e (b ∷ []), blocks_cons b [], blocks_nil))
