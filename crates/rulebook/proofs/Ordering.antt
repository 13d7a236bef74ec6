-- The entries of a chain, one by one.
use Rattle.std.proofs.Common.{◌≡◌, ℕ, zero, suc, ◌+◌, ◌<◌, List, [], ◌∷◌, ◌++◌, length, get_or, take, drop, sym, refl, ap, ◌∙◌, subst, add-zero, add_assoc, arith}
use Rattle.std.proofs.lemmas.List.{get_or_default}
use Rattle.codec.specs.declared.name.Name.{Name}
use Rattle.volume.specs.declared.entry.Entry.{Entry}
use Rattle.volume.proofs.Encoding.{no_entry}
use Rattle.segment.specs.Entries.{status_of}
use Rattle.segment.specs.Segments.{entry_start}
use Rattle.segment.specs.Directories.{entries_at, flat, segments_of}
use Rattle.segment.proofs.Fields.{word_past, word_here, Fields}
use Rattle.segment.proofs.Walks.{segment_few, fields_at}
use Rattle.directory.specs.declared.placed.Placed.{Placed}
use Rattle.directory.specs.Walks.{blocks_of, placed_in, left_from}
use Rattle.rulebook.specs.Order.{HasWords, EntriesRead, IsPlaced, EntriesInOrder}
use Rattle.rulebook.proofs.Listing.{read_stand}

-- ---- the words of an entry

words_from : (bs : List ℕ) (at : ℕ) (e : Entry) → Fields (drop at bs) e → HasWords bs at e
words_from bs at e f =
    record {
      status = ap status_of (sym (word_here bs at)) ∙ f.status;
      first = sym (word_past bs at 2) ∙ ap (λ (n : Name). n.first) f.name;
      second = sym (word_past bs at 4) ∙ ap (λ (n : Name). n.second) f.name;
      kind = sym (word_past bs at 6) ∙ ap (λ (n : Name). n.kind) f.name;
      length = sym (word_past bs at 8) ∙ f.length;
      date = sym (word_past bs at 12) ∙ f.date;
    }

pub entries_read : EntriesRead
entries_read x bs es h =
    record {
      few = segment_few x bs es h;
      stand = read_stand x bs es h;
      each = λ i d l.
          subst (HasWords bs (entry_start x i)) (get_or_default es i no_entry d l)
          (words_from bs (entry_start x i) (get_or es i no_entry) (fields_at x bs es h i l));
    }

-- ---- their order

-- the same, entry by entry
Line : ℕ → List Placed → List Entry → Type 0
Line at [] [] = Unit {0}
Line at [] (e ∷ es) = ⊥
Line at (p ∷ ps) [] = ⊥
Line at (p ∷ ps) (e ∷ es) = IsPlaced p e at × Line (at + e.length) ps es

line_placed : (k i at : ℕ) (es : List Entry) → Line at (placed_in k i at es) es
unfolding Line placed_in
line_placed k i at [] = tt
line_placed k i at (e ∷ es) =
    (record { status = refl; name = refl; length = refl; date = refl; start = refl }, line_placed k (i + 1) (at + e.length) es)

line_append : (at : ℕ) (ps qs : List Placed) (es fs : List Entry) → Line at ps es → Line (at + blocks_of es) qs fs → Line at (ps ++ qs) (es ++ fs)
unfolding Line blocks_of
line_append at [] qs [] fs l m = subst (λ (n : ℕ). Line n qs fs) (add-zero at) m
line_append at [] qs (e ∷ es) fs l m = absurd l
line_append at (p ∷ ps) qs [] fs l m = absurd l
line_append at (p ∷ ps) qs (e ∷ es) fs l m =
    (l.0, line_append (at + e.length) ps qs es fs l.1 (subst (λ (n : ℕ). Line n qs fs) (sym (add_assoc at e.length (blocks_of es))) m))

line_chain : (x : ℕ) (dir : List ℕ) (at : ℕ) (ks : List ℕ) → Line at (left_from x dir 0 at ks) (flat (segments_of x dir ks))
unfolding Line left_from flat segments_of
line_chain x dir at [] = tt
line_chain x dir at (k ∷ ks) =
    let es : List Entry = entries_at x dir k in
    line_append at (placed_in k 0 at es) (left_from x dir 0 (at + blocks_of es) ks) es (flat (segments_of x dir ks)) (line_placed k 0 at es)
    (line_chain x dir (at + blocks_of es) ks)

line_long : (at : ℕ) (ps : List Placed) (es : List Entry) → Line at ps es → length ps ≡ length es
unfolding Line
line_long at [] [] l = refl
line_long at [] (e ∷ es) l = absurd l
line_long at (p ∷ ps) [] l = absurd l
line_long at (p ∷ ps) (e ∷ es) l = ap suc (line_long (at + e.length) ps es l.1)

line_each : (at : ℕ) (ps : List Placed) (es : List Entry) → Line at ps es
    → (i : ℕ) (d : Placed) (c : Entry) → i < length es → IsPlaced (get_or ps i d) (get_or es i c) (at + blocks_of (take i es))
unfolding Line blocks_of
line_each at [] [] l i d c h = absurd (omega arith)
line_each at [] (e ∷ es) l i d c h = absurd l
line_each at (p ∷ ps) [] l i d c h = absurd l
line_each at (p ∷ ps) (e ∷ es) l zero d c h = subst (IsPlaced p e) (sym (add-zero at)) l.0
line_each at (p ∷ ps) (e ∷ es) l (suc i) d c h =
    subst (IsPlaced (get_or ps i d) (get_or es i c)) (add_assoc at e.length (blocks_of (take i es)))
    (line_each (at + e.length) ps es l.1 i d c (omega arith))

pub entries_in_order : EntriesInOrder
entries_in_order x dir ks at =
    let l = line_chain x dir at ks in record { many = line_long at _ _ l; each = line_each at _ _ l }
