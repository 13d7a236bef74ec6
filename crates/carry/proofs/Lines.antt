-- The entries of a chain in their places, beside those of the value: what is asked of the ones is asked of the others.
use Rattle.std.proofs.Common.{◌≡◌, ℕ, ◌+◌, ◌≤◌, Bool, true, false, cond, not, ◌&&◌, ◌||◌, List, [], ◌∷◌, ◌++◌, map, Some, sym, refl, ap, ◌∙◌, arith}
use Rattle.std.proofs.lemmas.Bool.{cond_both, and_parts, and_from, false≢true}
use Rattle.codec.specs.declared.name.Name.{Name}
use Rattle.volume.specs.declared.entry.Status.{Status}
use Rattle.volume.specs.declared.entry.Status.TheVariants.{Tentative, Empty, Permanent, Protected}
use Rattle.volume.specs.declared.entry.Entry.{Entry}
use Rattle.segment.specs.Directories.{entries_at, flat}
use Rattle.directory.specs.declared.placed.Placed.{Placed}
use Rattle.directory.specs.Walks.{placed, blocks_of, placed_in, left_from}
use Rattle.directory.specs.Finds.{file_status, tentative_status, tentatives, first_named, well_named, all_well_named, none, alone, all_apart}
use Rattle.directory.specs.Finds as find
use Rattle.edits.specs.Entries.{empty_of, empty_status, is_file, is_empty, is_tentative, is_named, is_misnamed, same_name, lawful_words, count}
use Rattle.edits.specs.Values.{cleaned, values_of}
use Rattle.edits.proofs.Counts.{one, blocks_cons, count-nil, count-cons, count_yes, count_no, count_head}
use Rattle.edits.proofs.Named.{name_same, named_file, named_name}

-- the same status and length, and of a file the same name
pub record Like (p : Placed) (e : Entry) : Type 0 where
  pub status : p.status ≡ e.status
  pub length : p.length ≡ e.length
  pub name : is_file e ≡ true → p.name ≡ e.name

unfoldable pub Lines : List Placed → List Entry → Type 0
Lines [] [] = Unit {0}
Lines [] (e ∷ es) = ⊥
Lines (p ∷ ps) [] = ⊥
Lines (p ∷ ps) (e ∷ es) = Like p e × Lines ps es

is_empty_status : (s : Status) → empty_status s ≡ true → s ≡ Empty
is_empty_status Tentative h = absurd (false≢true h)
is_empty_status Empty h = refl
is_empty_status Permanent h = absurd (false≢true h)
is_empty_status Protected h = absurd (false≢true h)

pub like_cleaned : (k i at : ℕ) (e : Entry) → Like (placed k i at e) (cleaned e)
like_cleaned k i at e =
    cond_both (is_empty e) (empty_of e.length) e (Like (placed k i at e))
    (λ y. record { status = is_empty_status e.status y; length = refl; name = λ h. absurd (false≢true h) })
    (λ _. record { status = refl; length = refl; name = λ _. refl })

pub length-cleaned : (e : Entry) → (cleaned e).length ≡ e.length
length-cleaned e = sym (like_cleaned 0 0 0 e).length

pub blocks_cleaned : (es : List Entry) → blocks_of (map cleaned es) ≡ blocks_of es
blocks_cleaned [] = refl
blocks_cleaned (e ∷ es) =
    blocks_cons (cleaned e) (map cleaned es) ∙ (ap (λ n. n + blocks_of (map cleaned es)) (length-cleaned e)
    ∙ (ap (λ n. e.length + n) (blocks_cleaned es) ∙ sym (blocks_cons e es)))

lines_placed : (k i at : ℕ) (es : List Entry) → Lines (placed_in k i at es) (map cleaned es)
unfolding Lines placed_in
lines_placed k i at [] = tt
lines_placed k i at (e ∷ es) = (like_cleaned k i at e, lines_placed k (i + 1) (at + e.length) es)

lines_append : (ps qs : List Placed) (es fs : List Entry) → Lines ps es → Lines qs fs → Lines (ps ++ qs) (es ++ fs)
unfolding Lines
lines_append [] qs [] fs l m = m
lines_append [] qs (e ∷ es) fs l m = absurd l
lines_append (p ∷ ps) qs [] fs l m = absurd l
lines_append (p ∷ ps) qs (e ∷ es) fs l m = (l.0, lines_append ps qs es fs l.1 m)

pub lines_chain : (x : ℕ) (dir : List ℕ) (at : ℕ) (ks : List ℕ) → Lines (left_from x dir 0 at ks) (flat (values_of x dir ks))
unfolding Lines left_from flat values_of
lines_chain x dir at [] = tt
lines_chain x dir at (k ∷ ks) =
    let es : List Entry = entries_at x dir k in
    lines_append (placed_in k 0 at es) (left_from x dir 0 (at + blocks_of es) ks) (map cleaned es) (flat (values_of x dir ks))
    (lines_placed k 0 at es) (lines_chain x dir (at + blocks_of es) ks)

-- rule 6
pub tentatives_are : (ps : List Placed) (es : List Entry) → Lines ps es → tentatives ps ≡ count is_tentative es
unfolding Lines tentatives
tentatives_are [] [] l = sym (count-nil is_tentative)
tentatives_are [] (e ∷ es) l = absurd l
tentatives_are (p ∷ ps) [] l = absurd l
tentatives_are (p ∷ ps) (e ∷ es) l =
    ap (λ s. one (tentative_status s) + tentatives ps) l.0.status
    ∙ (ap (λ n. one (is_tentative e) + n) (tentatives_are ps es l.1) ∙ sym (count-cons is_tentative e es))

-- rule 8
well_is : (p : Placed) (e : Entry) → Like p e → well_named p ≡ not (is_misnamed e)
unfolding lawful_words
well_is p e l = ap (λ s. not (file_status s) || lawful_words p.name) l.status ∙ go (is_file e) refl
  where
    both : (a w : Bool) → (not a || w) ≡ not (a && not w)
    both true true = refl
    both true false = refl
    both false w = refl

    go : (b : Bool) → is_file e ≡ b → (not (is_file e) || lawful_words p.name) ≡ not (is_misnamed e)
    go true f = ap (λ n. not (is_file e) || lawful_words n) (l.name f) ∙ both (is_file e) (lawful_words e.name)
    go false f = ap (λ b. not b || lawful_words p.name) f ∙ sym (ap (λ b. not (b && not (lawful_words e.name))) f)

not-true : (b : Bool) → not b ≡ true → b ≡ false
not-true true h = absurd (false≢true h)
not-true false h = refl

pub well_to : (ps : List Placed) (es : List Entry) → Lines ps es → all_well_named ps ≡ true → count is_misnamed es ≡ 0
unfolding Lines all_well_named
well_to [] [] l h = count-nil is_misnamed
well_to [] (e ∷ es) l h = absurd l
well_to (p ∷ ps) [] l h = absurd l
well_to (p ∷ ps) (e ∷ es) l h =
    let t = and_parts (well_named p) (all_well_named ps) h in
    count_no is_misnamed e es (not-true (is_misnamed e) (sym (well_is p e l.0) ∙ t.0)) ∙ well_to ps es l.1 t.1

pub well_from : (ps : List Placed) (es : List Entry) → Lines ps es → count is_misnamed es ≡ 0 → all_well_named ps ≡ true
unfolding Lines all_well_named
well_from [] [] l h = refl
well_from [] (e ∷ es) l h = absurd l
well_from (p ∷ ps) [] l h = absurd l
well_from (p ∷ ps) (e ∷ es) l h =
    let no = count_head is_misnamed e es h in
    and_from (well_named p) (all_well_named ps) (well_is p e l.0 ∙ ap not no)
    (well_from ps es l.1 (sym (count_no is_misnamed e es no) ∙ h))

-- rule 9
named_is : (n : Name) (p : Placed) (e : Entry) → Like p e → find.is_named n p ≡ is_named n e
unfolding same_name
named_is n p e l =
    ap (λ s. file_status s && find.same_name n p.name) l.status ∙ go (is_file e) refl
  where
    go : (b : Bool) → is_file e ≡ b → (is_file e && find.same_name n p.name) ≡ (is_file e && find.same_name n e.name)
    go true f = ap (λ m. is_file e && find.same_name n m) (l.name f)
    go false f = ap (λ b. b && find.same_name n p.name) f ∙ sym (ap (λ b. b && find.same_name n e.name) f)

none_to : (n : Name) (ps : List Placed) (es : List Entry) → Lines ps es → none (first_named n ps) ≡ true → count (is_named n) es ≡ 0
unfolding Lines first_named
none_to n [] [] l h = count-nil (is_named n)
none_to n [] (e ∷ es) l h = absurd l
none_to n (p ∷ ps) [] l h = absurd l
none_to n (p ∷ ps) (e ∷ es) l h = go (find.is_named n p) refl h (none_to n ps es l.1)
  where
    go : (b : Bool) → find.is_named n p ≡ b → none (cond b (Some p) (first_named n ps)) ≡ true
        → (none (first_named n ps) ≡ true → count (is_named n) es ≡ 0) → count (is_named n) (e ∷ es) ≡ 0
    go true f q r = absurd (false≢true q)
    go false f q r = count_no (is_named n) e es (sym (named_is n p e l.0) ∙ f) ∙ r q

none_from : (n : Name) (ps : List Placed) (es : List Entry) → Lines ps es → count (is_named n) es ≡ 0 → none (first_named n ps) ≡ true
unfolding Lines first_named
none_from n [] [] l h = refl
none_from n [] (e ∷ es) l h = absurd l
none_from n (p ∷ ps) [] l h = absurd l
none_from n (p ∷ ps) (e ∷ es) l h =
    let no = count_head (is_named n) e es h in
    ap (λ b. none (cond b (Some p) (first_named n ps))) (named_is n p e l.0 ∙ no)
    ∙ none_from n ps es l.1 (sym (count_no (is_named n) e es no) ∙ h)

pub apart_to : (ps : List Placed) (es : List Entry) → Lines ps es → all_apart ps ≡ true → (n : Name) → count (is_named n) es ≤ 1
unfolding Lines all_apart
apart_to [] [] l h n = omega (arith, count-nil (is_named n))
apart_to [] (e ∷ es) l h n = absurd l
apart_to (p ∷ ps) [] l h n = absurd l
apart_to (p ∷ ps) (e ∷ es) l h n = go (is_named n e) refl (apart_to ps es l.1 t.1 n)
  where
    t : (alone p ps ≡ true) × (all_apart ps ≡ true)
    t = and_parts (alone p ps) (all_apart ps) h

    implied : (a b : Bool) → (not a || b) ≡ true → a ≡ true → b ≡ true
    implied true b h t = h
    implied false b h t = absurd (false≢true t)

    go : (b : Bool) → is_named n e ≡ b → count (is_named n) es ≤ 1 → count (is_named n) (e ∷ es) ≤ 1
    go true y r =
        let f = named_file n e y in
        let m : p.name ≡ n = l.0.name f ∙ sym (named_name n e y) in
        let q = implied (file_status p.status) (none (first_named p.name ps)) t.0 (ap file_status l.0.status ∙ f) in
        let z = none_to n ps es l.1 (ap (λ k. none (first_named k ps)) (sym m) ∙ q) in
        omega (arith, count_yes (is_named n) e es y, z)
    go false y r = omega (arith, count_no (is_named n) e es y, r)

pub apart_from : (ps : List Placed) (es : List Entry) → Lines ps es → ((n : Name) → count (is_named n) es ≤ 1) → all_apart ps ≡ true
unfolding Lines all_apart
apart_from [] [] l h = refl
apart_from [] (e ∷ es) l h = absurd l
apart_from (p ∷ ps) [] l h = absurd l
apart_from (p ∷ ps) (e ∷ es) l h =
    and_from (alone p ps) (all_apart ps) (ap (λ s. not (file_status s) || none (first_named p.name ps)) l.0.status ∙ go (is_file e) refl)
    (apart_from ps es l.1 (λ n. omega (arith, h n, count-cons (is_named n) e es)))
  where
    go : (b : Bool) → is_file e ≡ b → (not (is_file e) || none (first_named p.name ps)) ≡ true
    go true f =
        let y : is_named e.name e ≡ true = and_from (is_file e) (same_name e.name e.name) f (name_same e.name) in
        let z : count (is_named e.name) es ≡ 0 = omega (arith, h e.name, count_yes (is_named e.name) e es y) in
        ap (λ b. not b || none (first_named p.name ps)) f
        ∙ (ap (λ k. none (first_named k ps)) (l.0.name f) ∙ none_from e.name ps es l.1 z)
    go false f = ap (λ b. not b || none (first_named p.name ps)) f
