-- The entries of a segment, one after another.
use Rattle.std.proofs.Common.{◌≡◌, ℕ, zero, suc, ◌+◌, ◌-◌, ◌*◌, ◌<◌, ◌≤◌, Bool, true, false, cond, eqb, List, [], ◌∷◌, length, get_or, drop, Some, None, Option, unwrap_or, sym, refl, ap, ◌∙◌, add-mul, one-mul, zero-mul, arith}
use native.Mathlib.Nat.{sub-zero}
use Rattle.std.specs.Option.{option_map}
use Rattle.std.proofs.lemmas.List.{drop-drop, drop_more}
use Rattle.std.proofs.lemmas.Bool.{eq-eqb, ne_eqb, eqb-false}
use Rattle.codec.specs.Words.{word_at}
use Rattle.volume.specs.declared.entry.Entry.{Entry}
use Rattle.volume.specs.Segments.{capacity_of}
use Rattle.volume.proofs.Encoding.{no_entry, room_all}
use Rattle.segment.specs.Entries.{entry_of}
use Rattle.segment.specs.Segments.{entry_start, before, entries_in, segment_entries}
use Rattle.segment.proofs.Fields.{Fields, fields}

-- ---- what the first word tells

pub entries_end : (n x : ℕ) (bs : List ℕ) → word_at bs 0 ≡ 2048 → entries_in n x bs ≡ Some []
unfolding entries_in
entries_end zero x bs h = rw (eq-eqb (word_at bs 0) 2048 h)
entries_end (suc n) x bs h = rw (eq-eqb (word_at bs 0) 2048 h)

pub entries-full : (x : ℕ) (bs : List ℕ) → (word_at bs 0 ≡ 2048 → ⊥) → entries_in 0 x bs ≡ None
unfolding entries_in
entries-full x bs h = rw (ne_eqb (word_at bs 0) 2048 h)

pub entries_more : (n x : ℕ) (bs : List ℕ) (o : Option Entry) → (word_at bs 0 ≡ 2048 → ⊥) → 0 < n → o ≡ entry_of x bs
    → entries_in n x bs ≡ before o (entries_in (n - 1) x (drop (14 + x) bs))
unfolding entries_in
entries_more zero x bs o h l e = absurd (omega arith)
entries_more (suc n) x bs o h l e =
    let k : suc n - 1 ≡ n = omega arith in
    rw (ne_eqb (word_at bs 0) 2048 h, k, e)

pub entries_bad : (n x : ℕ) (bs : List ℕ) → (word_at bs 0 ≡ 2048 → ⊥) → None ≡ entry_of x bs → entries_in n x bs ≡ None
unfolding entries_in
entries_bad zero x bs h e = entries-full x bs h
entries_bad (suc n) x bs h e = rw (ne_eqb (word_at bs 0) 2048 h, ← e)

-- ---- what is known of entries that were read

pub record Front (n x : ℕ) (bs : List ℕ) (e : Entry) (es : List Entry) : Type 0 where
  pub some : 0 < n
  pub goes_on : word_at bs 0 ≡ 2048 → ⊥
  pub first : entry_of x bs ≡ Some e
  pub rest : entries_in (n - 1) x (drop (14 + x) bs) ≡ Some es

front_by : (n x : ℕ) (bs : List ℕ) (e : Entry) (es : List Entry) (o : Option Entry) (r : Option (List Entry)) → (word_at bs 0 ≡ 2048 → ⊥) → entry_of x bs ≡ o
    → entries_in n x (drop (14 + x) bs) ≡ r → before o r ≡ Some (e ∷ es) → Front (suc n) x bs e es
front_by n x bs e es None r w p q h = absurd (let z : ◌≡◌ {A = ℕ} 0 1 = cc in omega arith)
front_by n x bs e es (Some f) None w p q h = absurd (let z : ◌≡◌ {A = ℕ} 0 1 = cc in omega arith)
front_by n x bs e es (Some f) (Some fs) w p q h =
    let k : suc n - 1 ≡ n = omega arith in
    let a : f ≡ e = cc in
    let b : fs ≡ es = cc in
    record { some = omega arith; goes_on = w; first = p ∙ ap Some a; rest = ap (λ (m : ℕ). entries_in m x (drop (14 + x) bs)) k ∙ q ∙ ap Some b }

front_test : (n x : ℕ) (bs : List ℕ) (e : Entry) (es : List Entry) (t : Bool) → eqb (word_at bs 0) 2048 ≡ t
    → cond t (Some []) (before (entry_of x bs) (entries_in n x (drop (14 + x) bs))) ≡ Some (e ∷ es) → Front (suc n) x bs e es
front_test n x bs e es true w h = absurd (let z : ◌≡◌ {A = ℕ} 0 1 = cc in omega arith)
front_test n x bs e es false w h =
    front_by n x bs e es (entry_of x bs) (entries_in n x (drop (14 + x) bs)) (eqb-false (word_at bs 0) 2048 w) refl refl h

-- the first entry, and the others
pub front : (n x : ℕ) (bs : List ℕ) (e : Entry) (es : List Entry) → entries_in n x bs ≡ Some (e ∷ es) → Front n x bs e es
unfolding entries_in
front zero x bs e es h = absurd (none_first (eqb (word_at bs 0) 2048) h)
  where
    none_first : (t : Bool) → cond t (Some []) None ≡ Some (e ∷ es) → ⊥
    none_first true g = let z : ◌≡◌ {A = ℕ} 0 1 = cc in omega arith
    none_first false g = let z : ◌≡◌ {A = ℕ} 0 1 = cc in omega arith
front (suc n) x bs e es h = front_test n x bs e es (eqb (word_at bs 0) 2048) refl h

-- as many entries as there may be at most
pub few_entries : (n x : ℕ) (bs : List ℕ) (es : List Entry) → entries_in n x bs ≡ Some es → length es ≤ n
few_entries n x bs [] h = omega arith
few_entries n x bs (e ∷ es) h =
    let f = front n x bs e es h in
    omega (arith, f.some, few_entries (n - 1) x (drop (14 + x) bs) es f.rest)

-- what was counted was read
pub counted_some : (o : Option (List Entry)) (n : ℕ) → Some n ≡ option_map length o → (o ≡ Some (unwrap_or o [])) × (length (unwrap_or o []) ≡ n)
counted_some None n h = absurd (let z : ◌≡◌ {A = ℕ} 0 1 = cc in omega arith)
counted_some (Some es) n h = (refl, cc)

pub counted_none : (o : Option (List Entry)) → None ≡ option_map length o → o ≡ None
counted_none None h = refl
counted_none (Some es) h = absurd (let z : ◌≡◌ {A = ℕ} 0 1 = cc in omega arith)

-- ---- a walk along the entries

pub walked : (n x : ℕ) (bs : List ℕ) (es : List Entry) (i : ℕ) → entries_in n x bs ≡ Some es → i ≤ length es
    → entries_in (n - i) x (drop (i * (14 + x)) bs) ≡ Some (drop i es)
walked n x bs es zero h l = rw (sub-zero n, zero-mul (14 + x)) h
walked n x bs [] (suc i) h l = absurd (omega arith)
walked n x bs (e ∷ es) (suc i) h l =
    let f = front n x bs e es h in
    let a : n - 1 - i ≡ n - suc i = omega arith in
    let b : (14 + x) + i * (14 + x) ≡ suc i * (14 + x) = omega (arith, add-mul i 1 (14 + x), one-mul (14 + x)) in
    ap (λ (m : ℕ). entries_in m x (drop (suc i * (14 + x)) bs)) (sym a)
    ∙ ap (λ (m : ℕ). entries_in (n - 1 - i) x (drop m bs)) (sym b)
    ∙ ap (entries_in (n - 1 - i) x) (sym (drop-drop (i * (14 + x)) (14 + x) bs))
    ∙ walked (n - 1) x (drop (14 + x) bs) es i f.rest (omega arith)

module _ (x : ℕ) (bs : List ℕ) (es : List Entry) (h : segment_entries x bs ≡ Some es) where
  -- what is left of a segment from entry i on
  pub segment_walked : (i : ℕ) → i ≤ length es → entries_in (capacity_of x - i) x (drop (entry_start x i) bs) ≡ Some (drop i es)
  segment_walked i l =
      ap (entries_in (capacity_of x - i) x) (sym (drop-drop (i * (14 + x)) 10 bs)) ∙ walked (capacity_of x) x (drop 10 bs) es i h l

  pub segment_few : length es ≤ capacity_of x
  segment_few = few_entries (capacity_of x) x (drop 10 bs) es h

  -- entry i of a segment
  pub entry_at : (i : ℕ) → i < length es → entry_of x (drop (entry_start x i) bs) ≡ Some (get_or es i no_entry)
  entry_at i l =
      (front (capacity_of x - i) x (drop (entry_start x i) bs) (get_or es i no_entry) (drop (i + 1) es)
      (segment_walked i (omega arith) ∙ ap Some (drop_more es i no_entry l))).first

  pub fields_at : (i : ℕ) → i < length es → Fields (drop (entry_start x i) bs) (get_or es i no_entry)
  fields_at i l = fields x (drop (entry_start x i) bs) (get_or es i no_entry) (entry_at i l)

-- ---- room

pub room_for : (x i : ℕ) → i ≤ capacity_of x → entry_start x i ≤ 1022
room_for x i h = room_all x i h

pub room_behind : (x i : ℕ) → i < capacity_of x → entry_start x i + (14 + x) ≤ 1022
room_behind x i h = omega (arith, room_for x (i + 1) (omega arith), add-mul i 1 (14 + x), one-mul (14 + x))
