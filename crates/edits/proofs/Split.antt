-- A split keeps the flat list, and a lawful directory lawful.
use Rattle.std.proofs.Common.{◌≡◌, ℕ, zero, suc, ◌+◌, ◌-◌, ◌<◌, ◌≤◌, Bool, cond, ◌&&◌, eqb, ltb, leb, List, [], ◌∷◌, ◌++◌, length, take, drop, sym, refl, ap, ◌∙◌, le-div_iff_mul-le, arith}
use Rattle.std.proofs.lemmas.List.{append_assoc, take-append-drop, length-take, length-drop, drop-take, drop-drop}
use Rattle.std.proofs.lemmas.Bool.{cond_both, ltb-true, ltb-false}
use Rattle.std.proofs.lemmas.Bool.Decides.{nat_tests}
use Rattle.codec.specs.declared.name.Name.{Name}
use Rattle.volume.specs.declared.entry.Entry.{Entry}
use Rattle.edits.specs.Entries.{is_tentative, is_named, is_misnamed, blocks_of, count, standing}
use Rattle.edits.specs.Directories.{Segment, Directory, highest, capacity_of, flat, place_entries, first_block, entry_named, files_from, files, Begins, meets, Lawful}
use Rattle.edits.specs.Edits.{parted, split, staying, moved}
use Rattle.edits.specs.Asks.{Place}
use Rattle.edits.specs.Laws.{Stands, SplitKeeps}
use Rattle.edits.proofs.Counts.{one, count-cons}
use Rattle.edits.proofs.Chained.{Roomy}
use Rattle.edits.proofs.Places.{drop_step}

pub capacity_large : (x : ℕ) → x ≤ 64 → 12 ≤ capacity_of x
capacity_large x h = (le-div_iff_mul-le {k = 14 + x} {x = 12} {y = 1012} (omega arith)).1 (omega arith)

module _ (stay number : ℕ) where
  pub parted-flat : (k : ℕ) (ss : List Segment) → flat (parted k stay number ss) ≡ flat ss
  unfolding parted flat
  parted-flat k [] = refl
  parted-flat zero (s ∷ ss) =
      sym (append_assoc (take stay s.entries) (drop stay s.entries) (flat ss))
      ∙ ap (λ l. l ++ flat ss) (take-append-drop stay s.entries)
  parted-flat (suc k) (s ∷ ss) = ap (λ l. s.entries ++ l) (parted-flat k ss)

  parted-long : (k : ℕ) (ss : List Segment) → k < length ss → length (parted k stay number ss) ≡ suc (length ss)
  unfolding parted
  parted-long k [] h = absurd (omega arith)
  parted-long zero (s ∷ ss) h = refl
  parted-long (suc k) (s ∷ ss) h = ap suc (parted-long k ss (omega arith))

  parted_met : (j k : ℕ) (ss : List Segment) → k < length ss → meets j (parted k stay number ss) ≡ meets j ss + one (eqb number j)
  unfolding parted
  parted_met j k [] h = absurd (omega arith)
  parted_met j zero (s ∷ ss) h =
      let q : Segment → Bool = λ s. eqb s.number j in
      omega (arith, count-cons q s ss, count-cons q (record { number = number; entries = drop stay s.entries }) ss, count-cons q (record { number = s.number; entries = take stay s.entries }) (record { number = number; entries = drop stay s.entries } ∷ ss))
  parted_met j (suc k) (s ∷ ss) h =
      let q : Segment → Bool = λ s. eqb s.number j in
      omega (arith, count-cons q s ss, count-cons q s (parted k stay number ss), parted_met j k ss (omega arith))

  parted_begun : (k : ℕ) (ss : List Segment) → Begins 1 ss → Begins 1 (parted k stay number ss)
  unfolding parted
  parted_begun k [] h = h
  parted_begun zero (s ∷ ss) h = h
  parted_begun (suc k) (s ∷ ss) h = h

  parted_roomy : (c k : ℕ) (ss : List Segment) → Roomy c ss → Roomy c (parted k stay number ss)
  unfolding parted
  parted_roomy c k [] r = tt
  parted_roomy c zero (s ∷ ss) r =
      (omega (arith, length-take stay s.entries, r.0), (omega (arith, length-drop stay s.entries, r.0), r.1))
  parted_roomy c (suc k) (s ∷ ss) r = (r.0, parted_roomy c k ss r.1)

  pub parted_low : (k : ℕ) (ss : List Segment) → k < length ss → place_entries (parted k stay number ss) k ≡ take stay (place_entries ss k)
  unfolding parted place_entries
  parted_low k [] h = absurd (omega arith)
  parted_low zero (s ∷ ss) h = refl
  parted_low (suc k) (s ∷ ss) h = parted_low k ss (omega arith)

  pub parted_high : (k : ℕ) (ss : List Segment) → k < length ss → place_entries (parted k stay number ss) (suc k) ≡ drop stay (place_entries ss k)
  unfolding parted place_entries
  parted_high k [] h = absurd (omega arith)
  parted_high zero (s ∷ ss) h = refl
  parted_high (suc k) (s ∷ ss) h = parted_high k ss (omega arith)

pub split_keeps : SplitKeeps
split_keeps d k = parted-flat (staying d) (suc (highest d)) k d.segments

-- the numbers 1 to h, and one more
one_more : (j h : ℕ) → cond (leb 1 j && leb j h) 1 0 + one (eqb (suc h) j) ≡ cond (leb 1 j && leb j (suc h)) 1 0
one_more j h = grind (arith, nat_tests)

module _ (d : Directory) (k : ℕ) (inside : k < highest d) where
  pub split-file : (m : Name) → entry_named (split d k) m ≡ entry_named d m
  split-file m = ap (λ l. standing (is_named m) (first_block d) l) (split_keeps d k)

  pub split_lists : files (split d k) ≡ files d
  split_lists = ap (λ l. files_from (first_block d) l) (split_keeps d k)

  pub split-lawful : (outputs v : ℕ) → Lawful outputs v d → highest d < d.total → Lawful outputs v (split d k)
  split-lawful outputs v l h =
      let same = split_keeps d k in
      let s = l.shaped in
      let long = parted-long (staying d) (suc (highest d)) k d.segments inside in
      record {
        shaped =
            record {
              some_segments = s.some_segments;
              few_segments = s.few_segments;
              fits = s.fits;
              in_use = omega (arith, long, h);
              begins = parted_begun (staying d) (suc (highest d)) k d.segments s.begins;
              each_once = λ j. parted_met (staying d) (suc (highest d)) j k d.segments inside
                  ∙ (ap (λ n. n + one (eqb (suc (highest d)) j)) (s.each_once j)
                  ∙ (one_more j (highest d) ∙ ap (λ n. cond (leb 1 j && leb j n) 1 0) (sym long)));
              even = s.even;
              small = s.small;
            };
        room = parted_roomy (staying d) (suc (highest d)) (capacity_of d.extra) k d.segments l.room;
        settled = ap (count is_tentative) same ∙ l.settled;
        filled = ap (λ es. first_block d + blocks_of es) same ∙ l.filled;
        named = ap (count is_misnamed) same ∙ l.named;
        apart = λ n. rw same (l.apart n);
      }

-- an entry that is somewhere in a list stands there
pub stands_by : {X : Type 0} (xs : List X) (i : ℕ) (y : X) (ys : List X) → drop i xs ≡ y ∷ ys → drop i xs ≡ y ∷ drop (suc i) xs
stands_by xs i y ys h = h ∙ ap (λ l. y ∷ l) (drop_step xs i y ys h)

-- where an entry of the split segment stands afterwards, and that there is room beside it
pub moved_stands : (ss : List Segment) (k i : ℕ) (e : Entry) (stay number c : ℕ) → k < length ss → Stands ss k i e
    → stay < c → 1 ≤ stay → length (place_entries ss k) ≤ c
    → let a = moved stay (record { segment = k; index = i; entry = e }) in
    Stands (parted k stay number ss) a.segment a.index a.entry
    × (a.entry ≡ e)
    × (length (place_entries (parted k stay number ss) a.segment) + 1 ≤ c)
moved_stands ss k i e stay number c inside h less some fits =
    let es = place_entries ss k in
    let ps = parted k stay number ss in
    cond_both {A = Place} (ltb i stay) (record { segment = k; index = i; entry = e }) (record { segment = suc k; index = i - stay; entry = e })
    (λ a. Stands ps a.segment a.index a.entry × (a.entry ≡ e) × (length (place_entries ps a.segment) + 1 ≤ c))
    (λ y.
    let l : i < stay = ltb-true i stay y in
    let n : i + suc (stay - suc i) ≡ stay = omega arith in
    let at : drop i (take stay es) ≡ e ∷ take (stay - suc i) (drop (suc i) es) =
    ap (λ n. drop i (take n es)) (sym n) ∙ (drop-take i (suc (stay - suc i)) es ∙ ap (take (suc (stay - suc i))) h) in
    let p = parted_low stay number k ss inside in (
      rw p (stands_by (take stay es) i e (take (stay - suc i) (drop (suc i) es)) at),
      refl,
      omega (arith, ap length p, length-take stay es),
    ))
    (λ y.
    let l : stay ≤ i = ltb-false i stay y in
    let n : stay + (i - stay) ≡ i = omega arith in
    let at : drop (i - stay) (drop stay es) ≡ e ∷ drop (suc i) es = drop-drop (i - stay) stay es ∙ (ap (λ n. drop n es) n ∙ h) in
    let p = parted_high stay number k ss inside in (
      rw p (stands_by (drop stay es) (i - stay) e (drop (suc i) es) at),
      refl,
      omega (arith, ap length p, length-drop stay es, fits),
    ))
