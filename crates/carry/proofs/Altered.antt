-- One segment of a directory edited.
use Rattle.std.proofs.Common.{◌≡◌, ℕ, zero, suc, ◌+◌, ◌<◌, ◌≤◌, ◌&&◌, eqb, leb, ◌⊎◌, List, [], ◌∷◌, ◌++◌, map, length, get_or, take, drop, sym, refl, ap, ◌∙◌, subst, inl, inr, ⊎_elim, arith}
use Rattle.std.specs.List.{AllByRecursion}
use Rattle.std.proofs.lemmas.List.{length-take-le}
use Rattle.std.proofs.ByRecursion.{All-append, All-take, All-drop, All-get_or}
use Rattle.std.proofs.lemmas.Bool.{cond_both, cases_eq, eq-eqb, eqb-false}
use Rattle.volume.specs.declared.entry.Entry.{Entry}
use Rattle.volume.specs.Segments.{capacity_of}
use Rattle.segment.specs.Entries.{LawfulEntry}
use Rattle.segment.specs.Directories.{Segment, Directory}
use Rattle.directory.specs.Walks.{blocks_of}
use Rattle.edits.specs.Entries.{count}
use Rattle.edits.specs.Directories.{highest, first_block, place_entries, meets, Shaped}
use Rattle.edits.specs.Edits.{altered, holding}
use Rattle.edits.specs.Laid.{Laid, laid_from, laid, relaid}
use Rattle.edits.specs.Values.{cleaned}
use Rattle.edits.proofs.Counts.{one, count-nil, count-cons, count-append, count_head, count_no, count_yes}
use Rattle.edits.proofs.Chained.{altered_chain}
use Rattle.edits.proofs.Laid.{edit_lays}
use Rattle.carry.specs.Carries.{Member, Carries, imaged}
use Rattle.carry.specs.Writes.{Fits, Among, Heads, no_segment, at_places, Suits, AlteredCarries}
use Rattle.carry.proofs.Writes.{written_carries}

-- how often a number is met
abbrev pub met : ℕ → List Laid → ℕ
met n ms = count (λ m. eqb m.number n) ms

pub met-laid : (n at : ℕ) (ss : List Segment) → met n (laid_from at ss) ≡ meets n ss
unfolding laid_from
met-laid n at [] = count-nil (λ (m : Laid). eqb m.number n) ∙ sym (count-nil (λ (s : Segment). eqb s.number n))
met-laid n at (s ∷ ss) =
    count-cons (λ m. eqb m.number n) _ (laid_from (at + blocks_of s.entries) ss)
    ∙ (ap (λ k. one (eqb s.number n) + k) (met-laid n (at + blocks_of s.entries) ss) ∙ sym (count-cons (λ s. eqb s.number n) s ss))

pub not_met : (n : ℕ) (ms : List Laid) → met n ms ≡ 0 → AllByRecursion (λ m. n ≡ m.number → ⊥) ms
not_met n [] h = tt
not_met n (m ∷ ms) h =
    let no = count_head (λ m. eqb m.number n) m ms h in
    ((λ e. eqb-false m.number n no (sym e)), not_met n ms (sym (count_no (λ m. eqb m.number n) m ms no) ∙ h))

pub all_zip : {X : Type 0} (P Q : X → Type 0) (xs : List X) → AllByRecursion P xs → AllByRecursion Q xs → AllByRecursion (λ x. P x × Q x) xs
all_zip P Q [] a b = tt
all_zip P Q (x ∷ xs) a b = ((a.0, b.0), all_zip P Q xs a.1 b.1)

pub all_maps : {X : Type 0} (P Q : X → Type 0) → ((x : X) → P x → Q x) → (xs : List X) → AllByRecursion P xs → AllByRecursion Q xs
all_maps P Q f [] a = tt
all_maps P Q f (x ∷ xs) a = (f x a.0, all_maps P Q f xs a.1)

-- a segment with other entries
abbrev pub edited : (List Entry → List Entry) → Laid → Laid
edited f m = record { number = m.number; next = m.next; start = m.start; entries = f m.entries }

-- the segment at a place
abbrev pub here : ℕ → List Laid → Laid
here k ms = get_or ms k no_segment

-- and those around it
pub parts : (k : ℕ) (ms : List Laid) → k < length ms → ms ≡ take k ms ++ here k ms ∷ drop (suc k) ms
parts k [] h = absurd (omega arith)
parts zero (m ∷ ms) h = refl
parts (suc k) (m ∷ ms) h = ap (λ l. m ∷ l) (parts k ms (omega arith))

pub relaid_parts : (f : List Entry → List Entry) (k : ℕ) (ms : List Laid) → k < length ms
    → relaid k f ms ≡ take k ms ++ edited f (here k ms) ∷ drop (suc k) ms
unfolding relaid
relaid_parts f k [] h = absurd (omega arith)
relaid_parts f zero (m ∷ ms) h = refl
relaid_parts f (suc k) (m ∷ ms) h = ap (λ l. m ∷ l) (relaid_parts f k ms (omega arith))

pub length-laid : (at : ℕ) (ss : List Segment) → length (laid_from at ss) ≡ length ss
unfolding laid_from
length-laid at [] = refl
length-laid at (s ∷ ss) = ap suc (length-laid (at + blocks_of s.entries) ss)

pub entries-here : (at k : ℕ) (ss : List Segment) → k < length ss → (here k (laid_from at ss)).entries ≡ place_entries ss k
unfolding laid_from place_entries
entries-here at k [] h = absurd (omega arith)
entries-here at zero (s ∷ ss) h = refl
entries-here at (suc k) (s ∷ ss) h = entries-here (at + blocks_of s.entries) k ss (omega arith)

pub once : (v : ℕ) (d : Directory) → Shaped v d → (n : ℕ) → met n (laid d) ≤ 1
once v d s n =
    omega (
      arith,
      met-laid n (first_block d) d.segments,
      s.each_once n,
      cond_both (leb 1 n && leb n (highest d)) 1 0 (λ k. k ≤ 1) (λ _. omega arith) (λ _. omega arith),
    )

-- the others have other numbers
pub others : (k : ℕ) (ms : List Laid) → k < length ms → ((n : ℕ) → met n ms ≤ 1)
    → AllByRecursion (λ m. (here k ms).number ≡ m.number → ⊥) (take k ms) × AllByRecursion (λ m. (here k ms).number ≡ m.number → ⊥) (drop (suc k) ms)
others k ms h o =
    let w : Laid = here k ms in
    let n : ℕ = w.number in
    let c : met n ms ≡ met n (take k ms) + met n (w ∷ drop (suc k) ms) = ap (met n) (parts k ms h) ∙ count-append (λ m. eqb m.number n) (take k ms) (w ∷ drop (suc k) ms) in
    let y = count_yes (λ m. eqb m.number n) w (drop (suc k) ms) (eq-eqb n n refl) in
    (not_met n (take k ms) (omega (arith, o n, c, y)), not_met n (drop (suc k) ms) (omega (arith, o n, c, y)))

-- a place behind some segments
pub at_place : (k : ℕ) (before : List Laid) (w : Laid) (after : List Laid) → length before ≡ k → here k (before ++ w ∷ after) ≡ w
at_place k [] w after h = ap (λ n. here n (w ∷ after)) (sym h)
at_place zero (m ∷ before) w after h = absurd (omega arith)
at_place (suc k) (m ∷ before) w after h = at_place k before w after (omega arith)

module _ (dir : List ℕ) (d : Directory) (k : ℕ) (f : List Entry → List Entry) (v : ℕ) (c : Carries dir d) (s : Shaped v d) (h : k < length d.segments)
    (u : Suits d.extra (place_entries d.segments k) (f (place_entries d.segments k))) where
  abbrev new : Directory
  new = holding d (altered k f d.segments)

  in_laid : k < length (laid d)
  in_laid = omega (arith, h, length-laid (first_block d) d.segments)

  abbrev was : Laid
  was = here k (laid d)

  pub laid-new : laid (holding d (altered k f d.segments)) ≡ take k (laid d) ++ edited f (here k (laid d)) ∷ drop (suc k) (laid d)
  laid-new = edit_lays (first_block d) k f d.segments u.blocks ∙ relaid_parts f k (laid d) in_laid

  pub written_one : at_places (laid (holding d (altered k f d.segments))) (k ∷ []) ≡ edited f (here k (laid d)) ∷ []
  written_one =
      ap (λ ms. at_places ms (k ∷ [])) laid-new
      ∙ ap (λ w. w ∷ []) (at_place k (take k (laid d)) (edited f was) (drop (suc k) (laid d)) (length-take-le k (laid d) (omega (arith, in_laid))))

  -- the segment as it was
  pub there : Member d.extra dir (here k (laid d))
  there = All-get_or (Member d.extra dir) (laid d) k no_segment in_laid c.members

  pub entries_there : (here k (laid d)).entries ≡ place_entries d.segments k
  entries_there = entries-here (first_block d) k d.segments h

  pub fits : Fits (length dir) d.extra (edited f (here k (laid d)))
  fits =
      let e = sym entries_there in
      record {
        some = there.some;
        inside = there.inside;
        few = subst (λ (es : List Entry). length (f es) ≤ capacity_of d.extra) e u.few;
        lawful = subst (λ (es : List Entry). AllByRecursion (LawfulEntry d.extra) (f es)) e u.lawful;
        clean = subst (λ (es : List Entry). map cleaned (f es) ≡ f es) e u.clean;
      }

  abbrev Either : Laid → Type 0
  Either m = Among (edited f was ∷ []) m ⊎ (AllByRecursion (λ w. w.number ≡ m.number → ⊥) (edited f was ∷ []) × Member d.extra dir m)

  kept : (ms : List Laid) → AllByRecursion (λ m. (here k (laid d)).number ≡ m.number → ⊥) ms → AllByRecursion (Member d.extra dir) ms
      → AllByRecursion (λ m. Among (edited f (here k (laid d)) ∷ []) m ⊎ (AllByRecursion (λ w. w.number ≡ m.number → ⊥) (edited f (here k (laid d)) ∷ []) × Member d.extra dir m)) ms
  kept [] a b = tt
  kept (m ∷ ms) a b = (inr ((a.0, tt), b.0), kept ms a.1 b.1)

  heads : Heads d (holding d (altered k f d.segments)) (edited f (here k (laid d)) ∷ [])
  heads =
      ⊎_elim (λ (e : was.number ≡ 1). inl (edited f was, inl refl, e))
      (λ (n : was.number ≡ 1 → ⊥). inr ((n, tt), (altered_chain f k d.segments).long))
      (cases_eq was.number 1)

  pub carries : Carries (imaged dir (holding d (altered k f d.segments)) (at_places (laid (holding d (altered k f d.segments))) (k ∷ [])))
      (holding d (altered k f d.segments))
  carries =
      let o = others k (laid d) in_laid (once v d s) in
      subst (λ (ms : List Laid). Carries (imaged dir new ms) new) (sym written_one)
      (written_carries dir d new (edited f was ∷ []) c refl refl (fits, tt) (tt, tt) heads
      (subst (AllByRecursion Either) (sym laid-new)
      (All-append Either (take k (laid d)) (edited f was ∷ drop (suc k) (laid d))
      (kept (take k (laid d)) o.0 (All-take (Member d.extra dir) k (laid d) c.members))
      (inl (inl refl), kept (drop (suc k) (laid d)) o.1 (All-drop (Member d.extra dir) (suc k) (laid d) c.members)))))

pub altered_carries : AlteredCarries
altered_carries dir d k f v c s h u = carries dir d k f v c s h u
