-- Bytes that hold a lawful directory are read as that directory, and are sound.
use Rattle.std.proofs.Common.{◌≡◌, ℕ, suc, ◌+◌, ◌*◌, ◌%◌, ◌≤◌, true, List, [], ◌∷◌, map, length, Some, None, Option, unwrap_or, sym, refl, ap, ◌∙◌, subst, arith}
use Rattle.std.specs.List.{AllByRecursion}
use Rattle.std.proofs.lemmas.Bool.{cond-true, eq-eqb, le-leb, and_from}
use Rattle.codec.specs.Words.{word_at}
use Rattle.volume.specs.declared.entry.Entry.{Entry}
use Rattle.segment.specs.Rule4.{Links}
use Rattle.segment.specs.Chains.{next_of, chain_from}
use Rattle.segment.specs.Directories.{Segment, Directory, entries_at, flat, chain_of}
use Rattle.segment.proofs.Rule4.{from_links}
use Rattle.directory.specs.declared.pending.Pending.{Pending}
use Rattle.directory.specs.Walks.{blocks_of}
use Rattle.directory.specs.Finds.{tentatives}
use Rattle.directory.specs.Rules.{every, in_use, same_extra, extra_sound, lawful_at, pending_stands, open_stands, all_placed, contiguous_from, broken_late, broken_along, broken_by, broken_rule}
use Rattle.edits.specs.Directories.{highest, entries_of, first_block, Begins, Lawful}
use Rattle.edits.specs.Laid.{Laid, next_number, laid_from, laid}
use Rattle.edits.specs.Values.{values_of, value_of}
use Rattle.edits.proofs.Counts.{blocks_nil, blocks_append}
use Rattle.edits.proofs.Tested.{from_each}
use Rattle.carry.specs.Carries.{Member, Carries}
use Rattle.carry.specs.Laws.{CarriedReads, CarriedIsSound}
use Rattle.carry.proofs.Lines.{Lines, lines_chain, tentatives_are, well_from, apart_from, blocks_cleaned}

-- the numbers of some segments
abbrev pub numbers : List Segment → List ℕ
numbers ss = map (λ s. s.number) ss

pub length-numbers : (ss : List Segment) → length (numbers ss) ≡ length ss
length-numbers [] = refl
length-numbers (s ∷ ss) = ap suc (length-numbers ss)

numbers_below : (h : ℕ) (ss : List Segment) → AllByRecursion (λ s. (1 ≤ s.number) × (s.number ≤ h)) ss → AllByRecursion (λ k. k ≤ h) (numbers ss)
numbers_below h [] a = tt
numbers_below h (s ∷ ss) a = (a.0.1, numbers_below h ss a.1)

module _ (x : ℕ) (dir : List ℕ) where
  blocks_there : (m : Laid) → Member x dir m → blocks_of (entries_at x dir m.number) ≡ blocks_of m.entries
  blocks_there m h = sym (blocks_cleaned (entries_at x dir m.number)) ∙ ap blocks_of h.entries

  links : (at : ℕ) (ss : List Segment) → AllByRecursion (Member x dir) (laid_from at ss) → Links (next_of dir) (next_number ss) (numbers ss)
  unfolding laid_from
  links at [] a = refl
  links at (s ∷ ss) a =
      (refl, a.0.some, subst (λ (k : ℕ). Links (next_of dir) k (numbers ss)) (sym a.0.next) (links (at + blocks_of s.entries) ss a.1))

  values : (at : ℕ) (ss : List Segment) → AllByRecursion (Member x dir) (laid_from at ss) → values_of x dir (numbers ss) ≡ ss
  unfolding laid_from values_of
  values at [] a = refl
  values at (s ∷ ss) a =
      ap (λ (es : List Entry). record { number = s.number; entries = es } ∷ values_of x dir (numbers ss)) a.0.entries
      ∙ ap (λ (ts : List Segment). s ∷ ts) (values (at + blocks_of s.entries) ss a.1)

  extras : (at : ℕ) (ss : List Segment) → AllByRecursion (Member x dir) (laid_from at ss) → every (same_extra x dir) (numbers ss) ≡ true
  unfolding laid_from
  extras at [] a = refl
  extras at (s ∷ ss) a = and_from _ _ (eq-eqb _ x a.0.extra) (extras (at + blocks_of s.entries) ss a.1)

  lawfuls : (at : ℕ) (ss : List Segment) → AllByRecursion (Member x dir) (laid_from at ss) → every (lawful_at x dir) (numbers ss) ≡ true
  unfolding laid_from
  lawfuls at [] a = refl
  lawfuls at (s ∷ ss) a = and_from _ _ a.0.readable (lawfuls (at + blocks_of s.entries) ss a.1)

  contiguous : (v at : ℕ) (ss : List Segment) → AllByRecursion (Member x dir) (laid_from at ss) → at + blocks_of (flat ss) ≡ v
      → contiguous_from x dir v at (numbers ss) ≡ true
  unfolding laid_from contiguous_from flat
  contiguous v at [] a h = eq-eqb at v (omega (arith, blocks_nil))
  contiguous v at (s ∷ ss) a h =
      and_from _ _ (eq-eqb _ at a.0.start)
      (ap (λ (n : ℕ). contiguous_from x dir v (at + n) (numbers ss)) (blocks_there _ a.0)
      ∙ contiguous v (at + blocks_of s.entries) ss a.1 (omega (arith, h, blocks_append s.entries (flat ss))))

module _ (dir : List ℕ) (d : Directory) (n v : ℕ) (c : Carries dir d) (l : Lawful n v d) where
  abbrev ss : List Segment
  ss = d.segments

  abbrev ks : List ℕ
  ks = numbers d.segments

  abbrev x : ℕ
  x = word_at dir 6

  members : AllByRecursion (Member (word_at dir 6) dir) (laid d)
  members = subst (λ (z : ℕ). AllByRecursion (Member z dir) (laid d)) (sym c.extra) c.members

  begun : next_number d.segments ≡ 1
  begun = go d.segments l.shaped.begins
    where
      go : (us : List Segment) → Begins 1 us → next_number us ≡ 1
      go [] b = absurd b
      go (s ∷ us) b = b

  pub chain_found : chain_from (word_at dir 4) (word_at dir 4) (next_of dir) 1 ≡ Some (numbers d.segments)
  chain_found =
      let inside = numbers_below (word_at dir 4) ss (subst (λ (h : ℕ). AllByRecursion (λ s. (1 ≤ s.number) × (s.number ≤ h)) ss) (sym c.used) (from_each ss (highest d) l.shaped.each_once)) in
      let long : length ks ≡ word_at dir 4 = length-numbers ss ∙ sym c.used in
      subst (λ (m : ℕ). chain_from m (word_at dir 4) (next_of dir) 1 ≡ Some ks) long
      (from_links (word_at dir 4) (next_of dir) 1 ks (subst (λ (k : ℕ). Links (next_of dir) k ks) begun (links x dir (first_block d) ss members)) inside)

  pub chain_is : chain_of dir ≡ numbers d.segments
  unfolding chain_of
  chain_is = ap (λ (o : Option (List ℕ)). unwrap_or o []) chain_found

  pub values_are : values_of (word_at dir 6) dir (numbers d.segments) ≡ d.segments
  values_are = values x dir (first_block d) ss members

  pub value_is : value_of dir ≡ d
  unfolding value_of
  value_is =
      ap (λ (us : List Segment). record { total = word_at dir 0; extra = word_at dir 6; segments = us }) (ap (values_of x dir) chain_is ∙ values_are)
      ∙ ap (λ (m : ℕ). record { total = m; extra = word_at dir 6; segments = ss }) c.total
      ∙ ap (λ (m : ℕ). record { total = d.total; extra = m; segments = ss }) c.extra

  abbrev at : ℕ
  at = 6 + 2 * word_at dir 0

  starts : first_block d ≡ 6 + 2 * word_at dir 0
  starts = omega (arith, c.total)

  lines : Lines (all_placed (word_at dir 6) dir (numbers d.segments) (6 + 2 * word_at dir 0)) (entries_of d)
  lines = subst (λ (us : List Segment). Lines (all_placed x dir ks at) (flat us)) values_are (lines_chain x dir at ks)

  used : in_use (word_at dir 4) (word_at dir 0) ≡ true
  used =
      and_from _ _ (le-leb 1 (word_at dir 4) (some d.segments l.shaped.begins c.used))
      (le-leb _ _ (omega (arith, c.used, c.total, l.shaped.in_use)))
    where
      some : (us : List Segment) → Begins 1 us → word_at dir 4 ≡ length us → 1 ≤ word_at dir 4
      some [] b e = absurd b
      some (s ∷ us) b e = omega arith

  extra_well : extra_sound (word_at dir 6) dir (numbers d.segments) ≡ true
  extra_well =
      and_from _ _ (eq-eqb _ 0 (ap (λ (z : ℕ). z % 2) c.extra ∙ l.shaped.even))
      (and_from _ _ (le-leb _ 64 (omega (arith, c.extra, l.shaped.small))) (extras x dir (first_block d) ss members))

  pub sound : (o : Option Pending) → open_stands (word_at dir 6) dir (numbers d.segments) o (all_placed (word_at dir 6) dir (numbers d.segments) (6 + 2 * word_at dir 0)) ≡ true
      → broken_rule dir v o ≡ 0
  unfolding broken_rule broken_along broken_late
  sound o h =
      cond-true _ _ _ used
      ∙ ap (broken_by dir v o) chain_found
      ∙ cond-true _ _ _ extra_well
      ∙ cond-true _ _ _ (lawfuls x dir (first_block d) ss members)
      ∙ cond-true _ _ _ h
      ∙ cond-true _ _ _ (subst (λ (b : ℕ). contiguous_from x dir v b ks ≡ true) starts (contiguous x dir v (first_block d) ss members l.filled))
      ∙ cond-true _ _ _ (well_from _ (entries_of d) lines l.named)
      ∙ cond-true _ _ _ (apart_from _ (entries_of d) lines l.apart)

  pub tentatives-here : tentatives (all_placed (word_at dir 6) dir (numbers d.segments) (6 + 2 * word_at dir 0)) ≡ n
  tentatives-here = tentatives_are _ (entries_of d) lines ∙ l.settled

pub carried_reads : CarriedReads
carried_reads dir d n v c l = value_is dir d n v c l

pub carried_is_sound : CarriedIsSound
carried_is_sound dir d v None c l s = sound dir d 0 v c l None (eq-eqb _ 0 (tentatives-here dir d 0 v c l))
carried_is_sound dir d v (Some p) c l s =
    sound dir d 1 v c l (Some p)
    (and_from _ _ (eq-eqb _ 1 (tentatives-here dir d 1 v c l))
    (subst (λ (ks : List ℕ). pending_stands (word_at dir 6) dir ks p ≡ true) (chain_is dir d 1 v c l) s))
