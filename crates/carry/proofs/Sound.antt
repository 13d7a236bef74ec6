-- The bytes of a sound directory hold its value, which is lawful.
use Rattle.std.proofs.Common.{◌≡◌, ℕ, suc, ◌+◌, ◌*◌, ◌%◌, ◌<◌, ◌≤◌, Bool, true, false, cond, ◌&&◌, eqb, leb, List, [], ◌∷◌, length, Some, None, Option, unwrap_or, sym, refl, ap, ◌∙◌, subst, ⊎_elim, arith}
use Rattle.std.specs.List.{AllByRecursion}
use Rattle.std.proofs.lemmas.List.{length-map}
use Rattle.std.proofs.lemmas.Bool.{cases_eq, eq-eqb, ne_eqb, eqb-true, leb-true, and_parts}
use Rattle.codec.specs.Words.{word_at}
use Rattle.volume.specs.Segments.{capacity_of}
use Rattle.segment.specs.Rule4.{Links, times}
use Rattle.segment.specs.Chains.{segment_at, next_of, chain_from}
use Rattle.segment.specs.Directories.{Segment, entries_at, flat, chain_of}
use Rattle.segment.proofs.Rule4.{along, chain_inside, chain_once}
use Rattle.segment.proofs.Walks.{segment_few}
use Rattle.directory.specs.declared.pending.Pending.{Pending}
use Rattle.directory.specs.Walks.{blocks_of}
use Rattle.directory.specs.Finds.{tentatives, all_well_named, all_apart}
use Rattle.directory.specs.Rules.{every, in_use, same_extra, extra_sound, lawful_at, open_stands, all_placed, contiguous_from, broken_late, broken_along, broken_by, broken_rule}
use Rattle.directory.proofs.Walking.{entries_read}
use Rattle.edits.specs.Directories.{Begins, meets}
use Rattle.edits.specs.Laid.{next_number, laid_from}
use Rattle.edits.specs.Values.{cleaned, value_at, values_of, value_of}
use Rattle.edits.proofs.Counts.{one, blocks_nil, blocks_append, count-nil, count-cons}
use Rattle.edits.proofs.Tested.{to_each}
use Rattle.carry.specs.Carries.{Member, Carries}
use Rattle.carry.specs.Laws.{outputs, StandsOpen, SoundIsLawful}
use Rattle.carry.proofs.Lines.{lines_chain, tentatives_are, well_to, apart_to, blocks_cleaned}

-- the rules, one by one
pub record Rules (dir : List ℕ) (v : ℕ) (o : Option Pending) : Type 0 where
  pub used : in_use (word_at dir 4) (word_at dir 0) ≡ true
  pub chain : chain_from (word_at dir 4) (word_at dir 4) (next_of dir) 1 ≡ Some (chain_of dir)
  pub extra : extra_sound (word_at dir 6) dir (chain_of dir) ≡ true
  pub lawful : every (lawful_at (word_at dir 6) dir) (chain_of dir) ≡ true
  pub stands : open_stands (word_at dir 6) dir (chain_of dir) o (all_placed (word_at dir 6) dir (chain_of dir) (6 + 2 * word_at dir 0)) ≡ true
  pub contiguous : contiguous_from (word_at dir 6) dir v (6 + 2 * word_at dir 0) (chain_of dir) ≡ true
  pub named : all_well_named (all_placed (word_at dir 6) dir (chain_of dir) (6 + 2 * word_at dir 0)) ≡ true
  pub apart : all_apart (all_placed (word_at dir 6) dir (chain_of dir) (6 + 2 * word_at dir 0)) ≡ true

passed : (b : Bool) (m n : ℕ) → cond b m n ≡ 0 → 0 < n → (b ≡ true) × (m ≡ 0)
passed true m n e l = (refl, e)
passed false m n e l = absurd (omega arith)

found_chain : (dir : List ℕ) (v : ℕ) (o : Option Pending) (c : Option (List ℕ)) → broken_by dir v o c ≡ 0
    → (c ≡ Some (unwrap_or c [])) × (broken_along (word_at dir 6) dir v (6 + 2 * word_at dir 0) o (unwrap_or c []) ≡ 0)
found_chain dir v o None e = absurd (omega arith)
found_chain dir v o (Some ks) e = (refl, e)

pub rules : (dir : List ℕ) (v : ℕ) (o : Option Pending) → broken_rule dir v o ≡ 0 → Rules dir v o
unfolding chain_of broken_rule broken_along broken_late
rules dir v o e =
    let x : ℕ = word_at dir 6 in
    let ks : List ℕ = chain_of dir in
    let three = passed (in_use (word_at dir 4) (word_at dir 0)) _ 3 e (omega arith) in
    let four = found_chain dir v o (chain_from (word_at dir 4) (word_at dir 4) (next_of dir) 1) three.1 in
    let five = passed (extra_sound x dir ks) _ 5 four.1 (omega arith) in
    let six = passed (every (lawful_at x dir) ks) _ 6 five.1 (omega arith) in
    let more = passed (open_stands x dir ks o (all_placed x dir ks (6 + 2 * word_at dir 0))) _ 6 six.1 (omega arith) in
    let seven = passed (contiguous_from x dir v (6 + 2 * word_at dir 0) ks) _ 7 more.1 (omega arith) in
    let eight = passed (all_well_named (all_placed x dir ks (6 + 2 * word_at dir 0))) _ 8 seven.1 (omega arith) in
    let nine = passed (all_apart (all_placed x dir ks (6 + 2 * word_at dir 0))) 0 9 eight.1 (omega arith) in
    record {
      used = three.0;
      chain = four.0;
      extra = five.0;
      lawful = six.0;
      stands = more.0;
      contiguous = seven.0;
      named = eight.0;
      apart = nine.0;
    }

eqb_swap : (a b : ℕ) → eqb a b ≡ eqb b a
eqb_swap a b =
    ⊎_elim (λ (e : a ≡ b). eq-eqb a b e ∙ sym (eq-eqb b a (sym e))) (λ (n : a ≡ b → ⊥). ne_eqb a b n ∙ sym (ne_eqb b a (λ e. n (sym e))))
    (cases_eq a b)

module _ (x : ℕ) (dir : List ℕ) where
  pub length_values : (ks : List ℕ) → length (values_of x dir ks) ≡ length ks
  unfolding values_of
  length_values [] = refl
  length_values (k ∷ ks) = ap suc (length_values ks)

  meets-times : (j : ℕ) (ks : List ℕ) → meets j (values_of x dir ks) ≡ times j ks
  unfolding values_of
  meets-times j [] = count-nil (λ (s : Segment). eqb s.number j)
  meets-times j (k ∷ ks) =
      count-cons (λ s. eqb s.number j) (record { number = k; entries = value_at x dir k }) (values_of x dir ks)
      ∙ (ap (λ b. one b + meets j (values_of x dir ks)) (eqb_swap k j) ∙ ap (λ n. cond (eqb j k) 1 0 + n) (meets-times j ks))

  inside : (h : ℕ) (ks : List ℕ) → AllByRecursion (λ j. (1 ≤ j) × (j ≤ h)) ks → AllByRecursion (λ s. (1 ≤ s.number) × (s.number ≤ h)) (values_of x dir ks)
  unfolding values_of
  inside h [] a = tt
  inside h (k ∷ ks) a = (a.0, inside h ks a.1)

  first : (next : ℕ → ℕ) (ks : List ℕ) → Links next 1 ks → 1 ≤ length ks → Begins 1 (values_of x dir ks)
  unfolding values_of
  first next [] l h = absurd (omega arith)
  first next (k ∷ ks) l h = l.0

  next_is : (k : ℕ) (ks : List ℕ) → Links (next_of dir) k ks → next_number (values_of x dir ks) ≡ k
  unfolding values_of
  next_is k [] l = sym l
  next_is k (j ∷ ks) l = l.0

  rooms : (ks : List ℕ) → every (lawful_at x dir) ks ≡ true → AllByRecursion (λ s. length s.entries ≤ capacity_of x) (values_of x dir ks)
  unfolding values_of
  rooms [] h = tt
  rooms (k ∷ ks) h =
      let t = and_parts (lawful_at x dir k) _ h in
      (omega (arith, length-map (entries_at x dir k) cleaned, segment_few x (segment_at dir k) (entries_at x dir k) (entries_read x dir k t.0)), rooms ks t.1)

  fills : (v at : ℕ) (ks : List ℕ) → contiguous_from x dir v at ks ≡ true → at + blocks_of (flat (values_of x dir ks)) ≡ v
  unfolding contiguous_from values_of flat
  fills v at [] h = omega (arith, blocks_nil, eqb-true at v h)
  fills v at (k ∷ ks) h =
      let t = and_parts (eqb (word_at (segment_at dir k) 8) at) _ h in
      omega (arith, fills v (at + blocks_of (entries_at x dir k)) ks t.1, blocks_append (value_at x dir k) (flat (values_of x dir ks)), blocks_cleaned (entries_at x dir k))

  members : (n v at k : ℕ) (ks : List ℕ) → 1024 * n ≤ length dir → AllByRecursion (λ j. (1 ≤ j) × (j ≤ n)) ks → Links (next_of dir) k ks
      → every (same_extra x dir) ks ≡ true → every (lawful_at x dir) ks ≡ true → contiguous_from x dir v at ks ≡ true
      → AllByRecursion (Member x dir) (laid_from at (values_of x dir ks))
  unfolding values_of laid_from contiguous_from
  members n v at k [] long a l e r c = tt
  members n v at k (j ∷ ks) long a l e r c =
      let s = and_parts (same_extra x dir j) _ e in
      let t = and_parts (lawful_at x dir j) _ r in
      let u = and_parts (eqb (word_at (segment_at dir j) 8) at) _ c in (
        record {
          some = a.0.0;
          inside = omega (arith, a.0.1, long);
          next = ap (next_of dir) l.0 ∙ sym (next_is (next_of dir k) ks l.2);
          extra = eqb-true _ x s.0;
          start = eqb-true _ at u.0;
          readable = t.0;
          entries = refl;
        },
        subst (λ (b : ℕ). AllByRecursion (Member x dir) (laid_from (at + b) (values_of x dir ks))) (sym (blocks_cleaned (entries_at x dir j)))
            (members n v (at + blocks_of (entries_at x dir j)) (next_of dir k) ks long a.1 l.2 s.1 t.1 u.1),
      )

-- how many outputs are open
pub settled : (x : ℕ) (dir ks : List ℕ) (at : ℕ) (o : Option Pending) → open_stands x dir ks o (all_placed x dir ks at) ≡ true
    → tentatives (all_placed x dir ks at) ≡ outputs o
settled x dir ks at None h = eqb-true _ 0 h
settled x dir ks at (Some p) h = eqb-true _ 1 (and_parts (eqb (tentatives (all_placed x dir ks at)) 1) _ h).0

pub stood : (dir : List ℕ) (at : ℕ) (o : Option Pending) → open_stands (word_at dir 6) dir (chain_of dir) o (all_placed (word_at dir 6) dir (chain_of dir) at) ≡ true
    → StandsOpen dir o
stood dir at None h = tt
stood dir at (Some p) h = (and_parts (eqb (tentatives (all_placed (word_at dir 6) dir (chain_of dir) at)) 1) _ h).1

pub sound_carries : (dir : List ℕ) (v : ℕ) (o : Option Pending) → 1024 * word_at dir 0 ≤ length dir → broken_rule dir v o ≡ 0 → Carries dir (value_of dir)
unfolding value_of
sound_carries dir v o long b =
    let r = rules dir v o b in
    let x : ℕ = word_at dir 6 in
    let h : ℕ = word_at dir 4 in
    let ks : List ℕ = chain_of dir in
    let g = along h (next_of dir) h 1 ks r.chain in
    let within = chain_inside h (next_of dir) h 1 ks r.chain in
    let e = and_parts (leb x 64) _ (and_parts (eqb (x % 2) 0) _ r.extra).1 in
    let most : h ≤ word_at dir 0 = leb-true h (word_at dir 0) (and_parts (leb 1 h) _ r.used).1 in
    record {
      total = refl;
      used = sym (length_values x dir ks ∙ g.long);
      extra = refl;
      members = members x dir h v (6 + 2 * word_at dir 0) 1 ks (omega (arith, most, long)) within g.links e.1 r.lawful r.contiguous;
    }

pub sound_is_lawful : SoundIsLawful
unfolding value_of
sound_is_lawful dir v o fit long b =
    let r = rules dir v o b in
    let x : ℕ = word_at dir 6 in
    let h : ℕ = word_at dir 4 in
    let ks : List ℕ = chain_of dir in
    let g = along h (next_of dir) h 1 ks r.chain in
    let within = chain_inside h (next_of dir) h 1 ks r.chain in
    let many : length (values_of x dir ks) ≡ h = length_values x dir ks ∙ g.long in
    let f = and_parts (leb 1 (word_at dir 0)) _ fit in
    let f' = and_parts (leb (word_at dir 0) 31) _ f.1 in
    let u = and_parts (leb 1 h) _ r.used in
    let e = and_parts (eqb (x % 2) 0) _ r.extra in
    let e' = and_parts (leb x 64) _ e.1 in
    let some : 1 ≤ h = leb-true 1 h u.0 in
    let most : h ≤ word_at dir 0 = leb-true h (word_at dir 0) u.1 in
    let lines = lines_chain x dir (6 + 2 * word_at dir 0) ks in (
      sound_carries dir v o long b,
      record {
        shaped =
            record {
              some_segments = leb-true 1 (word_at dir 0) f.0;
              few_segments = leb-true (word_at dir 0) 31 f'.0;
              fits = leb-true _ v f'.1;
              in_use = omega (arith, many, most);
              begins = first x dir (next_of dir) ks g.links (omega (arith, g.long, some));
              each_once =
                  subst (λ (m : ℕ). (k : ℕ) → meets k (values_of x dir ks) ≡ cond (leb 1 k && leb k m) 1 0) (sym many)
                  (to_each (values_of x dir ks) h
                  (λ k l. meets-times x dir (suc k) ks ∙ chain_once h (next_of dir) ks r.chain (suc k) (omega arith) (omega arith))
                  (inside x dir h ks within));
              even = eqb-true _ 0 e.0;
              small = leb-true x 64 e'.0;
            };
        room = rooms x dir ks r.lawful;
        settled = sym (tentatives_are _ _ lines) ∙ settled x dir ks (6 + 2 * word_at dir 0) o r.stands;
        filled = fills x dir v (6 + 2 * word_at dir 0) ks r.contiguous;
        named = well_to _ _ lines r.named;
        apart = apart_to _ _ lines r.apart;
      },
      stood dir (6 + 2 * word_at dir 0) o r.stands,
    )
