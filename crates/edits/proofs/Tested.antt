-- The test of lawfulness decides it; INITIALIZE's directory; the files as a list.
use Rattle.std.proofs.Common.{◌≡◌, ℕ, zero, suc, ◌+◌, ◌-◌, ◌*◌, ◌%◌, ◌<◌, ◌≤◌, Bool, true, false, cond, not, ◌&&◌, eqb, leb, ◌⊎◌, List, [], ◌∷◌, length, Decides, sym, refl, ap, ◌∙◌, inl, inr, arith}
use Rattle.std.specs.Option.{option_map}
use Rattle.std.specs.List.{AllByRecursion}
use Rattle.std.proofs.ByRecursion.{All-weaker, Decides-by_and}
use Rattle.std.proofs.lemmas.Bool.{cond_both, cases_Bool, cases_lt, leb-true, le-leb, eq-eqb, eqb-true, ne_eqb, false≢true, and_left, and_from}
use Rattle.std.proofs.lemmas.Bool.Decides.{nat_tests, Decides-and, Decides-or, Decides-not, Decides-eqb, Decides-like, Decides-below_and}
use Rattle.volume.specs.declared.entry.Status.{Status}
use Rattle.volume.specs.declared.entry.Status.TheVariants.{Tentative, Empty, Permanent, Protected}
use Rattle.codec.specs.declared.name.Name.{Name}
use Rattle.volume.specs.declared.entry.Entry.{Entry}
use Rattle.edits.specs.Entries.{file_status, empty_status, tentative_status, is_file, is_tentative, is_named, is_misnamed, same_name, empty_of, blocks_of, count, standing}
use Rattle.edits.specs.Directories.{Segment, Directory, highest, capacity_of, flat, entries_of, first_block, Begins, meets, file_of, files_from, free_of, Shaped}
use Rattle.edits.specs.Tested.{every, up_to, begins, chained, shaped_well, alone, lawful, LawfulDecided, initial, InitialLawful, first_named, used_by, FilesListed, UsedAndFree}
use Rattle.edits.proofs.Counts.{one, blocks_nil, blocks_cons, count-nil, count-cons, count_yes, count_no, count_head, standing-none}
use Rattle.edits.proofs.Named.{named_name, file-alone}
use Rattle.edits.proofs.Split.{capacity_large}

decides_leb : (a b : ℕ) → Decides (leb a b) (a ≤ b)
decides_leb a b = (leb-true a b, le-leb a b)

decides_every : {X : Type 0} (p : X → Bool) (P : X → Type 0) → ((x : X) → Decides (p x) (P x)) → (xs : List X) → Decides (every p xs) (AllByRecursion P xs)
decides_every p P e xs = Decides-by_and p P (every p) e refl (λ _ _. refl) xs

-- each element is counted among them
each_counted : {X : Type 0} (q : X → X → Bool) → ((x : X) → q x x ≡ true) → (xs : List X) → AllByRecursion (λ x. 1 ≤ count (q x) xs) xs
each_counted q r [] = tt
each_counted q r (x ∷ xs) = (
  omega (arith, count_yes (q x) x xs (r x)),
  All-weaker (λ y. 1 ≤ count (q y) xs) (λ y. 1 ≤ count (q y) (x ∷ xs))
      (λ y h. omega (arith, h, count-cons (q y) x xs)) xs (each_counted q r xs),
)

-- where some pass, one does
pub one_passes : {X : Type 0} (P : X → Type 0) (p : X → Bool) (xs : List X) → AllByRecursion P xs → 1 ≤ count p xs → (x : X) × P x × (p x ≡ true)
one_passes P p [] a h = absurd (omega (arith, h, count-nil p))
one_passes P p (x ∷ xs) a h =
    elim (cases_Bool (p x)) [
      | inl y ↦ (x, a.0, y)
      | inr y ↦ one_passes P p xs a.1 (omega (arith, h, count_no p x xs y))
    ]

decides_begins : (k : ℕ) (ss : List Segment) → Decides (begins k ss) (Begins k ss)
decides_begins k [] = (λ h. absurd (false≢true h), λ h. absurd h)
decides_begins k (s ∷ ss) = Decides-eqb s.number k

-- the chain meets each of 1 to h once and no other
module _ (ss : List Segment) (h : ℕ) where
  abbrev pub Inside : Segment → Type 0
  Inside s = (1 ≤ s.number) × (s.number ≤ h)

  abbrev pub EachOnce : Type 0
  EachOnce = (k : ℕ) → meets k ss ≡ cond (leb 1 k && leb k h) 1 0

  not_met : (k : ℕ) → ((1 ≤ k) × (k ≤ h) → ⊥) → (us : List Segment) → AllByRecursion Inside us → meets k us ≡ 0
  not_met k out [] a = count-nil (λ s. eqb s.number k)
  not_met k out (s ∷ us) a =
      count_no (λ s. eqb s.number k) s us
      (ne_eqb s.number k (λ e. out (omega (arith, e, a.0.0), omega (arith, e, a.0.1))))
      ∙ not_met k out us a.1

  within : (k : ℕ) → 1 ≤ k → k ≤ h → one (leb 1 k && leb k h) ≡ 1
  within k a b = rw (le-leb 1 k a, le-leb k h b)

  outside : (k : ℕ) → ((1 ≤ k) × (k ≤ h) → ⊥) → one (leb 1 k && leb k h) ≡ 0
  outside k out =
      cond_both (leb 1 k && leb k h) 1 0 (λ n. n ≡ 0)
      (λ y. let p = Rattle.std.proofs.lemmas.Bool.and_parts (leb 1 k) (leb k h) y in
      absurd (out (leb-true 1 k p.0, leb-true k h p.1)))
      (λ _. refl)

  pub to_each : ((k : ℕ) → k < h → meets (suc k) ss ≡ 1) → AllByRecursion Inside ss → EachOnce
  to_each m a zero = not_met zero (λ p. omega (arith, p.0)) ss a ∙ sym (outside zero (λ p. omega (arith, p.0)))
  to_each m a (suc k) =
      elim (cases_lt k h) [
        | inl l ↦ m k l ∙ sym (within (suc k) (omega arith) (omega arith))
        | inr l ↦ not_met (suc k) (λ p. omega (arith, p.1)) ss a ∙ sym (outside (suc k) (λ p. omega (arith, p.1)))
      ]

  pub from_each : EachOnce → AllByRecursion Inside ss
  from_each e =
      All-weaker (λ s. 1 ≤ meets s.number ss) Inside
      (λ s m. elim (cases_Bool (leb 1 s.number && leb s.number h)) [
        | inl y ↦
            let p = Rattle.std.proofs.lemmas.Bool.and_parts (leb 1 s.number) (leb s.number h) y in
            (leb-true 1 s.number p.0, leb-true s.number h p.1)
        | inr y ↦ absurd (omega (arith, m, e s.number, ap (λ b. one b) y))
      ])
      ss (each_counted (λ x s. eqb s.number x.number) (λ x. eq-eqb x.number x.number refl) ss)

  decides_each : Decides (up_to (λ k. eqb (meets k ss) 1) h && every (λ s. leb 1 s.number && leb s.number h) ss) EachOnce
  decides_each =
      Decides-like (up_to (λ k. eqb (meets k ss) 1) h && every (λ s. leb 1 s.number && leb s.number h) ss)
      (λ p. to_each p.0 p.1)
      (λ e. (λ k l. e (suc k) ∙ within (suc k) (omega arith) (omega arith), from_each e))
      (Decides-and (up_to (λ k. eqb (meets k ss) 1) h) (every (λ s. leb 1 s.number && leb s.number h) ss)
      (Decides-below_and (λ k. eqb (meets (suc k) ss) 1) (λ k. meets (suc k) ss ≡ 1) (up_to (λ k. eqb (meets k ss) 1))
      (λ k. Decides-eqb (meets (suc k) ss) 1) refl (λ _. refl) h)
      (decides_every (λ s. leb 1 s.number && leb s.number h) Inside
      (λ s. Decides-and (leb 1 s.number) (leb s.number h) (decides_leb 1 s.number) (decides_leb s.number h)) ss))

-- no two files have one name
decides_apart : (es : List Entry) → Decides (every (alone es) es) ((n : Name) → count (is_named n) es ≤ 1)
decides_apart es =
    let P = λ (e : Entry). ((is_file e ≡ true → ⊥) ⊎ (count (is_named e.name) es ≤ 1)) in
    Decides-like (every (alone es) es)
    (λ a n. elim (cases_lt 1 (count (is_named n) es)) [
      | inl l ↦
          let f = one_passes P (is_named n) es a (omega arith) in
          let e = f.0 in
          elim f.1 [
            | inl no_file ↦ absurd (no_file (Rattle.edits.proofs.Named.named_file n e f.2))
            | inr few ↦ omega (arith, few, ap (λ n. count (is_named n) es) (named_name n e f.2))
          ]
      | inr l ↦ l
    ])
    (λ h. all_of P (λ e. inr (h e.name)) es)
    (decides_every (alone es) P
    (λ e. Decides-or (not (is_file e)) (leb (count (is_named e.name) es) 1)
    (Decides-not (is_file e) ((λ x. x), (λ x. x))) (decides_leb (count (is_named e.name) es) 1)) es)
  where
    all_of : {X : Type 0} (P : X → Type 0) → ((x : X) → P x) → (xs : List X) → AllByRecursion P xs
    all_of P f [] = tt
    all_of P f (x ∷ xs) = (f x, all_of P f xs)

decides_shaped : (v : ℕ) (d : Directory) → Decides (shaped_well v d) (Shaped v d)
decides_shaped v d =
    let ss = d.segments in
    let h = highest d in
    let each = up_to (λ k. eqb (meets k ss) 1) h && every (λ s. leb 1 s.number && leb s.number h) ss in
    let sized = leb 1 d.total && (leb d.total 31 && leb (7 + 2 * d.total) v) in
    let used = leb h d.total && (chained d && (eqb (d.extra % 2) 0 && leb d.extra 64)) in
    Decides-like (shaped_well v d)
    (λ p. record {
      some_segments = p.0.0;
      few_segments = p.0.1.0;
      fits = p.0.1.1;
      in_use = p.1.0;
      begins = p.1.1.0.0;
      each_once = p.1.1.0.1;
      even = p.1.1.1.0;
      small = p.1.1.1.1;
    })
    (λ s. ((s.some_segments, (s.few_segments, s.fits)), (s.in_use, ((s.begins, s.each_once), (s.even, s.small)))))
    (Decides-and sized used
    (Decides-and (leb 1 d.total) (leb d.total 31 && leb (7 + 2 * d.total) v) (decides_leb 1 d.total)
    (Decides-and (leb d.total 31) (leb (7 + 2 * d.total) v) (decides_leb d.total 31) (decides_leb (7 + 2 * d.total) v)))
    (Decides-and (leb h d.total) (chained d && (eqb (d.extra % 2) 0 && leb d.extra 64)) (decides_leb h d.total)
    (Decides-and (chained d) (eqb (d.extra % 2) 0 && leb d.extra 64)
    (Decides-and (begins 1 ss) each (decides_begins 1 ss) (decides_each ss h))
    (Decides-and (eqb (d.extra % 2) 0) (leb d.extra 64) (Decides-eqb (d.extra % 2) 0) (decides_leb d.extra 64)))))

pub lawful-decided : LawfulDecided
lawful-decided outputs v d =
    let es = entries_of d in
    let c = capacity_of d.extra in
    let five = eqb (count is_misnamed es) 0 && every (alone es) es in
    let four = eqb (first_block d + blocks_of es) v && five in
    let three = eqb (count is_tentative es) outputs && four in
    let two = every (λ s. leb (length s.entries) c) d.segments && three in
    Decides-like (lawful outputs v d)
    (λ p. record { shaped = p.0; room = p.1.0; settled = p.1.1.0; filled = p.1.1.1.0; named = p.1.1.1.1.0; apart = p.1.1.1.1.1 })
    (λ l. (l.shaped, (l.room, (l.settled, (l.filled, (l.named, l.apart))))))
    (Decides-and (shaped_well v d) two (decides_shaped v d)
    (Decides-and (every (λ s. leb (length s.entries) c) d.segments) three
    (decides_every (λ s. leb (length s.entries) c) (λ s. length s.entries ≤ c) (λ s. decides_leb (length s.entries) c) d.segments)
    (Decides-and (eqb (count is_tentative es) outputs) four (Decides-eqb (count is_tentative es) outputs)
    (Decides-and (eqb (first_block d + blocks_of es) v) five (Decides-eqb (first_block d + blocks_of es) v)
    (Decides-and (eqb (count is_misnamed es) 0) (every (alone es) es) (Decides-eqb (count is_misnamed es) 0) (decides_apart es))))))

pub initial-lawful : InitialLawful
unfolding flat free_of
initial-lawful s v a b c =
    let e = empty_of (v - (6 + 2 * s)) in
    let none : (q : Entry → Bool) → q e ≡ false → count q (e ∷ []) ≡ 0 = λ q h. count_no q e [] h ∙ count-nil q in
    let d = initial s v in (
      record {
        shaped =
            record {
              some_segments = a;
              few_segments = b;
              fits = c;
              in_use = a;
              begins = refl;
              each_once = λ k.
                  count-cons (λ s. eqb s.number k) (record { number = 1; entries = e ∷ [] }) []
                  ∙ (ap (λ n. one (eqb 1 k) + n) (count-nil (λ s. eqb s.number k)) ∙ only k);
              even = refl;
              small = omega arith;
            };
        room = (omega (arith, capacity_large 0 (omega arith)), tt);
        settled = none is_tentative refl;
        filled = omega (arith, blocks_cons e [], blocks_nil);
        named = none is_misnamed refl;
        apart = λ n. omega (arith, none (is_named n) refl);
      },
      λ m. ap (option_map file_of) (standing-none (is_named m) (first_block d) (e ∷ []) (none (is_named m) refl)),
      omega arith,
    )
  where
    only : (k : ℕ) → one (eqb 1 k) + 0 ≡ cond (leb 1 k && leb k 1) 1 0
    only k = grind (arith, nat_tests)

listed : (n : Name) (at : ℕ) (es : List Entry) → option_map file_of (standing (is_named n) at es) ≡ first_named n (files_from at es)
unfolding standing first_named files_from
listed n at [] = refl
listed n at (e ∷ es) =
    let h = listed n (at + e.length) es in
    elim (cases_Bool (is_file e)) [
      | inl y ↦
          rw y (elim (cases_Bool (same_name n e.name)) [
            | inl z ↦ rw z
            | inr z ↦ rw z h
          ])
      | inr y ↦ rw y h
    ]

pub files-listed : FilesListed
files-listed d n = listed n (first_block d) (entries_of d)

left_status : (s : Status) → file_status s ≡ false → tentative_status s ≡ false → empty_status s ≡ true
left_status Tentative h t = absurd (false≢true (sym t))
left_status Empty h t = refl
left_status Permanent h t = absurd (false≢true (sym h))
left_status Protected h t = absurd (false≢true (sym h))

shared : (at : ℕ) (es : List Entry) → count is_tentative es ≡ 0 → used_by (files_from at es) + free_of es ≡ blocks_of es
unfolding used_by files_from free_of
shared at [] h = sym blocks_nil
shared at (e ∷ es) h =
    let t = count_head is_tentative e es h in
    let i = shared (at + e.length) es (sym (count_no is_tentative e es t) ∙ h) in
    elim (cases_Bool (is_file e)) [
      | inl y ↦ rw (y, (file-alone e.status y).1) (omega (arith, i, blocks_cons e es))
      | inr y ↦ rw (y, left_status e.status y t) (omega (arith, i, blocks_cons e es))
    ]

pub used_and_free : UsedAndFree
used_and_free v d l = omega (arith, shared (first_block d) (entries_of d) l.settled, l.filled)
