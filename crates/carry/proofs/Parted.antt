-- One segment of a directory parted in two.
use Rattle.std.proofs.Common.{◌≡◌, ℕ, zero, suc, ◌+◌, ◌<◌, ◌≤◌, ◌⊎◌, List, [], ◌∷◌, ◌++◌, length, take, drop, sym, refl, ap, ◌∙◌, subst, inl, inr, arith}
use Rattle.std.specs.List.{AllByRecursion}
use Rattle.std.proofs.lemmas.List.{length-take-le}
use Rattle.std.proofs.ByRecursion.{All-append, All-take, All-drop}
use Rattle.segment.specs.Directories.{Segment, Directory}
use Rattle.directory.specs.Walks.{blocks_of}
use Rattle.edits.specs.Directories.{highest, first_block, Begins, Shaped}
use Rattle.edits.specs.Laid.{Laid, laid_from, laid}
use Rattle.edits.proofs.Tested.{from_each}
use Rattle.carry.specs.Carries.{Member, Carries, imaged}
use Rattle.carry.specs.Writes.{Fits, Among, no_segment, at_places, split_places, PartedCarries}
use Rattle.carry.proofs.Writes.{written_carries}
use Rattle.carry.proofs.Altered.{here, others, once, length-laid, at_place}

laid_all : (Q : ℕ → Type 0) (at : ℕ) (ss : List Segment) → AllByRecursion (λ s. Q s.number) ss → AllByRecursion (λ m. Q m.number) (laid_from at ss)
unfolding laid_from
laid_all Q at [] a = tt
laid_all Q at (s ∷ ss) a = (a.0, laid_all Q (at + blocks_of s.entries) ss a.1)

pub first_number : (d : Directory) → Begins 1 d.segments → (here 0 (laid d)).number ≡ 1
unfolding laid_from
first_number d b = go d.segments b
  where
    go : (ss : List Segment) → Begins 1 ss → (here 0 (laid_from (first_block d) ss)).number ≡ 1
    go [] h = absurd h
    go (s ∷ ss) h = h

next_place : (k : ℕ) (before : List Laid) (one two : Laid) (after : List Laid) → length before ≡ k → here (suc k) (before ++ one ∷ two ∷ after) ≡ two
next_place k [] one two after h = ap (λ n. here (suc n) (one ∷ two ∷ after)) (sym h)
next_place zero (m ∷ before) one two after h = absurd (omega arith)
next_place (suc k) (m ∷ before) one two after h = next_place k before one two after (omega arith)

front : (ms : List Laid) → 0 < length ms → ms ≡ here 0 ms ∷ drop 1 ms
front [] h = absurd (omega arith)
front (m ∷ ms) h = refl

drop-one : (k : ℕ) (ms : List Laid) → drop k (drop 1 ms) ≡ drop (suc k) ms
drop-one zero [] = refl
drop-one (suc k) [] = refl
drop-one k (m ∷ ms) = refl

module _ (dir : List ℕ) (d new : Directory) (one two : Laid) (v : ℕ) (c : Carries dir d) (s : Shaped v d)
    (t : new.total ≡ d.total) (x : new.extra ≡ d.extra) where
  abbrev ms : List Laid
  ms = laid d

  members : AllByRecursion (Member new.extra dir) (laid d)
  members = subst (λ (z : ℕ). AllByRecursion (Member z dir) (laid d)) (sym x) c.members

  below : AllByRecursion (λ m. m.number ≤ highest d) (laid d)
  below = laid_all (λ n. n ≤ highest d) (first_block d) d.segments (each d.segments (from_each d.segments (highest d) s.each_once))
    where
      each : (ss : List Segment) → AllByRecursion (λ z. (1 ≤ z.number) × (z.number ≤ highest d)) ss → AllByRecursion (λ z. z.number ≤ highest d) ss
      each [] a = tt
      each (z ∷ ss) a = (a.0.1, each ss a.1)

  long : length (laid d) ≡ length d.segments
  long = length-laid (first_block d) d.segments

  -- the first segment
  module _ (h : 0 < length d.segments) (n₁ : one.number ≡ (here 0 (laid d)).number) (n₂ : two.number ≡ suc (highest d))
      (l : laid new ≡ one ∷ two ∷ drop 1 (laid d)) (f : AllByRecursion (Fits (length dir) new.extra) (one ∷ two ∷ [])) where
    abbrev Either : Laid → Type 0
    Either m = Among (one ∷ two ∷ []) m ⊎ (AllByRecursion (λ w. w.number ≡ m.number → ⊥) (one ∷ two ∷ []) × Member new.extra dir m)

    kept : (ls : List Laid) → AllByRecursion (λ m. (here 0 (laid d)).number ≡ m.number → ⊥) ls → AllByRecursion (λ m. m.number ≤ highest d) ls → AllByRecursion (Member new.extra dir) ls
        → AllByRecursion (λ m. Among (one ∷ two ∷ []) m ⊎ (AllByRecursion (λ w. w.number ≡ m.number → ⊥) (one ∷ two ∷ []) × Member new.extra dir m)) ls
    kept [] a b e = tt
    kept (m ∷ ls) a b e =
        (inr (((λ q. a.0 (sym n₁ ∙ q)), ((λ q. omega (arith, n₂, b.0)), tt)), e.0), kept ls a.1 b.1 e.1)

    pub first-parted : Carries (imaged dir new (one ∷ two ∷ [])) new
    first-parted =
        let o = others 0 (laid d) (omega (arith, h, long)) (once v d s) in
        let first : (here 0 (laid d)).number ≡ 1 = first_number d s.begins in
        let low : (here 0 (laid d)).number ≤ highest d = omega (arith, first, h) in
        written_carries dir d new (one ∷ two ∷ []) c t x f
        (((λ q. omega (arith, n₁, n₂, low)), tt), (tt, tt))
        (inl (one, inl refl, n₁ ∙ first))
        (subst (AllByRecursion Either) (sym l) (
          inl (inl refl),
          (
            inl (inr (inl refl)),
            kept (drop 1 (laid d)) o.1 (All-drop (λ m. m.number ≤ highest d) 1 (laid d) below) (All-drop (Member new.extra dir) 1 (laid d) members),
          ),
        ))

  -- another one
  module _ (j : ℕ) (h : suc j < length d.segments) (n₁ : one.number ≡ (here (suc j) (laid d)).number) (n₂ : two.number ≡ suc (highest d))
      (l : laid new ≡ here 0 (laid d) ∷ (take j (drop 1 (laid d)) ++ one ∷ two ∷ drop (suc (suc j)) (laid d)))
      (f : AllByRecursion (Fits (length dir) new.extra) (one ∷ two ∷ here 0 (laid d) ∷ [])) where
    abbrev Third : Laid → Type 0
    Third m =
        Among (one ∷ two ∷ here 0 (laid d) ∷ []) m
        ⊎ (AllByRecursion (λ w. w.number ≡ m.number → ⊥) (one ∷ two ∷ here 0 (laid d) ∷ []) × Member new.extra dir m)

    thirds : (ls : List Laid) → AllByRecursion (λ m. (here (suc j) (laid d)).number ≡ m.number → ⊥) ls → AllByRecursion (λ m. (here 0 (laid d)).number ≡ m.number → ⊥) ls
        → AllByRecursion (λ m. m.number ≤ highest d) ls → AllByRecursion (Member new.extra dir) ls
        → AllByRecursion (λ m. Among (one ∷ two ∷ here 0 (laid d) ∷ []) m
        ⊎ (AllByRecursion (λ w. w.number ≡ m.number → ⊥) (one ∷ two ∷ here 0 (laid d) ∷ []) × Member new.extra dir m)) ls
    thirds [] a z b e = tt
    thirds (m ∷ ls) a z b e =
        (inr (((λ q. a.0 (sym n₁ ∙ q)), ((λ q. omega (arith, n₂, b.0)), (z.0, tt))), e.0), thirds ls a.1 z.1 b.1 e.1)

    pub later_parted : Carries (imaged dir new (one ∷ two ∷ here 0 (laid d) ∷ [])) new
    later_parted =
        let g : suc j < length (laid d) = omega (arith, h, long) in
        let some : 0 < length (laid d) = omega (arith, g) in
        let o = others (suc j) (laid d) g (once v d s) in
        let z = (others 0 (laid d) some (once v d s)).1 in
        let first : (here 0 (laid d)).number ≡ 1 = first_number d s.begins in
        let low : (here (suc j) (laid d)).number ≤ highest d = Rattle.std.proofs.ByRecursion.All-get_or (λ m. m.number ≤ highest d) (laid d) (suc j) no_segment g below in
        let P : (Laid → Type 0) → Type 0 = λ Q. AllByRecursion Q (take (suc j) (laid d)) in
        let cut : take (suc j) (laid d) ≡ here 0 (laid d) ∷ take j (drop 1 (laid d)) = ap (take (suc j)) (front (laid d) some) in
        let apart : AllByRecursion (λ m. (here (suc j) (laid d)).number ≡ m.number → ⊥) (here 0 (laid d) ∷ take j (drop 1 (laid d)))
        = subst (AllByRecursion (λ m. (here (suc j) (laid d)).number ≡ m.number → ⊥)) cut o.0 in
        let behind : (Q : Laid → Type 0) → AllByRecursion Q (drop 1 (laid d)) → AllByRecursion Q (drop (suc (suc j)) (laid d))
        = λ Q a. subst (AllByRecursion Q) (drop-one (suc j) (laid d)) (All-drop Q (suc j) (drop 1 (laid d)) a) in
        let b1 = All-drop (λ m. m.number ≤ highest d) 1 (laid d) below in
        let m1 = All-drop (Member new.extra dir) 1 (laid d) members in
        written_carries dir d new (one ∷ two ∷ here 0 (laid d) ∷ []) c t x f
        (((λ q. omega (arith, n₁, n₂, low)), ((λ q. apart.0 (sym n₁ ∙ sym q)), tt)), (((λ q. omega (arith, first, n₂, h)), tt), (tt, tt)))
        (inl (here 0 (laid d), inr (inr (inl refl)), first))
        (subst (AllByRecursion Third) (sym l) (
          inl (inr (inr (inl refl))),
          All-append Third (take j (drop 1 (laid d))) (one ∷ two ∷ drop (suc (suc j)) (laid d))
              (thirds (take j (drop 1 (laid d))) apart.1 (All-take (λ m. (here 0 (laid d)).number ≡ m.number → ⊥) j (drop 1 (laid d)) z)
              (All-take (λ m. m.number ≤ highest d) j (drop 1 (laid d)) b1) (All-take (Member new.extra dir) j (drop 1 (laid d)) m1)) (
                inl (inl refl),
                (
                  inl (inr (inl refl)),
                  thirds (drop (suc (suc j)) (laid d)) o.1 (behind (λ m. (here 0 (laid d)).number ≡ m.number → ⊥) z)
                      (behind (λ m. m.number ≤ highest d) b1) (behind (Member new.extra dir) m1),
                ),
              ),
        ))

-- where the written segments stand
places-first : (ls : List Laid) (ms : List Laid) (one two : Laid) → ls ≡ one ∷ two ∷ ms → at_places ls (split_places 0) ≡ one ∷ two ∷ []
places-first ls ms one two e = ap (λ z. at_places z (split_places 0)) e

places_later : (j : ℕ) (ls : List Laid) (m : Laid) (before after : List Laid) (one two : Laid) → length before ≡ j → ls ≡ m ∷ (before ++ one ∷ two ∷ after)
    → at_places ls (split_places (suc j)) ≡ one ∷ two ∷ m ∷ []
places_later j ls m before after one two h e =
    ap (λ z. at_places z (split_places (suc j))) e
    ∙ (ap (λ w. w ∷ here (suc j) (before ++ one ∷ two ∷ after) ∷ m ∷ []) (at_place j before one (two ∷ after) h)
    ∙ ap (λ w. one ∷ w ∷ m ∷ []) (next_place j before one two after h))

pub parted_carries : PartedCarries
parted_carries dir d new zero one two v c s h t x l n₁ n₂ f =
    let e = places-first (laid new) (drop 1 (laid d)) one two l in
    subst (λ (ws : List Laid). Carries (imaged dir new ws) new) (sym e)
    (first-parted dir d new one two v c s t x h n₁ n₂ l (subst (AllByRecursion (Fits (length dir) new.extra)) e f))
parted_carries dir d new (suc j) one two v c s h t x l n₁ n₂ f =
    let some : 0 < length (laid d) = omega (arith, h, length-laid (first_block d) d.segments) in
    let l' : laid new ≡ here 0 (laid d) ∷ (take j (drop 1 (laid d)) ++ one ∷ two ∷ drop (suc (suc j)) (laid d))
    = l ∙ ap (λ z. take (suc j) z ++ one ∷ two ∷ drop (suc (suc j)) (laid d)) (front (laid d) some) in
    let short : j ≤ length (drop 1 (laid d)) = omega (arith, h, length-laid (first_block d) d.segments, ap length (front (laid d) some)) in
    let e = places_later j (laid new) (here 0 (laid d)) (take j (drop 1 (laid d))) (drop (suc (suc j)) (laid d)) one two (length-take-le j (drop 1 (laid d)) short) l' in
    subst (λ (ws : List Laid). Carries (imaged dir new ws) new) (sym e)
    (later_parted dir d new one two v c s t x j h n₁ n₂ l' (subst (AllByRecursion (Fits (length dir) new.extra)) e f))
