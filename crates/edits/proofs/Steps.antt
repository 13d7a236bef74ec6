-- One more segment, entry or place: the steps of a loop that looks for places and for the largest.
use Rattle.std.proofs.Common.{◌≡◌, ℕ, suc, ◌+◌, ◌<◌, ◌≤◌, Bool, cond, ltb, List, [], ◌∷◌, ◌++◌, length, Some, None, Option, sym, refl, ap, ◌∙◌, inl, inr, arith}
use Rattle.std.specs.List.{AllByRecursion}
use Rattle.std.proofs.lemmas.List.{append_assoc, append-nil}
use Rattle.std.proofs.ByRecursion.{All-append, All-weaker}
use Rattle.std.proofs.lemmas.Bool.{cases_Bool, lt-ltb, le-ltb, ltb-true, ltb-false}
use Rattle.volume.specs.declared.entry.Entry.{Entry}
use Rattle.edits.specs.Directories.{Segment}
use Rattle.edits.specs.Asks.{Place, size, places_in, places_from, first_of, larger, largest, others}
use Rattle.edits.specs.Choices.{Largest}
use Rattle.edits.proofs.Choices.{largest-first, others_are}

pub places_in_push : (p : Entry → Bool) (k i : ℕ) (es : List Entry) (e : Entry)
    → places_in p k i (es ++ e ∷ []) ≡ places_in p k i es ++ cond (p e) (record { segment = k; index = i + length es; entry = e } ∷ []) []
unfolding places_in
places_in_push p k i [] e =
    let n : i + 0 ≡ i = omega arith in
    rw n refl
places_in_push p k i (x ∷ es) e =
    let n : suc i + length es ≡ i + suc (length es) = omega arith in
    let h = places_in_push p k (suc i) es e
    ∙ ap (λ j. places_in p k (suc i) es ++ cond (p e) (record { segment = k; index = j; entry = e } ∷ []) []) n in
    elim (cases_Bool (p x)) [
      | inl y ↦ rw y (ap (λ ps. record { segment = k; index = i; entry = x } ∷ ps) h)
      | inr y ↦ rw y h
    ]

pub places_from_push : (p : Entry → Bool) (k : ℕ) (ss : List Segment) (s : Segment)
    → places_from p k (ss ++ s ∷ []) ≡ places_from p k ss ++ places_in p (k + length ss) 0 s.entries
unfolding places_from
places_from_push p k [] s = let n : k + 0 ≡ k = omega arith in rw n (append-nil (places_in p k 0 s.entries))
places_from_push p k (x ∷ ss) s =
    let n : suc k + length ss ≡ k + suc (length ss) = omega arith in
    ap (λ ps. places_in p k 0 x.entries ++ ps)
    (places_from_push p (suc k) ss s ∙ ap (λ j. places_from p (suc k) ss ++ places_in p j 0 s.entries) n)
    ∙ sym (append_assoc (places_in p k 0 x.entries) (places_from p (suc k) ss) (places_in p (k + suc (length ss)) 0 s.entries))

-- the first that passes, or else one more
abbrev pub or_else : Option Place → Option Place → Option Place
or_else None o = o
or_else (Some a) o = Some a

pub first_of_push : (p : Place → Bool) (ps : List Place) (a : Place) → first_of p (ps ++ a ∷ []) ≡ or_else (first_of p ps) (cond (p a) (Some a) None)
unfolding first_of
first_of_push p [] a = refl
first_of_push p (b ∷ ps) a =
    elim (cases_Bool (p b)) [
      | inl y ↦ rw y
      | inr y ↦ rw y (first_of_push p ps a)
    ]

-- the largest so far, and one more: it takes over only if it is larger
abbrev pub or_larger : Option Place → Place → Place
or_larger None a = a
or_larger (Some b) a = cond (ltb (size b) (size a)) a b

associates : (a b : Place) (o : Option Place) → larger b (Some (or_larger o a)) ≡ or_larger (Some (larger b o)) a
associates a b None = refl
associates a b (Some c) =
    elim (cases_Bool (ltb (size c) (size a))) [
      | inl ca ↦
          elim (cases_Bool (ltb (size b) (size c))) [
            | inl bc ↦
                let l : size b < size a = omega (arith, ltb-true (size c) (size a) ca, ltb-true (size b) (size c) bc) in
                rw (ca, bc, ca, lt-ltb (size b) (size a) l)
            | inr bc ↦ rw (ca, bc)
          ]
      | inr ca ↦
          elim (cases_Bool (ltb (size b) (size c))) [
            | inl bc ↦ rw (ca, bc, ca)
            | inr bc ↦
                let l : size a ≤ size b = omega (arith, ltb-false (size c) (size a) ca, ltb-false (size b) (size c) bc) in
                rw (ca, bc, le-ltb (size b) (size a) l)
          ]
    ]

pub largest_push : (ps : List Place) (a : Place) → largest (ps ++ a ∷ []) ≡ Some (or_larger (largest ps) a)
unfolding largest
largest_push [] a = refl
largest_push (b ∷ ps) a =
    ap (λ o. Some (larger b o)) (largest_push ps a) ∙ ap (λ p. Some p) (associates a b (largest ps))

-- the second largest
abbrev pub second_by : Option Place → List Place → Option Place
second_by None ps = None
second_by (Some a) ps = largest (others a ps)

unfoldable pub second : List Place → Option Place
second ps = second_by (largest ps) ps

-- a new largest: the old one comes second. Else the new place may come second
pub second_takes : (ps : List Place) (a b : Place) → largest ps ≡ Some b → size b < size a → second (ps ++ a ∷ []) ≡ Some b
unfolding second
second_takes ps a b h l =
    let w : Largest ps b = largest_is ps b h in
    let top : largest (ps ++ a ∷ []) ≡ Some a =
    largest_push ps a ∙ ap (λ o. Some (or_larger o a)) h ∙ ap (λ t. Some (cond t a b)) (lt-ltb (size b) (size a) l) in
    let less : AllByRecursion (λ c. size c < size a) ps =
    rw w.all (All-append (λ c. size c < size a) w.before (b ∷ w.after)
    (All-weaker (λ c. size c < size b) (λ c. size c < size a) (λ c k. omega (arith, k, l)) w.before w.shorter)
    (l, All-weaker (λ c. size c ≤ size b) (λ c. size c < size a) (λ c k. omega (arith, k, l)) w.after w.no_longer)) in
    ap (λ o. second_by o (ps ++ a ∷ [])) top ∙ (ap largest (others_are a ps [] less ∙ append-nil ps) ∙ h)
  where
    largest_is : (ps : List Place) (b : Place) → largest ps ≡ Some b → Largest ps b
    largest_is ps b h = rw h at (largest-first ps)

others_push : (b : Place) (before after : List Place) (a : Place) → AllByRecursion (λ c. size c < size b) before
    → others b ((before ++ b ∷ after) ++ a ∷ []) ≡ others b (before ++ b ∷ after) ++ a ∷ []
others_push b before after a h =
    ap (others b) (append_assoc before (b ∷ after) (a ∷ []))
    ∙ (others_are b before (after ++ a ∷ []) h
    ∙ (sym (append_assoc before after (a ∷ [])) ∙ ap (λ l. l ++ a ∷ []) (sym (others_are b before after h))))

pub second_keeps : (ps : List Place) (a b : Place) → largest ps ≡ Some b → size a ≤ size b
    → second (ps ++ a ∷ []) ≡ Some (or_larger (second ps) a)
unfolding second
second_keeps ps a b h l =
    let w : Largest ps b = rw h at (largest-first ps) in
    let top : largest (ps ++ a ∷ []) ≡ Some b =
    largest_push ps a ∙ ap (λ o. Some (or_larger o a)) h ∙ ap (λ t. Some (cond t a b)) (le-ltb (size b) (size a) l) in
    let same : others b (ps ++ a ∷ []) ≡ others b ps ++ a ∷ [] =
    rw w.all (others_push b w.before w.after a w.shorter) in
    ap (λ o. second_by o (ps ++ a ∷ [])) top
    ∙ (ap largest same ∙ (largest_push (others b ps) a ∙ ap (λ o. Some (or_larger (second_by o ps) a)) (sym h)))
