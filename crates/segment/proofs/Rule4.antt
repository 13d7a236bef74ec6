-- Rule 4: a chain of h segments of 1 to h that ends meets each exactly once.
use Rattle.std.proofs.Common.{◌≡◌, ℕ, zero, suc, ◌+◌, ◌<◌, ◌≤◌, Bool, true, false, cond, ◌||◌, eqb, ltb, List, [], ◌∷◌, length, is_some, Some, None, Decides, Option, sym, refl, ap, ◌∙◌, subst, ⊎_elim, arith}
use Rattle.std.specs.Option.{option_map}
use Rattle.std.specs.List.{AllByRecursion}
use Rattle.std.proofs.lemmas.Bool.{eq-eqb, ne_eqb, eqb-true, eqb-false, ltb-false, le-ltb, cases_eq, or_parts, or_from}
use Rattle.segment.specs.Chains.{chain_from}
use Rattle.segment.specs.Rule4.{Links, times, MeetsEachOnce, RuleFour}

some_of : (o : Option (List ℕ)) → is_some o ≡ true → (ks : List ℕ) × (o ≡ Some ks)
some_of None e = absurd (let z : ◌≡◌ {A = ℕ} 0 1 = cc in omega arith)
some_of (Some ks) e = (ks, refl)

behind : (k : ℕ) (r : Option (List ℕ)) (ks : List ℕ) → option_map (λ ys. k ∷ ys) r ≡ Some ks → (ys : List ℕ) × (r ≡ Some ys) × (k ∷ ys ≡ ks)
behind k None ks e = absurd (let z : ◌≡◌ {A = ℕ} 0 1 = cc in omega arith)
behind k (Some ys) ks e = (ys, refl, cc)

-- ---- how often a segment is met

times_same : (j k : ℕ) (ks : List ℕ) → j ≡ k → times j (k ∷ ks) ≡ 1 + times j ks
times_same j k ks e = rw (eq-eqb j k e)

times_other : (j k : ℕ) (ks : List ℕ) → (j ≡ k → ⊥) → times j (k ∷ ks) ≡ times j ks
times_other j k ks n = rw (ne_eqb j k n) (omega arith)

-- how often any of 1 to n is met
abbrev up_to : ℕ → List ℕ → ℕ
up_to zero ks = 0
up_to (suc n) ks = up_to n ks + times (suc n) ks

up_to_none : (n : ℕ) → up_to n [] ≡ 0
up_to_none zero = refl
up_to_none (suc n) = rw (up_to_none n) refl

up_to_above : (n k : ℕ) (ks : List ℕ) → n < k → up_to n (k ∷ ks) ≡ up_to n ks
up_to_above zero k ks h = refl
up_to_above (suc n) k ks h = omega (arith, up_to_above n k ks (omega arith), times_other (suc n) k ks (λ e. omega arith))

up_to_cons : (n k : ℕ) (ks : List ℕ) → 0 < k → k ≤ n → up_to n (k ∷ ks) ≡ 1 + up_to n ks
up_to_cons zero k ks l h = absurd (omega arith)
up_to_cons (suc n) k ks l h =
    ⊎_elim
    (λ (e : suc n ≡ k). omega (arith, up_to_above n k ks (omega arith), times_same (suc n) k ks e))
    (λ (e : suc n ≡ k → ⊥). omega (arith, up_to_cons n k ks l (omega arith), times_other (suc n) k ks e))
    (cases_eq (suc n) k)

module _ (h : ℕ) (next : ℕ → ℕ) where
  up_to_links : (k : ℕ) (ks : List ℕ) → Links next k ks → AllByRecursion (λ j. j ≤ h) ks → up_to h ks ≡ length ks
  up_to_links k [] l a = up_to_none h
  up_to_links k (j ∷ ks) l a =
      up_to_cons h j ks (omega (arith, l.0, l.1)) a.0 ∙ ap (λ n. 1 + n) (up_to_links (next k) ks l.2 a.1) ∙ omega arith

  length_links : (k : ℕ) (xs ys : List ℕ) → Links next k xs → Links next k ys → length xs ≡ length ys
  length_links k [] [] p q = refl
  length_links k [] (y ∷ ys) p q = absurd (omega (arith, q.1))
  length_links k (x ∷ xs) [] p q = absurd (omega (arith, p.1))
  length_links k (x ∷ xs) (y ∷ ys) p q = ap suc (length_links (next k) xs ys p.2 q.2)

  -- a segment that is met begins a chain of its own, no longer
  from-met : (j k : ℕ) (ks : List ℕ) → Links next k ks → 0 < times j ks → (ys : List ℕ) × Links next j ys × (length ys ≤ length ks)
  from-met j k [] l t = absurd (omega arith)
  from-met j k (i ∷ ks) l t =
      ⊎_elim
      (λ (e : j ≡ i). (i ∷ ks, subst (λ z. Links next z (i ∷ ks)) (sym (e ∙ l.0)) l, omega arith))
      (λ (e : j ≡ i → ⊥).
      let r = from-met j (next k) ks l.2 (omega (arith, times_other j i ks e)) in (r.0, r.1, omega (arith, r.2)))
      (cases_eq j i)

  at_most_once : (j k : ℕ) (ks : List ℕ) → Links next k ks → times j ks ≤ 1
  at_most_once j k [] l = omega arith
  at_most_once j k (i ∷ ks) l =
      ⊎_elim
      (λ (e : j ≡ i).
      ⊎_elim
      (λ (z : times j ks ≡ 0). omega (arith, times_same j i ks e))
      (λ (z : times j ks ≡ 0 → ⊥).
      let r = from-met j (next k) ks l.2 (omega arith) in
      let s : Links next j (i ∷ ks) = subst (λ z. Links next z (i ∷ ks)) (sym (e ∙ l.0)) l in
      absurd (omega (arith, length_links j r.0 (i ∷ ks) r.1 s, r.2)))
      (cases_eq (times j ks) 0))
      (λ (e : j ≡ i → ⊥). omega (arith, times_other j i ks e, at_most_once j (next k) ks l.2))
      (cases_eq j i)

  up_to_le : (n k : ℕ) (ks : List ℕ) → Links next k ks → up_to n ks ≤ n
  up_to_le zero k ks l = omega arith
  up_to_le (suc n) k ks l = omega (arith, up_to_le n k ks l, at_most_once (suc n) k ks l)

  each_once : (n k : ℕ) (ks : List ℕ) → Links next k ks → up_to n ks ≡ n → (j : ℕ) → 1 ≤ j → j ≤ n → times j ks ≡ 1
  each_once zero k ks l e j p q = absurd (omega arith)
  each_once (suc n) k ks l e j p q =
      ⊎_elim
      (λ (s : j ≡ suc n). ap (λ z. times z ks) s ∙ omega (arith, up_to_le n k ks l, at_most_once (suc n) k ks l))
      (λ (s : j ≡ suc n → ⊥). each_once n k ks l (omega (arith, up_to_le n k ks l, at_most_once (suc n) k ks l)) j p (omega arith))
      (cases_eq j (suc n))

  up_to_once : (n : ℕ) (ks : List ℕ) → ((j : ℕ) → 1 ≤ j → j ≤ n → times j ks ≡ 1) → up_to n ks ≡ n
  up_to_once zero ks f = refl
  up_to_once (suc n) ks f = omega (arith, up_to_once n ks (λ j p q. f j p (omega arith)), f (suc n) (omega arith) (omega arith))

  -- what is known of a chain that is found
  pub record Along (n k : ℕ) (ks : List ℕ) : Type 0 where
    pub links : Links next k ks
    pub long : length ks ≡ n
    pub below : AllByRecursion (λ j. j ≤ h) ks

  to_end : (b : Bool) (k : ℕ) (ks : List ℕ) → (b ≡ true → k ≡ 0) → cond b (Some []) None ≡ Some ks → Along 0 k ks
  to_end true k [] f e = record { links = f refl; long = refl; below = tt }
  to_end true k (j ∷ ks) f e = absurd (let z : ◌≡◌ {A = ℕ} 0 1 = cc in omega arith)
  to_end false k ks f e = absurd (let z : ◌≡◌ {A = ℕ} 0 1 = cc in omega arith)

  to_more : (b : Bool) (n k : ℕ) (r : Option (List ℕ)) (ks : List ℕ) → (b ≡ false → (0 < k) × (k ≤ h))
      → ((ys : List ℕ) → r ≡ Some ys → Along n (next k) ys) → cond b None (option_map (λ ys. k ∷ ys) r) ≡ Some ks → Along (suc n) k ks
  to_more true n k r ks f g e = absurd (let z : ◌≡◌ {A = ℕ} 0 1 = cc in omega arith)
  to_more false n k r ks f g e =
      let t = behind k r ks e in
      let w = g t.0 t.1 in
      subst (Along (suc n) k) t.2
      (record { links = (refl, (f refl).0, w.links); long = ap suc w.long; below = ((f refl).1, w.below) })

  pub along : (n k : ℕ) (ks : List ℕ) → chain_from n h next k ≡ Some ks → Along n k ks
  unfolding chain_from
  along zero k ks e = to_end (eqb k 0) k ks (eqb-true k 0) e
  along (suc n) k ks e =
      to_more (eqb k 0 || ltb h k) n k (chain_from n h next (next k)) ks
      (λ b. let t = or_parts (eqb k 0) (ltb h k) b in
      let z : k ≡ 0 → ⊥ = eqb-false k 0 t.0 in (omega arith, ltb-false h k t.1))
      (λ ys q. along n (next k) ys q) e

  pub from_links : (k : ℕ) (ks : List ℕ) → Links next k ks → AllByRecursion (λ j. j ≤ h) ks → chain_from (length ks) h next k ≡ Some ks
  unfolding chain_from
  from_links k [] l a = rw (eq-eqb k 0 l)
  from_links k (j ∷ ks) l a =
      let n : k ≡ 0 → ⊥ = λ e. omega (arith, l.1) in
      rw (or_from (eqb k 0) (ltb h k) (ne_eqb k 0 n) (le-ltb h k (omega (arith, l.0, a.0))), from_links (next k) ks l.2 a.1)
      (ap (λ z. Some (z ∷ ks)) (sym l.0))

  -- the segments of a chain that is found are of 1 to h
  above_none : (k : ℕ) (ks : List ℕ) → Links next k ks → AllByRecursion (λ j. j ≤ h) ks → AllByRecursion (λ j. (1 ≤ j) × (j ≤ h)) ks
  above_none k [] l a = tt
  above_none k (j ∷ ks) l a = ((omega (arith, l.0, l.1), a.0), above_none (next k) ks l.2 a.1)

  pub chain_inside : (n k : ℕ) (ks : List ℕ) → chain_from n h next k ≡ Some ks → AllByRecursion (λ j. (1 ≤ j) × (j ≤ h)) ks
  chain_inside n k ks e = let g = along n k ks e in above_none k ks g.links g.below

  -- and each is met once
  pub chain_once : (ks : List ℕ) → chain_from h h next 1 ≡ Some ks → (j : ℕ) → 1 ≤ j → j ≤ h → times j ks ≡ 1
  chain_once ks e = let g = along h 1 ks e in each_once h 1 ks g.links (up_to_links 1 ks g.links g.below ∙ g.long)

  decided : Decides (is_some (chain_from h h next 1)) (MeetsEachOnce h next)
  decided = (
    (λ e.
        let o = some_of (chain_from h h next 1) e in
        let g = along h 1 o.0 o.1 in (o.0, g.links, g.below, chain_once o.0 o.1)),
    (λ m.
        let n : length m.0 ≡ h = sym (up_to_links 1 m.0 m.1 m.2) ∙ up_to_once h m.0 m.3 in
        ap is_some (subst (λ z. chain_from z h next 1 ≡ Some m.0) n (from_links 1 m.0 m.1 m.2))),
  )

pub rule_four : RuleFour
rule_four h next = decided h next
