-- What each ask gets, by properties.
use Rattle.std.proofs.Common.{◌≡◌, ℕ, ◌<◌, ◌≤◌, eqb, ltb, leb, List, [], ◌∷◌, ◌++◌, Some, None, Option, sym, refl, ap, ◌∙◌, inl, inr, arith, MatchOption}
use Rattle.std.specs.List.{AllByRecursion}
use Rattle.std.specs.Option.{option_map}
use Rattle.std.proofs.ByRecursion.{All-append, All-weaker}
use Rattle.std.proofs.lemmas.Bool.{cond_both, eqb-true, eqb-false, leb-true, leb-false, ltb-true, ltb-false, eq-eqb, ne_eqb}
use Rattle.runfile.specs.declared.field.Ask.TheVariants.{Whole, Half, Exact}
use Rattle.edits.specs.Asks.{Place, size, first_of, larger, largest, others, giving, half_of, whole_of, half_or_second, half_from}
use Rattle.edits.specs.Choices.{FirstFit, Largest, Gets, GetsNone, AsksGet}

first_fit : (n : ℕ) (ps : List Place) → MatchOption (first_of (λ a. leb n (size a)) ps) (AllByRecursion (λ b. size b < n) ps) (FirstFit n ps)
unfolding first_of
first_fit n [] = tt
first_fit n (a ∷ ps) =
    cond_both (leb n (size a)) (Some a) (first_of (λ a. leb n (size a)) ps)
    (λ o. MatchOption o (AllByRecursion (λ b. size b < n) (a ∷ ps)) (FirstFit n (a ∷ ps)))
    (λ y. record { before = []; after = ps; all = refl; shorter = tt; enough = leb-true n (size a) y })
    (λ y. go (leb-false n (size a) y) (first_of (λ a. leb n (size a)) ps) (first_fit n ps))
  where
    go : size a < n → (o : Option Place) → MatchOption o (AllByRecursion (λ b. size b < n) ps) (FirstFit n ps)
        → MatchOption o (AllByRecursion (λ b. size b < n) (a ∷ ps)) (FirstFit n (a ∷ ps))
    go l None h = (l, h)
    go l (Some b) h =
        record { before = a ∷ h.before; after = h.after; all = ap (λ ps. a ∷ ps) h.all; shorter = (l, h.shorter); enough = h.enough }

pub largest-first : (ps : List Place) → MatchOption (largest ps) (ps ≡ []) (Largest ps)
unfolding largest
largest-first [] = refl
largest-first (a ∷ ps) = go (largest ps) (largest-first ps)
  where
    go : (o : Option Place) → MatchOption o (ps ≡ []) (Largest ps) → Largest (a ∷ ps) (larger a o)
    go None h = record { before = []; after = ps; all = refl; shorter = tt; no_longer = rw h tt }
    go (Some b) h =
        cond_both (ltb (size a) (size b)) b a (Largest (a ∷ ps))
        (λ y. record {
          before = a ∷ h.before;
          after = h.after;
          all = ap (λ ps. a ∷ ps) h.all;
          shorter = (ltb-true (size a) (size b) y, h.shorter);
          no_longer = h.no_longer;
        })
        (λ y.
        let l = ltb-false (size a) (size b) y in
        record {
          before = [];
          after = ps;
          all = refl;
          shorter = tt;
          no_longer =
              rw h.all (All-append (λ c. size c ≤ size a) h.before (b ∷ h.after)
              (All-weaker (λ c. size c < size b) (λ c. size c ≤ size a) (λ c k. omega (arith, k, l)) h.before h.shorter)
              (l, All-weaker (λ c. size c ≤ size b) (λ c. size c ≤ size a) (λ c k. omega (arith, k, l)) h.after h.no_longer));
        })

-- the others are those before and behind the largest
pub others_are : (a : Place) (before after : List Place) → AllByRecursion (λ b. size b < size a) before → others a (before ++ a ∷ after) ≡ before ++ after
unfolding others
others_are a [] after h = rw (eq-eqb (size a) (size a) refl)
others_are a (b ∷ before) after h =
    rw (ne_eqb (size a) (size b) (λ e. omega (arith, e, h.0))) (ap (λ ps. b ∷ ps) (others_are a before after h.1))

none-long : (ps : List Place) (a : Place) → Largest ps a → size a ≡ 0 → AllByRecursion (λ b. size b ≡ 0) ps
none-long ps a l z =
    rw l.all (All-append (λ b. size b ≡ 0) l.before (a ∷ l.after)
    (All-weaker (λ c. size c < size a) (λ c. size c ≡ 0) (λ c k. absurd (omega (arith, k, z))) l.before l.shorter)
    (z, All-weaker (λ c. size c ≤ size a) (λ c. size c ≡ 0) (λ c k. omega (arith, k, z)) l.after l.no_longer))

exact_gets : (n : ℕ) (ps : List Place) (o : Option Place) → MatchOption o (AllByRecursion (λ b. size b < n) ps) (FirstFit n ps)
    → MatchOption (option_map (giving n) o) (GetsNone (Exact n) ps) (Gets (Exact n) ps)
exact_gets n ps None h = h
exact_gets n ps (Some a) h = (h, refl)

whole_gets : (ps : List Place) (o : Option Place) → MatchOption o (ps ≡ []) (Largest ps) → MatchOption (whole_of o) (GetsNone Whole ps) (Gets Whole ps)
whole_gets ps None h = rw h tt
whole_gets ps (Some a) h =
    cond_both (eqb (size a) 0) None (Some (giving (size a) a)) (λ o. MatchOption o (GetsNone Whole ps) (Gets Whole ps))
    (λ y. none-long ps a h (eqb-true (size a) 0 y))
    (λ y. let n = eqb-false (size a) 0 y in (h, refl, omega arith))

half_gets : (ps : List Place) (a : Place) → Largest ps a → (size a ≡ 0 → ⊥) → (o : Option Place)
    → MatchOption o (others a ps ≡ []) (Largest (others a ps)) → Gets Half ps (half_or_second a o)
half_gets ps a l n o h =
    go o h
  where
    same : others a ps ≡ l.before ++ l.after
    same = ap (others a) l.all ∙ others_are a l.before l.after l.shorter

    go : (o : Option Place) → MatchOption o (others a ps ≡ []) (Largest (others a ps)) → Gets Half ps (half_or_second a o)
    go None h = (omega arith, inl (l, refl, rw (sym same ∙ h) tt))
    go (Some b) h =
        cond_both (ltb (half_of a) (size b)) (giving (size b) b) (giving (half_of a) a) (Gets Half ps)
        (λ y. let k = ltb-true (half_of a) (size b) y in
        (omega (arith, k), inr (a, record { largest = l; second = rw same at h }, refl, k)))
        (λ y.
        let k = ltb-false (half_of a) (size b) y in (
          omega arith,
          inl (
            l,
            refl,
            rw (sym same ∙ h.all) (All-append (λ c. size c ≤ half_of a) h.before (b ∷ h.after)
                (All-weaker (λ c. size c < size b) (λ c. size c ≤ half_of a) (λ c i. omega (arith, i, k)) h.before h.shorter)
                (k, All-weaker (λ c. size c ≤ size b) (λ c. size c ≤ half_of a) (λ c i. omega (arith, i, k)) h.after h.no_longer)),
          ),
        ))

half_from_gets : (ps : List Place) (o : Option Place) → MatchOption o (ps ≡ []) (Largest ps) → MatchOption (half_from o ps) (GetsNone Half ps) (Gets Half ps)
half_from_gets ps None h = rw h tt
half_from_gets ps (Some a) h =
    cond_both (eqb (size a) 0) None (Some (half_or_second a (largest (others a ps)))) (λ o. MatchOption o (GetsNone Half ps) (Gets Half ps))
    (λ y. none-long ps a h (eqb-true (size a) 0 y))
    (λ y. half_gets ps a h (eqb-false (size a) 0 y) (largest (others a ps)) (largest-first (others a ps)))

pub asks_get : AsksGet
asks_get Whole ps = whole_gets ps (largest ps) (largest-first ps)
asks_get Half ps = half_from_gets ps (largest ps) (largest-first ps)
asks_get (Exact n) ps = exact_gets n ps (first_of (λ a. leb n (size a)) ps) (first_fit n ps)
