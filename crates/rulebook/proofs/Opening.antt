-- Rule 6: tentative entries, and those of an open output.
use Rattle.std.proofs.Common.{◌≡◌, ℕ, zero, suc, ◌+◌, ◌*◌, ◌<◌, ◌≤◌, Bool, true, false, cond, not, ◌&&◌, eqb, leb, List, [], ◌∷◌, length, get_or, Some, None, Decides, Option, sym, refl, ap, ◌∙◌, arith}
use Rattle.std.proofs.ByRecursion.{All-get_or, All-from_get_or, Decides-by_and}
use Rattle.std.proofs.lemmas.Bool.{eq-eqb, ne_eqb, eqb-true, not-true, true≢false, false≢true}
use Rattle.std.proofs.lemmas.Bool.Decides.{Decides-and, Decides-not, Decides-like, Decides-eqb, Decides-by_or}
use Rattle.volume.specs.declared.entry.Entry.{Entry}
use Rattle.volume.specs.declared.entry.Status.{Status}
use Rattle.volume.specs.declared.entry.Status.TheVariants.{Tentative, Empty, Permanent, Protected}
use Rattle.volume.specs.Segments.{capacity_of}
use Rattle.segment.specs.Segments.{entry_start, segment_entries}
use Rattle.segment.specs.Chains.{segment_at}
use Rattle.segment.proofs.Walks.{segment_few}
use Rattle.directory.specs.declared.placed.Placed.{Placed}
use Rattle.directory.specs.Finds.{tentative_status, is_tentative, tentatives}
use Rattle.directory.specs.Rules.{meets, same_bytes, two_in, two_stand}
use Rattle.directory.proofs.Tests.{same_decided}
use Rattle.rulebook.specs.Entries.{NoneTentative, OneTentative, TwoStand, RuleSixStatuses}
use Rattle.rulebook.proofs.Deciding.{decides_leb}
use Rattle.rulebook.proofs.Listing.{read_stand, stand_read}

-- ---- none

tentative_decided : (s : Status) → Decides (tentative_status s) (s ≡ Tentative)
tentative_decided Tentative = (λ _. refl, λ _. refl)
tentative_decided Empty = (λ e. absurd (false≢true e), λ e. cc)
tentative_decided Permanent = (λ e. absurd (false≢true e), λ e. cc)
tentative_decided Protected = (λ e. absurd (false≢true e), λ e. cc)

none_more : (b : Bool) (t : ℕ) → eqb (cond b 1 0 + t) 0 ≡ (not b && eqb t 0)
none_more true t = ne_eqb (1 + t) 0 (λ e. omega arith)
none_more false t = ap (λ (n : ℕ). eqb n 0) (omega arith)

none_tentative : (ps : List Placed) → Decides (eqb (tentatives ps) 0) (NoneTentative ps)
unfolding tentatives
none_tentative =
    Decides-by_and (λ p. not (is_tentative p)) (λ p. p.status ≡ Tentative → ⊥) (λ ps. eqb (tentatives ps) 0)
    (λ p. Decides-not (is_tentative p) (tentative_decided p.status)) refl (λ p ps. none_more (is_tentative p) (tentatives ps))

-- ---- exactly one

module _ (p : Placed) (ps : List Placed) where
  only : NoneTentative ps → (j : ℕ) (d : Placed) → j < length (p ∷ ps) → (get_or (p ∷ ps) j d).status ≡ Tentative → j ≡ 0
  only h zero d l t = refl
  only h (suc j) d l t = absurd (All-get_or (λ q. q.status ≡ Tentative → ⊥) ps j d (omega arith) h t)

  others : is_tentative p ≡ false → (i : ℕ) → ((j : ℕ) (d : Placed) → j < length ps → (get_or ps j d).status ≡ Tentative → j ≡ i)
      → (j : ℕ) (d : Placed) → j < length (p ∷ ps) → (get_or (p ∷ ps) j d).status ≡ Tentative → j ≡ suc i
  others b i f zero d l t = absurd (true≢false (sym ((tentative_decided p.status).1 t) ∙ b))
  others b i f (suc j) d l t = ap suc (f j d (omega arith) t)

one_from : (ps : List Placed) → tentatives ps ≡ 1 → OneTentative ps
unfolding tentatives
one_from [] e = absurd (omega arith)
one_from (p ∷ ps) e = go (is_tentative p) refl e (one_from ps)
  where
    go : (b : Bool) → is_tentative p ≡ b → cond b 1 0 + tentatives ps ≡ 1 → (tentatives ps ≡ 1 → OneTentative ps) → OneTentative (p ∷ ps)
    go true s q r =
        (0, omega arith, (λ d. (tentative_decided p.status).0 s), only p ps ((none_tentative ps).0 (eq-eqb (tentatives ps) 0 (omega arith))))
    go false s q r = let o = r (omega arith) in (suc o.0, omega (arith, o.1), o.2, others p ps s o.0 o.3)

one_of : (ps : List Placed) (i : ℕ) → i < length ps → ((d : Placed) → (get_or ps i d).status ≡ Tentative)
    → ((j : ℕ) (d : Placed) → j < length ps → (get_or ps j d).status ≡ Tentative → j ≡ i) → tentatives ps ≡ 1
unfolding tentatives
one_of [] i l s f = absurd (omega arith)
one_of (p ∷ ps) zero l s f =
    let n : NoneTentative ps = All-from_get_or (λ q. q.status ≡ Tentative → ⊥) ps p (λ j k t. omega (arith, f (suc j) p (omega arith) t)) in
    ap (λ (b : Bool). cond b 1 0 + tentatives ps) ((tentative_decided p.status).1 (s p))
    ∙ ap (λ (n : ℕ). 1 + n) (eqb-true (tentatives ps) 0 ((none_tentative ps).1 n))
one_of (p ∷ ps) (suc i) l s f =
    let b : is_tentative p ≡ false = not-true (is_tentative p) ((Decides-not (is_tentative p) (tentative_decided p.status)).1 (λ t. omega (arith, f 0 p (omega arith) t))) in
    ap (λ (b : Bool). cond b 1 0 + tentatives ps) b
    ∙ ap (λ (n : ℕ). 0 + n) (one_of ps i (omega arith) s (λ j d k t. omega (arith, f (suc j) d (omega arith) t)))

one_tentative : (ps : List Placed) → Decides (eqb (tentatives ps) 1) (OneTentative ps)
one_tentative ps =
    Decides-like (eqb (tentatives ps) 1) (one_from ps) (λ h. one_of ps h.0 h.1 h.2 h.3) (Decides-eqb (tentatives ps) 1)

-- ---- where the output's entry stands

module _ (x : ℕ) (bs : List ℕ) (i : ℕ) (others : List ℕ) where
  two-decided : (es : List Entry)
      → Decides (two_in x bs i others (Some es)) ((i + 2 ≤ length es) × ((a : ℕ) → a < 2 * (14 + x) → get_or bs (10 + i * (14 + x) + a) 0 ≡ get_or others a 0))
  two-decided es =
      Decides-and (leb (i + 2) (length es)) (same_bytes bs (entry_start x i) (2 * (14 + x)) others) (decides_leb _ _)
      (same_decided bs (entry_start x i) (2 * (14 + x)) others)

  two_from : (o : Option (List Entry)) → segment_entries x bs ≡ o → two_in x bs i others o ≡ true → TwoStand x bs i others
  two_from None e t = absurd (false≢true t)
  two_from (Some es) e t =
      let r = (two-decided es).0 t in
      let s = read_stand x bs es e in (length es, segment_few x bs es e, s, r.0, r.1)

  two_of : TwoStand x bs i others → two_stand x bs i others ≡ true
  two_of h =
      let r = stand_read x bs (capacity_of x) h.0 10 h.1 h.2 in
      ap (two_in x bs i others) r.1 ∙ (two-decided r.0).1 (omega (arith, r.2, h.3), h.4)

pub rule_six_statuses : RuleSixStatuses
rule_six_statuses x dir ks None ps = none_tentative ps
rule_six_statuses x dir ks (Some p) ps =
    let a = eqb (tentatives ps) 1 in
    let b = meets p.segment ks in
    let s = segment_at dir p.segment in
    let c = two_stand x s p.index p.entries in
    Decides-like (a && (b && c)) (λ h. (h.0, h.1.0, h.1.1)) (λ h. (h.0, (h.1, h.2)))
    (Decides-and a (b && c) (one_tentative ps)
    (Decides-and b c (Decides-by_or (λ k. eqb k p.segment) (λ k. k ≡ p.segment) (meets p.segment) (λ k. Decides-eqb _ _) refl (λ _ _. refl) ks)
    (two_from x s p.index p.entries (segment_entries x s) refl, two_of x s p.index p.entries)))
