-- The first broken rule, test by test.
use Rattle.std.proofs.Common.{◌≡◌, ℕ, ◌<◌, ◌≤◌, Bool, true, false, cond, ◌&&◌, ◌⊎◌, List, is_some, Some, None, Decides, Option, sym, refl, ap, ◌∙◌, subst, inl, inr, ⊎_elim, arith}
use Rattle.std.proofs.lemmas.Bool.{false≢true}
use Rattle.std.proofs.lemmas.Bool.Decides.{Decides-and}
use Rattle.segment.specs.Chains.{next_of, chain_from}
use Rattle.segment.proofs.Rule4 as four
use Rattle.directory.specs.declared.pending.Pending.{Pending}
use Rattle.directory.specs.Finds.{all_well_named, all_apart}
use Rattle.directory.specs.Rules.{in_use, every, extra_sound, lawful_at, open_stands, contiguous_from, broken_late, broken_along, broken_by, broken_rule}
use Rattle.rulebook.specs.First.{Exactly, total, highest, extra, first_block, entries, IsChain, Third, Fourth, Fifth, Sixth, Seventh, Eighth, Ninth, KeepsRules, IsFirst, RulesDecided, FirstTold}
use Rattle.rulebook.proofs.Heading.{rule_three, rule_five, rule_seven}
use Rattle.rulebook.proofs.Listing.{rule_six-segments}
use Rattle.rulebook.proofs.Opening.{rule_six_statuses}
use Rattle.rulebook.proofs.Naming.{rule_eight, rule_nine}
use Rattle.rulebook.proofs.Chaining.{chain_told, chain_found}

-- ---- a test before others: where it fails, its number is told

module _ {R : Type 0} (t : Bool) (d : Decides t R) where
  here : (a k : ℕ) → (a ≡ k → ⊥) → Exactly (cond t a k ≡ k) (R → ⊥)
  here a k n = go t d
    where
      go : (b : Bool) → Decides b R → Exactly (cond b a k ≡ k) (R → ⊥)
      go true d = (λ e. absurd (n e), λ f. absurd (f (d.0 refl)))
      go false d = (λ _ r. absurd (false≢true (d.1 r)), λ _. refl)

  later : {Q : Type 0} (a k m : ℕ) → (k ≡ m → ⊥) → Exactly (a ≡ m) Q → Exactly (cond t a k ≡ m) (R × Q)
  later {Q} a k m n q = go t d
    where
      go : (b : Bool) → Decides b R → Exactly (cond b a k ≡ m) (R × Q)
      go true d = (λ e. (d.0 refl, q.0 e), λ h. q.1 h.1)
      go false d = (λ e. absurd (n e), λ h. absurd (false≢true (d.1 h.0)))

  last : (k m : ℕ) → (k ≡ m → ⊥) → Exactly (cond t m k ≡ m) R
  last k m n = go t d
    where
      go : (b : Bool) → Decides b R → Exactly (cond b m k ≡ m) R
      go true d = (λ _. d.0 refl, λ _. refl)
      go false d = (λ e. absurd (n e), λ r. absurd (false≢true (d.1 r)))

moved : {Q : Type 0} (a b m : ℕ) → a ≡ b → Exactly (b ≡ m) Q → Exactly (a ≡ m) Q
moved a b m e q = (λ p. q.0 (sym e ∙ p), λ h. e ∙ q.1 h)

-- none, or a number above j
Above : ℕ → ℕ → Type 0
Above j n = (n ≡ 0) ⊎ ((j < n) × (n ≤ 9))

above : (t : Bool) (a k j : ℕ) → j < k → k ≤ 9 → Above k a → Above j (cond t a k)
unfolding Above
above true a k j l m (inl e) = inl e
above true a k j l m (inr p) = inr (omega (arith, p.0), p.1)
above false a k j l m h = inr (l, m)

never : (a k : ℕ) → 0 < k → Above k a → a ≡ k → ⊥
unfolding Above
never a k l (inl e) q = omega arith
never a k l (inr p) q = omega (arith, p.0)

both : (p q : Bool) (a k : ℕ) → cond p (cond q a k) k ≡ cond (p && q) a k
both true q a k = refl
both false q a k = refl

module _ (dir : List ℕ) (v : ℕ) (o : Option Pending) where
  -- ---- along a chain
  module _ (ks : List ℕ) where
    abbrev t5 : Bool
    t5 = extra_sound (extra dir) dir ks

    abbrev t6 : Bool
    t6 = every (lawful_at (extra dir) dir) ks && open_stands (extra dir) dir ks o (entries dir ks)

    abbrev t7 : Bool
    t7 = contiguous_from (extra dir) dir v (first_block dir) ks

    abbrev t8 : Bool
    t8 = all_well_named (entries dir ks)

    abbrev t9 : Bool
    t9 = all_apart (entries dir ks)

    abbrev n9 : ℕ
    n9 = cond t9 0 9

    abbrev n8 : ℕ
    n8 = cond t8 n9 8

    abbrev n7 : ℕ
    n7 = cond t7 n8 7

    abbrev n6 : ℕ
    n6 = cond t6 n7 6

    abbrev n5 : ℕ
    n5 = cond t5 n6 5

    abbrev told : ℕ
    told = broken_along (extra dir) dir v (first_block dir) o ks

    told_is : told ≡ n5
    unfolding broken_along broken_late
    told_is = ap (λ (n : ℕ). cond t5 n 5) (both (every (lawful_at (extra dir) dir) ks) (open_stands (extra dir) dir ks o (entries dir ks)) n7 6)

    d5 : Decides t5 (Fifth dir ks)
    d5 = rule_five (extra dir) dir ks

    d6 : Decides t6 (Sixth dir o ks)
    d6 = Decides-and _ _ (rule_six-segments (extra dir) dir ks) (rule_six_statuses (extra dir) dir ks o (entries dir ks))

    d7 : Decides t7 (Seventh dir v ks)
    d7 = rule_seven (extra dir) dir v (first_block dir) ks

    d8 : Decides t8 (Eighth dir ks)
    d8 = rule_eight (entries dir ks)

    d9 : Decides t9 (Ninth dir ks)
    d9 = rule_nine (entries dir ks)

    a9 : Above 8 n9
    unfolding Above
    a9 = above t9 0 9 8 (omega arith) (omega arith) (inl refl)

    a8 : Above 7 n8
    a8 = above t8 n9 8 7 (omega arith) (omega arith) a9

    a7 : Above 6 n7
    a7 = above t7 n8 7 6 (omega arith) (omega arith) a8

    a6 : Above 5 n6
    a6 = above t6 n7 6 5 (omega arith) (omega arith) a7

    a5 : Above 4 told
    a5 = subst (Above 4) (sym told_is) (above t5 n6 5 4 (omega arith) (omega arith) a6)

    e5 : Exactly (told ≡ 5) (Fifth dir ks → ⊥)
    e5 = moved told n5 5 told_is (here t5 d5 n6 5 (never n6 5 (omega arith) a6))

    -- behind rule 5, and behind rule 6
    behind5 : {Q : Type 0} (m : ℕ) → (5 ≡ m → ⊥) → Exactly (n6 ≡ m) Q → Exactly (told ≡ m) (Fifth dir ks × Q)
    behind5 m n q = moved told n5 m told_is (later t5 d5 n6 5 m n q)

    behind6 : {Q : Type 0} (m : ℕ) → (5 ≡ m → ⊥) → (6 ≡ m → ⊥) → Exactly (n7 ≡ m) Q → Exactly (told ≡ m) (Fifth dir ks × (Sixth dir o ks × Q))
    behind6 m n p q = behind5 m n (later t6 d6 n7 6 m p q)

    e6 : Exactly (told ≡ 6) (Fifth dir ks × (Sixth dir o ks → ⊥))
    e6 = behind5 6 (λ e. omega arith) (here t6 d6 n7 6 (never n7 6 (omega arith) a7))

    e7 : Exactly (told ≡ 7) (Fifth dir ks × (Sixth dir o ks × (Seventh dir v ks → ⊥)))
    e7 = behind6 7 (λ e. omega arith) (λ e. omega arith) (here t7 d7 n8 7 (never n8 7 (omega arith) a8))

    e8 : Exactly (told ≡ 8) (Fifth dir ks × (Sixth dir o ks × (Seventh dir v ks × (Eighth dir ks → ⊥))))
    e8 =
        behind6 8 (λ e. omega arith) (λ e. omega arith)
        (later t7 d7 n8 7 8 (λ e. omega arith) (here t8 d8 n9 8 (never n9 8 (omega arith) a9)))

    e9 : Exactly (told ≡ 9) (Fifth dir ks × (Sixth dir o ks × (Seventh dir v ks × (Eighth dir ks × (Ninth dir ks → ⊥)))))
    e9 =
        behind6 9 (λ e. omega arith) (λ e. omega arith)
        (later t7 d7 n8 7 9 (λ e. omega arith) (later t8 d8 n9 8 9 (λ e. omega arith) (here t9 d9 0 9 (λ e. omega arith))))

    e0 : Exactly (told ≡ 0) (Fifth dir ks × (Sixth dir o ks × (Seventh dir v ks × (Eighth dir ks × Ninth dir ks))))
    e0 =
        behind6 0 (λ e. omega arith) (λ e. omega arith)
        (later t7 d7 n8 7 0 (λ e. omega arith) (later t8 d8 n9 8 0 (λ e. omega arith) (last t9 d9 9 0 (λ e. omega arith))))

  -- ---- the chain
  abbrev found : Option (List ℕ)
  found = chain_from (highest dir) (highest dir) (next_of dir) 1

  by_chain : (Q : List ℕ → Type 0) (m : ℕ) → (4 ≡ m → ⊥) → ((ks : List ℕ) → Exactly (told ks ≡ m) (Q ks))
      → (c : Option (List ℕ)) → found ≡ c → Exactly (broken_by dir v o c ≡ m) ((ks : List ℕ) × IsChain dir ks × Q ks)
  by_chain Q m n q None e = (
    (λ z. absurd (n z)),
    (λ r. absurd (let s : ◌≡◌ {A = Option (List ℕ)} None (Some r.0) = sym e ∙ chain_found dir r.0 r.1 in let z : ◌≡◌ {A = ℕ} 0 1 = cc in omega arith)),
  )
  by_chain Q m n q (Some ks) e = (
    (λ z. (ks, chain_told dir ks e, (q ks).0 z)),
    (λ r.
        let s : ◌≡◌ {A = Option (List ℕ)} (Some r.0) (Some ks) = sym (chain_found dir r.0 r.1) ∙ e in
        let k : r.0 ≡ ks = cc in (q ks).1 (subst Q k r.2)),
  )

  no_chain : (c : Option (List ℕ)) → found ≡ c → Exactly (broken_by dir v o c ≡ 4) (Fourth dir → ⊥)
  no_chain None e = ((λ _ h. absurd (false≢true (sym (ap is_some e) ∙ (four.rule_four (highest dir) (next_of dir)).1 h))), λ _. refl)
  no_chain (Some ks) e =
      ((λ z. absurd (never (told ks) 4 (omega arith) (a5 ks) z)), λ f. absurd (f ((four.rule_four (highest dir) (next_of dir)).0 (ap is_some e))))

  above_chain : (c : Option (List ℕ)) → Above 3 (broken_by dir v o c)
  unfolding Above
  above_chain None = inr (omega arith, omega arith)
  above_chain (Some ks) = ⊎_elim (λ e. inl e) (λ p. inr (omega (arith, p.0), p.1)) (a5 ks)

  -- ---- all
  abbrev n4 : ℕ
  n4 = broken_by dir v o found

  d3 : Decides (in_use (highest dir) (total dir)) (Third dir)
  d3 = rule_three (highest dir) (total dir)

  behind3 : {Q : Type 0} (m : ℕ) → (3 ≡ m → ⊥) → Exactly (n4 ≡ m) Q → Exactly (broken_rule dir v o ≡ m) (Third dir × Q)
  unfolding broken_rule
  behind3 m n q = later (in_use (highest dir) (total dir)) d3 n4 3 m n q

  behind4 : (Q : List ℕ → Type 0) (m : ℕ) → (3 ≡ m → ⊥) → (4 ≡ m → ⊥) → ((ks : List ℕ) → Exactly (told ks ≡ m) (Q ks))
      → Exactly (broken_rule dir v o ≡ m) (Third dir × ((ks : List ℕ) × IsChain dir ks × Q ks))
  behind4 Q m n p q = behind3 m n (by_chain Q m p q found refl)

  pub decided : Exactly (broken_rule dir v o ≡ 0) (KeepsRules dir v o)
  decided =
      let e = behind4 (λ ks. Fifth dir ks × (Sixth dir o ks × (Seventh dir v ks × (Eighth dir ks × Ninth dir ks)))) 0 (λ e. omega arith) (λ e. omega arith) e0 in (
        (λ z.
            let r = e.0 z in
            let s = r.1.2 in
            record {
              chain = r.1.0;
              third = r.0;
              fourth = r.1.1;
              fifth = s.0;
              sixth = s.1.0;
              seventh = s.1.1.0;
              eighth = s.1.1.1.0;
              ninth = s.1.1.1.1;
            }),
        (λ k. e.1 (k.third, (k.chain, k.fourth, (k.fifth, (k.sixth, (k.seventh, (k.eighth, k.ninth))))))),
      )

  pub first : IsFirst dir v o (broken_rule dir v o)
  unfolding broken_rule Above
  first =
      record {
        range = ⊎_elim (λ e. inl e) (λ p. inr (omega (arith, p.0), p.1)) (above (in_use (highest dir) (total dir)) n4 3 2 (omega arith) (omega arith) (above_chain found));
        third = here (in_use (highest dir) (total dir)) d3 n4 3 (never n4 3 (omega arith) (above_chain found));
        fourth = behind3 4 (λ e. omega arith) (no_chain found refl);
        fifth = behind4 (λ ks. Fifth dir ks → ⊥) 5 (λ e. omega arith) (λ e. omega arith) e5;
        sixth = behind4 (λ ks. Fifth dir ks × (Sixth dir o ks → ⊥)) 6 (λ e. omega arith) (λ e. omega arith) e6;
        seventh = behind4 (λ ks. Fifth dir ks × (Sixth dir o ks × (Seventh dir v ks → ⊥))) 7 (λ e. omega arith) (λ e. omega arith) e7;
        eighth = behind4 (λ ks. Fifth dir ks × (Sixth dir o ks × (Seventh dir v ks × (Eighth dir ks → ⊥)))) 8 (λ e. omega arith) (λ e. omega arith) e8;
        ninth =
            behind4 (λ ks. Fifth dir ks × (Sixth dir o ks × (Seventh dir v ks × (Eighth dir ks × (Ninth dir ks → ⊥))))) 9 (λ e. omega arith) (λ e. omega arith) e9;
      }

pub rules_decided : RulesDecided
rules_decided dir v o = decided dir v o

pub first-told : FirstTold
first-told dir v o = first dir v o
