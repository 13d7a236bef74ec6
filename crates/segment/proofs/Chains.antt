-- The chain of segments, link by link.
use Rattle.std.proofs.Common.{◌≡◌, ℕ, zero, suc, ◌+◌, ◌-◌, ◌<◌, ◌≤◌, true, ◌||◌, eqb, ltb, ◌⊎◌, List, [], ◌∷◌, ◌++◌, length, take, set, Some, None, Option, sym, refl, ap, ◌∙◌, inl, inr, arith}
use Rattle.std.specs.Option.{option_map}
use Rattle.std.proofs.lemmas.List.{append_assoc, append-nil, take_more_set}
use Rattle.std.proofs.lemmas.Bool.{eq-eqb, ne_eqb, lt-ltb, le-ltb, or_left, or_right, or_from}
use Rattle.segment.specs.Chains.{chain_from}

one-before : (xs : List ℕ) (x : ℕ) (r : Option (List ℕ)) → option_map (λ ys. xs ++ ys) (option_map (λ ys. x ∷ ys) r) ≡ option_map (λ ys. (xs ++ x ∷ []) ++ ys) r
one-before xs x None = refl
one-before xs x (Some ys) = ap Some (sym (append_assoc xs (x ∷ []) ys))

module _ (h : ℕ) (next : ℕ → ℕ) where
  chain_more : (n k : ℕ) → 0 < n → (k ≡ 0 → ⊥) → k ≤ h → chain_from n h next k ≡ option_map (λ ks. k ∷ ks) (chain_from (n - 1) h next (next k))
  unfolding chain_from
  chain_more zero k l p q = absurd (omega arith)
  chain_more (suc n) k l p q =
      let e : suc n - 1 ≡ n = omega arith in
      rw (or_from (eqb k 0) (ltb h k) (ne_eqb k 0 p) (le-ltb h k q), e)

  chain_bad : (n k : ℕ) → 0 < n → (eqb k 0 || ltb h k) ≡ true → chain_from n h next k ≡ None
  unfolding chain_from
  chain_bad zero k l p = absurd (omega arith)
  chain_bad (suc n) k l p = rw p

  chain_end : (n k : ℕ) → n ≡ 0 → k ≡ 0 → chain_from n h next k ≡ Some []
  unfolding chain_from
  chain_end n k z e = rw (z, e)

  chain_long : (n k : ℕ) → n ≡ 0 → (k ≡ 0 → ⊥) → chain_from n h next k ≡ None
  unfolding chain_from
  chain_long n k z p = rw (z, ne_eqb k 0 p)

  -- the first i of some segments have been met, and k comes next
  abbrev pub Met : List ℕ → ℕ → ℕ → Type 0
  Met ks i k = option_map (λ ys. take i ks ++ ys) (chain_from (h - i) h next k) ≡ chain_from h h next 1

  module _ (ks : List ℕ) (i k : ℕ) (m : Met ks i k) where
    left : {r : Option (List ℕ)} → chain_from (h - i) h next k ≡ r → option_map (λ ys. take i ks ++ ys) r ≡ chain_from h h next 1
    left e = ap (option_map (λ ys. take i ks ++ ys)) (sym e) ∙ m

    pub met_bad : i < h → (k ≡ 0) ⊎ ((k ≡ 0 → ⊥) × (h < k)) → None ≡ chain_from h h next 1
    met_bad l (inl z) = left (chain_bad (h - i) k (omega arith) (or_left (eqb k 0) (ltb h k) (eq-eqb k 0 z)))
    met_bad l (inr z) = left (chain_bad (h - i) k (omega arith) (or_right (eqb k 0) (ltb h k) (lt-ltb h k z.1)))

    pub met-long : i ≡ h → (k ≡ 0 → ⊥) → None ≡ chain_from h h next 1
    met-long l p = left (chain_long (h - i) k (omega arith) p)

    pub met_all : i ≡ h → k ≡ 0 → Some (take h ks) ≡ chain_from h h next 1
    met_all l e =
        ap (λ (n : ℕ). Some (take n ks)) (sym l) ∙ ap Some (sym (append-nil (take i ks))) ∙ left (chain_end (h - i) k (omega arith) e)

    pub met_more : i < h → i < length ks → (k ≡ 0 → ⊥) → k ≤ h → Met (set ks i k) (i + 1) (next k)
    met_more l f p q =
        let e : h - i - 1 ≡ h - (i + 1) = omega arith in
        let one : chain_from (h - i) h next k ≡ option_map (λ ys. k ∷ ys) (chain_from (h - (i + 1)) h next (next k))
        = chain_more (h - i) k (omega arith) p q ∙ ap (λ n. option_map (λ ys. k ∷ ys) (chain_from n h next (next k))) e in
        simp (take_more_set ks i k f) (sym (one-before (take i ks) k _) ∙ left one)
